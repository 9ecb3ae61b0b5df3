use Rattle.std.proofs.Common.{◌≡◌, arith, ℕ}
use Rattle.table.specs.declared.size.Size.{Size}
use Rattle.pool.proofs.Arrays.{copied-front}
use Rattle.search.specs.declared.find.Found.{Found}
use Rattle.search.proofs.operation.write_marks.Goals as goal

same-answer : (found : Found) (size size' : Size) (l r : ℕ) → found.lifted ≡ l → found.reached ≡ r → size ≡ size' → ◌≡◌ {A = Found × Size} (found, size) (record { lifted = l; reached = r }, size')
same-answer found size size' l r p q e = rw (← p, ← q, ← e)

pub returns : goal.returns
returns c =
    record {
      answer = same-answer c.search-found.result _ _ _ _ c.search-found.ensures.lifted c.search-found.ensures.reached c.measure.ensures;
      marks = copied-front _ c.search-found.new.marks c.requires.marks_len (omega (arith, c.requires.admitted.table.small)) c.search-found.ensures.marks c.copy.ensures;
    }
