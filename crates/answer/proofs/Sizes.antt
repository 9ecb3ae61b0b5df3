-- The size of a sheet, and what it depends on. Assumes nothing.
use mathlib.Core.Path.{◌≡◌, refl, ap, ◌∙◌}
use mathlib.Core.Bool.{Bool}
use mathlib.Core.List.{List}
use Prim.Native.Nat.{ℕ, ◌+◌, ◌*◌, ◌≤◌}
use native.Mathlib.Nat.{mul-le-mul_right}
use native.Mathlib.Omega.{arith}
use lib.ListN.{length}
use lib.Dec.{ltb}
use Rattle.finite.specs.Search.{member}
use Rattle.table.specs.Table.{vertices}
use Rattle.table.specs.Guard.{clear, refused}
use Rattle.table.proofs.Laws.{went_on}
use Rattle.pool.specs.Input.{graph_of}
use Rattle.text.specs.Text.{reading_of, starts_read, links_read, retained_read}
use Rattle.text.specs.declared.read.Summary.{Summary}
use Rattle.std.specs.Prelude.{Result, Ok, Err}
use Rattle.text.proofs.Arrays.{riders-count, table-read}
use Rattle.sheet.proofs.Lines.{sheet_length}
use Rattle.rounds.specs.Rounds.{rounds_of}
use Rattle.rounds.proofs.Playing.{rounds-length}
use Rattle.answer.specs.Answer.{size_of, asked_of, text_of, answer_of, rounds_asked, sheet_of_text}
use Rattle.answer.proofs.Answers.{Granted, granted, sheet_answer}
use Rattle.answer.proofs.Texts.{rounds-read}

-- the sheet of a text of n riders and r rounds has r × (48 + n) bytes, whatever else the text says
pub text_length : (t : List ℕ) → length (sheet_of_text t) ≡ rounds_asked t * (48 + vertices (starts_read t))
unfolding sheet_of_text
text_length t =
    let G = graph_of (starts_read t) (links_read t) in
    let A : ℕ → Bool = λ v. member v (retained_read t) in
    sheet_length G.size 1 (rounds_of G A (rounds_asked t)) ∙ ap (λ k. k * (48 + G.size)) (rounds-length G A (rounds_asked t))

-- the size depends on the numbers of riders and rounds alone: two texts that agree in these have sheets of equal length
pub same_length : (t u : List ℕ) → vertices (starts_read t) ≡ vertices (starts_read u) → rounds_asked t ≡ rounds_asked u → length (sheet_of_text t) ≡ length (sheet_of_text u)
same_length t u n r = rw (text_length t, text_length u, n, r)

-- it is the size that the call tests its room for
pub size-asked : (t : List ℕ) {asked : Summary} → reading_of t ≡ Ok asked → length (sheet_of_text t) ≡ size_of asked
size-asked t {asked} e =
    let n : vertices (starts_read t) ≡ asked.riders = omega (arith, riders-count t asked e, (table-read t asked e).count) in
    rw (text_length t, rounds-read t e, n)

-- a text of which nothing is refused was read whole
pub text_granted : (t : List ℕ) (room : ℕ) → text_of t room ≡ clear → (asked : Summary) × (reading_of t ≡ Ok asked) × Granted asked (starts_read t) (links_read t) room
unfolding text_of
text_granted t room e = whole (reading_of t) refl (went_on (ltb 65536 (length t)) 17 0 _ e).1
  where
    whole : (c : Result Summary ℕ) → reading_of t ≡ c → (elim c [ Ok asked ↦ asked_of asked (starts_read t) (links_read t) room | Err line ↦ refused 18 line ]) ≡ clear
        → (asked : Summary) × (reading_of t ≡ Ok asked) × Granted asked (starts_read t) (links_read t) room
    whole (Ok asked) q e = (asked, q, granted asked (starts_read t) (links_read t) room e)
    whole (Err line) q e = let z : ◌≡◌ {A = ℕ} 0 1 = cc in absurd (omega arith)

module _ (t : List ℕ) (room : ℕ) {size : ℕ} (e : answer_of t room ≡ Ok size) where
  -- the length answered is the sheet's
  pub length_answered : length (sheet_of_text t) ≡ size
  length_answered = (sheet_answer t room e).1

  -- no sheet has more than 64,320 bytes
  pub size_most : size ≤ 64320
  size_most =
      let read = text_granted t room (sheet_answer t room e).0 in
      let g = read.2 in
      omega (arith, length_answered, size-asked t read.1, g.small, mul-le-mul_right (48 + read.0.riders) g.rounds)
