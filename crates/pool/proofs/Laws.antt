-- What admission promises, in the words of the theorems. Assumes nothing.
use mathlib.Core.Path.{◌≡◌, ◌∙◌}
use mathlib.Core.Bool.{not, cond}
use mathlib.Core.List.{List}
use Prim.Native.Nat.{ℕ, ◌≤◌, ◌<◌}
use native.Mathlib.Omega.{arith}
use lib.ListN.{length, get_or}
use lib.Dec.{T, ltb, eqb, not_T, eqb→eq}
use borrow.Author.Tests.{le-ltb, eq-eqb, ne_eqb, ltb-false, eqb-true, not-false}
use Rattle.finite.proofs.Tests.{neqb}
use Rattle.table.specs.Table.{vertices, check_of, SoundTable}
use Rattle.table.specs.Guard.{refused, refuse}
use Rattle.table.specs.Guard.{clear}
use Rattle.table.proofs.Guards.{both-passed, cleared}
use Rattle.table.proofs.Laws.{went_on, went_past, sound, pass}
use Rattle.table.proofs.Numbers.{Between, between_sound, between_next, between_found, between_past, between_check}
use Rattle.anchored.specs.Graph.{Simple}
use Rattle.pool.specs.Input.{graph_of, anchored_by, admit_of, Admitted}

-- the graph of a sound table is simple
pub simple : {s l : List ℕ} → SoundTable s l → Simple (graph_of s l)
simple t = record {
  range = t.range;
  loopless = t.loopless;
  distinct = t.distinct;
  symmetric = t.symmetric;
}

-- the graph of a table that the check accepts is simple: what every theorem about graphs asks for
pub checked_simple : (s l : List ℕ) → check_of s l ≡ clear → Simple (graph_of s l)
checked_simple s l e = simple (sound s l e)

module _ (s l a : List ℕ) where
  -- what admission promises
  pub admitted : admit_of s l a ≡ clear → Admitted s l a
  unfolding admit_of
  admitted e =
      let checked = both-passed (check_of s l) _ e in
      let number = went_on _ _ _ _ checked.1 in
      let bytes = went_past _ _ _ _ number.1 in
      record {
        table = sound s l checked.0;
        long = omega (arith, eqb-true (length a) (vertices s) (not-false (eqb (length a) (vertices s)) number.0));
        bytes = λ v h. ltb-false 1 (get_or a v 0) (bytes.0 v h);
      }

  -- its refusals have the numbers 1 to 10
  pub between_admit : (low high : ℕ) → low ≤ 1 → 10 ≤ high → Between low high (admit_of s l a)
  unfolding admit_of
  between_admit low high from upto =
      let n = vertices s in
      let bytes = refuse 10 (λ v. ltb 1 (get_or a v 0)) n clear in
      between_past low high (check_of s l) (cond (not (eqb (length a) n)) (refused 9 0) bytes) (between_check low high s l from (omega arith))
      (between_next low high (not (eqb (length a) n)) 9 0 bytes (omega arith) (omega arith)
      (between_found low high 10 (λ v. ltb 1 (get_or a v 0)) n clear (omega arith) (omega arith) (between_sound low high)))

  -- of a sound table the bytes decide: their number, then the first above 1
  module _ (checked : check_of s l ≡ clear) where
    pub wrong_number : (length a ≡ vertices s → ⊥) → admit_of s l a ≡ refused 9 0
    unfolding admit_of
    wrong_number other = cleared _ _ checked ∙ rw (ne_eqb (length a) (vertices s) other)

    pub right-number : length a ≡ vertices s → admit_of s l a ≡ refuse 10 (λ v. ltb 1 (get_or a v 0)) (vertices s) clear
    unfolding admit_of
    right-number long = cleared _ _ checked ∙ rw (eq-eqb (length a) (vertices s) long)

    -- the converse: n bytes that keep these promises are admitted
    pub admits : length a ≡ vertices s → Admitted s l a → admit_of s l a ≡ clear
    admits long h = right-number long ∙ pass 10 _ _ _ (λ v b. le-ltb 1 (get_or a v 0) (h.bytes v b))

-- a vertex is not anchored exactly when its byte is 0
pub free_byte : {s l a : List ℕ} → Admitted s l a → (v : ℕ) → v < vertices s → T (not (anchored_by a v)) → get_or a v 0 ≡ 0
free_byte {a = a} h v b t = let other = neqb (get_or a v 0) 1 t in let bound = h.bytes v b in omega arith

pub byte_free : (a : List ℕ) (v : ℕ) → get_or a v 0 ≡ 0 → T (not (anchored_by a v))
byte_free a v e = not_T (anchored_by a v) (λ t. absurd (omega (arith, eqb→eq (get_or a v 0) 1 t)))
