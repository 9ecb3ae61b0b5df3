-- The numbers of refusals: those of the table's check lie between 1 and 8, and no refusal has the number 0. Assumes nothing.
use mathlib.Core.Path.{◌≡◌, refl}
use mathlib.Core.Bool.{Bool, true, false, cond}
use mathlib.Core.List.{List}
use Prim.Native.Nat.{ℕ, ◌≤◌}
use native.Mathlib.Omega.{arith}
use lib.ListN.{length}
use lib.Dec.{ltb, eqb}
use Rattle.finite.specs.Search.{first}
use Rattle.table.specs.Table.{vertices, bad_start, beyond, looped, unsorted, unreturned, check_of}
use Rattle.table.specs.Guard.{refused, number_of, refuse, answer, past}
use Rattle.table.specs.Rule.{Refusal}
use Rattle.table.specs.Guard.{Guard}
use Rattle.table.specs.Guard.{clear}
use Rattle.std.specs.Prelude.{Ok, Err}

-- a refusal has a number from low to high
abbrev pub Between : ℕ → ℕ → Guard → Type 0
Between low high guard = (r : Refusal) → guard ≡ Err r → (low ≤ r.number) × (r.number ≤ high)

module _ (low high : ℕ) where
  pub between_sound : Between low high clear
  between_sound r e = let z : ◌≡◌ {A = ℕ} 0 1 = cc in absurd (omega arith)

  -- a refusal with such a number, or the rest
  pub between_next : (b : Bool) (k p : ℕ) (rest : Guard) → low ≤ k → k ≤ high → Between low high rest → Between low high (cond b (refused k p) rest)
  between_next true k p rest above below later r e = let q : k ≡ r.number = cc in omega arith
  between_next false k p rest above below later r e = later r e

  -- the same for a search
  pub between_found : (k : ℕ) (test : ℕ → Bool) (n : ℕ) (rest : Guard) → low ≤ k → k ≤ high → Between low high rest → Between low high (refuse k test n rest)
  between_found k test n rest = between_next (ltb (first test n) n) k (first test n) rest

  -- one answer, and where it refuses nothing the rest
  pub between_past : (guard rest : Guard) → Between low high guard → Between low high rest → Between low high (past guard rest)
  unfolding answer
  between_past (Ok tt) rest before later = later
  between_past (Err r) rest before later = before

  pub between_check : (s l : List ℕ) → low ≤ 1 → 8 ≤ high → Between low high (check_of s l)
  unfolding check_of
  between_check s l from upto =
      let n = vertices s in
      let eight = refuse 8 (unreturned s l) n clear in
      let seven = refuse 7 (unsorted s l) n eight in
      let six = refuse 6 (looped s l) n seven in
      let five = refuse 5 (beyond s l) n six in
      let four = refuse 4 (bad_start s l) (length s) five in
      let three = cond (ltb 16384 (length l)) (refused 3 0) four in
      let two = cond (ltb 1024 n) (refused 2 0) three in
      between_next (eqb (length s) 0) 1 0 two (omega arith) (omega arith)
      (between_next (ltb 1024 n) 2 0 three (omega arith) (omega arith)
      (between_next (ltb 16384 (length l)) 3 0 four (omega arith) (omega arith)
      (between_found 4 (bad_start s l) (length s) five (omega arith) (omega arith)
      (between_found 5 (beyond s l) n six (omega arith) (omega arith)
      (between_found 6 (looped s l) n seven (omega arith) (omega arith)
      (between_found 7 (unsorted s l) n eight (omega arith) (omega arith)
      (between_found 8 (unreturned s l) n clear (omega arith) (omega arith) between_sound)))))))

-- where no refusal has the number 0, a guard of that number refuses nothing
pub zero-sound : (guard : Guard) (high : ℕ) → Between 1 high guard → number_of guard ≡ 0 → guard ≡ clear
zero-sound (Ok tt) high range e = refl
zero-sound (Err r) high range e = absurd (omega (arith, (range r refl).0))
