-- Laws of stores, and of runs of stores, `sets` of lib.Seq. Assumes nothing.
use mathlib.Core.Path.{◌≡◌, refl, ap, ◌∙◌}
use mathlib.Core.List.{List, [], ◌∷◌, ◌++◌}
use Prim.Native.Nat.{ℕ, suc, ◌+◌, ◌≤◌}
use native.Mathlib.Nat.{add-zero, add-suc, suc-add}
use native.Mathlib.Numerals.{add-one}
use native.Mathlib.Omega.{arith}
use lib.ListN.{length, take, drop, set}
use lib.Seq.{sets, sets-eq, take-append_seam}
use Rattle.finite.specs.Count.{tabulate}
use Rattle.finite.proofs.Count.{length-tabulate}

-- two runs of stores, one behind the other, are one
pub sets-append : (d : List ℕ) (a : ℕ) (xs ys : List ℕ) → sets (sets d a xs) (a + length xs) ys ≡ sets d a (xs ++ ys)
sets-append d a [] ys = rw add-zero
sets-append d a (x ∷ xs) ys = rw (add-suc, ← suc-add) (sets-append (set d a x) (suc a) xs ys)

-- a run from the front on that fits is what the list then begins with
pub sets-front : (d xs : List ℕ) → length xs ≤ length d → take (length xs) (sets d 0 xs) ≡ xs
sets-front d xs h = ap (take (length xs)) (sets-eq xs d 0 (omega arith)) ∙ take-append_seam xs (drop (0 + length xs) d)

module _ (f : ℕ → ℕ) where
  -- a loop that stores f 0, f 1, .. from place a on: nothing stored, one more stored
  pub sets-none : (d : List ℕ) (a : ℕ) → d ≡ sets d a (tabulate f 0)
  unfolding tabulate
  sets-none d a = refl

  pub sets_more : (d e : List ℕ) (a i : ℕ) → e ≡ sets d a (tabulate f i) → set e (a + i) (f i) ≡ sets d a (tabulate f (i + 1))
  unfolding tabulate
  sets_more d e a i q = rw (q, add-one, ← sets-append d a (tabulate f i) (f i ∷ []), length-tabulate f i)
