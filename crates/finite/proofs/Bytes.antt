-- Laws of numbers in decimal. Assumes nothing.
use mathlib.Core.Path.{◌≡◌, refl}
use mathlib.Core.List.{List, [], ◌∷◌, ◌++◌}
use Prim.Native.Nat.{ℕ, zero, suc, ◌+◌, ◌*◌, ◌-◌, ◌/◌, ◌^◌, ◌≤◌, ◌<◌}
use native.Mathlib.Nat.{div-lt_iff_lt-mul, pow-suc}
use native.Mathlib.Omega.{arith}
use lib.ListN.{length, length-append}
use lib.Dec.{ltb, ltb→lt, nltb→le}
use borrow.Author.Tests.{lt-ltb, le-ltb}
use Rattle.finite.specs.Bytes.{digit, decimal_from, decimal}
use Rattle.finite.proofs.Tests.{split}
use Rattle.finite.proofs.Pairs.{strong}

-- the number that digits say, behind those that say v
abbrev pub value_from : ℕ → List ℕ → ℕ
value_from v [] = v
value_from v (b ∷ bs) = value_from (v * 10 + (b - 48)) bs

-- any fuel of v or more gives the same digits
decimal-enough : (i j v : ℕ) → v ≤ i → v ≤ j → decimal_from i v ≡ decimal_from j v
unfolding decimal_from
decimal-enough zero zero v h g = refl
decimal-enough zero (suc j) v h g = rw (lt-ltb v 10 (omega arith))
decimal-enough (suc i) zero v h g = rw (lt-ltb v 10 (omega arith))
decimal-enough (suc i) (suc j) v h g = rw (decimal-enough i j (v / 10) (omega arith) (omega arith))

-- a number below 10 is its digit, any other the digits of a tenth of it and its last one
pub decimal-one : (v : ℕ) → v < 10 → decimal v ≡ digit v ∷ []
unfolding decimal decimal_from
decimal-one zero h = refl
decimal-one (suc v) h = rw (lt-ltb (suc v) 10 h)

pub decimal-more : (v : ℕ) → 10 ≤ v → decimal v ≡ decimal (v / 10) ++ digit v ∷ []
unfolding decimal decimal_from
decimal-more zero h = absurd (omega arith)
decimal-more (suc v) h = rw (le-ltb (suc v) 10 h, decimal-enough v (suc v / 10) (suc v / 10) (omega arith) (omega arith))

value-append : (v : ℕ) (xs ys : List ℕ) → value_from v (xs ++ ys) ≡ value_from (value_from v xs) ys
value-append v [] ys = refl
value-append v (x ∷ xs) ys = value-append (v * 10 + (x - 48)) xs ys

-- the digits without leading zeros say the number
pub decimal_says : (v : ℕ) → value_from 0 (decimal v) ≡ v
decimal_says = strong (λ v. value_from 0 (decimal v) ≡ v) (λ v before. split (ltb v 10)
    (λ t. rw (decimal-one v (ltb→lt v 10 t)) (omega (arith, ltb→lt v 10 t)))
    (λ t. rw (decimal-more v (nltb→le v 10 t), value-append, before (v / 10) (omega (arith, nltb→le v 10 t))) (omega arith)))

-- a number below 10 to the power k + 1 has at most k + 1 digits
pub decimal-length : (k v : ℕ) → v < 10 ^ suc k → length (decimal v) ≤ suc k
decimal-length zero v h = rw (decimal-one v h) (omega arith)
decimal-length (suc k) v h = split (ltb v 10)
    (λ t. rw (decimal-one v (ltb→lt v 10 t)) (omega arith))
    (λ t. rw (decimal-more v (nltb→le v 10 t), length-append) (omega (arith, decimal-length k (v / 10) ((div-lt_iff_lt-mul (omega arith)).1 (rw pow-suc at h)))))
