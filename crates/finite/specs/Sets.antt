-- Sets of numbers as lists of Bool, and steps on them repeated until they rest. The laws are in proofs/Sets.
use Rattle.std.specs.Prelude.{Bool, true, false, ◌&&◌, ◌||◌, List, [], ◌∷◌, ℕ, zero, suc, ◌+◌, get_or, replicate}
use Rattle.finite.specs.Count.{bit}

-- a number past the end of the list is not in the set
abbrev pub has : List Bool → ℕ → Bool
has s v = get_or s v false

-- those of a set that pass a test of their place, the first place being i
unfoldable pub keep : List Bool → ℕ → (ℕ → Bool) → List Bool
keep [] i p = []
keep (b ∷ bs) i p = (b && p i) ∷ keep bs (suc i) p

-- the numbers below n that pass a test
unfoldable pub having : (ℕ → Bool) → ℕ → List Bool
having p n = keep (replicate n true) 0 p

-- how many numbers a set holds
unfoldable pub size : List Bool → ℕ
size [] = zero
size (b ∷ bs) = bit b + size bs

-- a step, taken m times
unfoldable pub rounds : (List Bool → List Bool) → ℕ → List Bool → List Bool
rounds f zero s = s
rounds f (suc m) s = rounds f m (f s)

-- a set below n with those that the test g adds to it
unfoldable pub grow : ℕ → (List Bool → ℕ → Bool) → List Bool → List Bool
grow n g s = having (λ v. has s v || g s v) n
