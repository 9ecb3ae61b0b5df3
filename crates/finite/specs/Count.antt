-- The table of a function; lists of numbers: membership, how many pass a test, sums. The laws are in proofs/Count.
use Rattle.std.specs.Prelude.{◌≡◌, ◌⊎◌, Bool, List, [], ◌∷◌, ◌++◌, ℕ, zero, suc, ◌+◌}
use mir.Val.{bool_byte}

-- 1 for true, 0 for false, as the code's `b as usize` has it
abbrev pub bit : Bool → ℕ
bit b = bool_byte b

-- f 0, f 1, .., f (n - 1)
unfoldable pub tabulate : {X : Type 0} → (ℕ → X) → ℕ → List X
tabulate f zero = []
tabulate f (suc n) = tabulate f n ++ f n ∷ []

-- 0, 1, .., n - 1
unfoldable pub below : ℕ → List ℕ
below n = tabulate (λ i. i) n

-- how many numbers of a list pass a test; those below n that do are `count p (below n)`
unfoldable pub count : (ℕ → Bool) → List ℕ → ℕ
count p [] = 0
count p (w ∷ ws) = bit (p w) + count p ws

-- the sum of f over a list
unfoldable pub sum : (ℕ → ℕ) → List ℕ → ℕ
sum f [] = 0
sum f (w ∷ ws) = f w + sum f ws

abbrev pub In : ℕ → List ℕ → Type 0
In w [] = ⊥
In w (u ∷ us) = (w ≡ u) ⊎ In w us

-- no number stands twice
abbrev pub Distinct : List ℕ → Type 0
Distinct [] = Unit {0}
Distinct (u ∷ us) = (In u us → ⊥) × Distinct us
