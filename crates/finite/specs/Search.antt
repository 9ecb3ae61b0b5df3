-- Searches: whether some or all numbers of a list pass a test, the lowest index that does, the largest; the greatest value. The laws are in proofs/Search.
use Rattle.std.specs.Prelude.{◌≡◌, Bool, true, false, cond, ◌&&◌, ◌||◌, Option, Some, None, List, [], ◌∷◌, ℕ, zero, suc, ◌+◌, ◌-◌, ◌≤◌, ◌<◌, length, get_or, ltb, eqb}
use Rattle.finite.specs.Count.{below}

unfoldable pub any : (ℕ → Bool) → List ℕ → Bool
any p [] = false
any p (w ∷ ws) = p w || any p ws

unfoldable pub all : (ℕ → Bool) → List ℕ → Bool
all p [] = true
all p (w ∷ ws) = p w && all p ws

-- w stands in the list
abbrev pub member : ℕ → List ℕ → Bool
member w l = any (eqb w) l

-- the lowest index from i on, of k indices, that passes; i + k if none does
unfoldable pub first_from : (ℕ → Bool) → ℕ → ℕ → ℕ
first_from p zero i = i
first_from p (suc k) i = cond (p i) i (first_from p k (suc i))

-- the lowest index below n that passes; n if none does
unfoldable pub first : (ℕ → Bool) → ℕ → ℕ
first p n = first_from p n 0

-- that index, or none
abbrev pub found : (ℕ → Bool) → ℕ → Option ℕ
found p n = cond (ltb (first p n) n) (Some (first p n)) None

-- the largest index up to m that passes; 0 if none does
unfoldable pub largest : (ℕ → Bool) → ℕ → ℕ
largest p zero = zero
largest p (suc m) = cond (p (suc m)) (suc m) (largest p m)

-- the greatest of f 0, .., f (n - 1); 0 if there is none
unfoldable pub greatest_of : (ℕ → ℕ) → ℕ → ℕ
greatest_of f zero = 0
greatest_of f (suc n) = cond (ltb (greatest_of f n) (f n)) (f n) (greatest_of f n)

-- no index below i passes: what a search loop has shown at its head
abbrev pub NoneBelow : (ℕ → Bool) → ℕ → Type 0
NoneBelow p i = (k : ℕ) → k < i → p k ≡ false

-- no index from `from` on and below i passes
abbrev pub NoneFrom : (ℕ → Bool) → ℕ → ℕ → Type 0
NoneFrom p from i = (k : ℕ) → from ≤ k → k < i → p k ≡ false

-- the number at place i is below the next
abbrev pub rises : List ℕ → ℕ → Bool
rises xs i = ltb (get_or xs i 0) (get_or xs (i + 1) 0)

-- strictly ascending
unfoldable pub ascending : List ℕ → Bool
ascending xs = all (rises xs) (below (length xs - 1))
