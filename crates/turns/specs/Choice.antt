-- The choice by yields, of a house too.
use Rattle.std.specs.Prelude.{Bool, cond, ◌&&◌, List, ℕ, get_or, ℤ, eqb}
use Rattle.std.specs.Int.Signed.{le_z, lt_z}
use Rattle.finite.specs.Count.{below}
use Rattle.finite.specs.Search.{all, first}
use Rattle.anchored.specs.Yield.{least}

-- by yields: v has one above the least, which an anchored vertex has, and no vertex below n has a greater one
unfoldable pub best_by : ℕ → (ℕ → ℤ) → ℕ → Bool
best_by n yield v = lt_z least (yield v) && all (λ w. le_z (yield w) (yield v)) (below n)

-- the lowest best vertex; n if there is none
abbrev pub choice_by : ℕ → (ℕ → ℤ) → ℕ
choice_by n yield = first (best_by n yield) n

-- a yield as house c sees it: that of another house's vertex is the least
abbrev pub yield_in : List ℕ → ℕ → (ℕ → ℤ) → ℕ → ℤ
yield_in hs c yield v = cond (eqb (get_or hs v 0) c) (yield v) least
