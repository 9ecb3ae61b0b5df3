-- The lowest of the best numbers below a bound, by any order. The laws are in proofs/Best.
use Rattle.std.specs.Prelude.{Bool, not, ◌&&◌, ◌||◌, ℕ}
use Rattle.finite.specs.Count.{below}
use Rattle.finite.specs.Search.{all, first}

-- v passes, and no number below n that passes is better; `no_better w v` compares two
unfoldable pub best_in : (ℕ → Bool) → (ℕ → ℕ → Bool) → ℕ → ℕ → Bool
best_in p no_better n v = p v && all (λ w. not (p w) || no_better w v) (below n)

-- the lowest best number; n if none passes
unfoldable pub choice_in : (ℕ → Bool) → (ℕ → ℕ → Bool) → ℕ → ℕ
choice_in p no_better n = first (best_in p no_better n) n
