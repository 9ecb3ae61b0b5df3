-- A search's answer as the code holds it.
use Rattle.std.specs.Prelude.{ℕ, cond, ltb, Option, Some, None}

-- the number found; none where it is the bound
abbrev pub found_below : ℕ → ℕ → Option ℕ
found_below n x = cond (ltb x n) (Some x) None
