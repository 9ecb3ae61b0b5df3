-- The order of pairs of numbers, first component first. The laws are in proofs/Pairs.
use Rattle.std.specs.Prelude.{Bool, ◌&&◌, ◌||◌, ℕ, leb, ltb, eqb}

-- (i, j) is at or above (k, l)
unfoldable pub pair_le : ℕ → ℕ → ℕ → ℕ → Bool
pair_le k l i j = ltb k i || (eqb k i && leb l j)
