-- Lists and lent slices: a number in a list that is too great, and refusal 12.
use Rattle.std.specs.Prelude.{Bool, cond, List, ℕ, get_or, leb, eqb}
use Rattle.finite.specs.Search.{all}
use Rattle.table.specs.Table.{vertices}
use Rattle.table.specs.Guard.{refused, past}
use Rattle.table.specs.Guard.{Guard}
use Rattle.table.specs.Guard.{clear}
use Rattle.pool.specs.Input.{admit_of}

-- 1 to 10, then 12 where a lent slice, of all these lengths, is not of n
unfoldable pub slices_of : List ℕ → List ℕ → List ℕ → List ℕ → Guard
slices_of s l a lengths = past (admit_of s l a) (cond (all (eqb (vertices s)) lengths) clear (refused 12 0))

-- number i of a list is not below a bound
abbrev pub outside : ℕ → List ℕ → ℕ → Bool
outside bound numbers i = leb bound (get_or numbers i 0)
