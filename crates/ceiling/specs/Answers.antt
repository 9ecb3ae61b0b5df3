-- Document 02, card 11: what the ceiling of a search is refused for.
use Rattle.std.specs.Prelude.{List, ℕ}
use Rattle.table.specs.Guard.{past}
use Rattle.table.specs.Guard.{Guard}
use Rattle.pool.specs.Input.{admit_of}
use Rattle.marking.specs.Marking.{vertex_of, guard_of_free}

-- 13, 14, 19, 20, 21 and 15, as `vertex_of` has them, then 16 for an anchored x
unfoldable pub start_of : List ℕ → List ℕ → List ℕ → List ℕ → List ℕ → ℕ → Guard
start_of s l a lev lay x = past (vertex_of s l a lev lay x) (guard_of_free a x)

-- 1 to 10, then sheet and x: as of the search, but no marks are lent, so nothing is refused 12. Theorem `refuses_as_search`
unfoldable pub ceiling_of : List ℕ → List ℕ → List ℕ → List ℕ → List ℕ → ℕ → Guard
ceiling_of s l a lev lay x = past (admit_of s l a) (start_of s l a lev lay x)
