-- The refusals of an operation that is handed a level sheet and a vertex, of one that marks vertices besides, and of an anchored vertex.
use Rattle.std.specs.Prelude.{cond, List, ℕ, leb, eqb}
use Rattle.table.specs.Table.{vertices}
use Rattle.table.specs.Guard.{refused}
use Rattle.table.specs.Guard.{Guard}
use Rattle.table.specs.Guard.{clear}
use Rattle.pool.specs.Input.{anchored_by, admit_of}
use Rattle.level_sheet.specs.SheetCheck.{sheet_of}
use Rattle.table.specs.Guard.{past}

-- 13, 14, 19, 20, 21 of the sheet, then 15 for x of n or more, at x
unfoldable pub vertex_of : List ℕ → List ℕ → List ℕ → List ℕ → List ℕ → ℕ → Guard
vertex_of s l a lev lay x = past (sheet_of s l a lev lay) (cond (leb (vertices s) x) (refused 15 x) clear)

-- 16 for an anchored x, at x
abbrev pub guard_of_free : List ℕ → ℕ → Guard
guard_of_free a x = cond (anchored_by a x) (refused 16 x) clear

-- 1 to 10, then 12 for m places for marks where m is not n, then sheet and x
unfoldable pub marking_of : List ℕ → List ℕ → List ℕ → List ℕ → List ℕ → ℕ → ℕ → Guard
marking_of s l a lev lay x m = past (admit_of s l a) (cond (eqb m (vertices s)) (vertex_of s l a lev lay x) (refused 12 0))
