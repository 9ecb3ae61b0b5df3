-- The answers of the sheet check compute: each test, its place, and their order, in one test. Assumes nothing.
use Rattle.std.specs.Prelude.{◌≡◌, refl, List, [], ◌∷◌, ℕ}
use Rattle.finite.specs.Count.{tabulate, below, count}
use Rattle.finite.specs.Search.{any, all, first_from, first, ascending}
use Rattle.finite.specs.Pairs.{pair_le}
use Rattle.table.specs.Table.{neighbors, bad_start, beyond, looped, unsorted, unreturned, check_of}
use Rattle.table.specs.Guard.{refused, answer}
use Rattle.table.specs.Guard.{Guard}
use Rattle.table.specs.Guard.{clear}
use Rattle.anchored.specs.Sheet.{misplaced, too_high, too_low, too_late}
use Rattle.pool.specs.Input.{admit_of}
use Rattle.level_sheet.specs.SheetCheck.{sheet_of, check_sheet_of}

-- one vertex, two joined, and a chain of four: the anchored bytes, the levels, the layers
abbrev single : List ℕ → List ℕ → List ℕ → Guard
single = check_sheet_of (0 ∷ 0 ∷ []) []

abbrev pair : List ℕ → List ℕ → List ℕ → Guard
pair = check_sheet_of (0 ∷ 1 ∷ 2 ∷ []) (1 ∷ 0 ∷ [])

abbrev chain : List ℕ → List ℕ → List ℕ → Guard
chain = check_sheet_of (0 ∷ 1 ∷ 3 ∷ 5 ∷ 6 ∷ []) (1 ∷ 0 ∷ 2 ∷ 1 ∷ 3 ∷ 2 ∷ [])

-- nobody of four is anchored
abbrev none : List ℕ
none = 0 ∷ 0 ∷ 0 ∷ 0 ∷ []

pub cases :
    -- the defined sheet, without anchors and with two
    (chain none (1 ∷ 1 ∷ 1 ∷ 1 ∷ []) (1 ∷ 2 ∷ 2 ∷ 1 ∷ []) ∷ chain (1 ∷ 0 ∷ 0 ∷ 1 ∷ []) (65535 ∷ 2 ∷ 2 ∷ 65535 ∷ []) (0 ∷ 1 ∷ 1 ∷ 0 ∷ []) ∷ [] ≡ clear ∷ clear ∷ [])
    -- 13: either half too short
    × (chain none (1 ∷ 1 ∷ 1 ∷ []) (1 ∷ 2 ∷ 2 ∷ 1 ∷ []) ∷ chain none (1 ∷ 1 ∷ 1 ∷ 1 ∷ []) (1 ∷ 2 ∷ 2 ∷ []) ∷ [] ≡ refused 13 0 ∷ refused 13 0 ∷ [])
    -- 14, smallest: a layer 0; an anchored entry of another level, of another layer; an anchored vertex's entry elsewhere
    × (single (0 ∷ []) (0 ∷ []) (0 ∷ []) ∷ single (1 ∷ []) (0 ∷ []) (0 ∷ []) ∷ single (1 ∷ []) (65535 ∷ []) (1 ∷ []) ∷ single (0 ∷ []) (65535 ∷ []) (0 ∷ []) ∷ []
    ≡ refused 14 0 ∷ refused 14 0 ∷ refused 14 0 ∷ refused 14 0 ∷ [])
    -- 19, 20, 21, smallest
    × (single (0 ∷ []) (1 ∷ []) (1 ∷ []) ∷ pair (0 ∷ 0 ∷ []) (0 ∷ 0 ∷ []) (1 ∷ 1 ∷ []) ∷ single (0 ∷ []) (0 ∷ []) (2 ∷ []) ∷ [] ≡ refused 19 0 ∷ refused 20 0 ∷ refused 21 0 ∷ [])
    -- case J
    × (chain none (1 ∷ 1 ∷ 1 ∷ 1 ∷ []) (1 ∷ 2 ∷ 3 ∷ 1 ∷ []) ≡ refused 21 2)
    -- the byte is asked, not the entry: 65,535 at a vertex that is not anchored is a level too high
    × (chain none (1 ∷ 1 ∷ 1 ∷ 65535 ∷ []) (1 ∷ 2 ∷ 2 ∷ 1 ∷ []) ≡ refused 19 3)
    -- the lowest number first, though a lower vertex fails a higher one: 14 before 19, 19 before 20, 20 before 21
    × (chain none (9 ∷ 1 ∷ 1 ∷ 1 ∷ []) (1 ∷ 2 ∷ 2 ∷ 0 ∷ []) ∷ chain none (0 ∷ 1 ∷ 1 ∷ 2 ∷ []) (1 ∷ 2 ∷ 2 ∷ 1 ∷ []) ∷ chain none (1 ∷ 1 ∷ 1 ∷ 1 ∷ []) (4 ∷ 2 ∷ 2 ∷ 1 ∷ []) ∷ []
    ≡ refused 14 3 ∷ refused 19 3 ∷ refused 20 1 ∷ [])
    -- the lowest vertex of several
    × (chain none (1 ∷ 1 ∷ 1 ∷ 1 ∷ []) (1 ∷ 0 ∷ 2 ∷ 0 ∷ []) ∷ chain none (1 ∷ 3 ∷ 1 ∷ 3 ∷ []) (1 ∷ 2 ∷ 2 ∷ 1 ∷ []) ∷ chain none (1 ∷ 1 ∷ 1 ∷ 1 ∷ []) (1 ∷ 1 ∷ 1 ∷ 1 ∷ []) ∷ chain none (1 ∷ 1 ∷ 1 ∷ 1 ∷ []) (1 ∷ 4 ∷ 6 ∷ 1 ∷ []) ∷ []
    ≡ refused 14 1 ∷ refused 19 1 ∷ refused 20 1 ∷ refused 21 1 ∷ [])
unfolding answer check_sheet_of sheet_of admit_of check_of neighbors bad_start beyond looped unsorted unreturned misplaced too_high too_low too_late pair_le first first_from any all ascending below tabulate count
cases = (refl, refl, refl, refl, refl, refl, refl, refl)
