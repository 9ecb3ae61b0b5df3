-- Document 02, card 11: refusals of a ceiling, computed, on a chain of four vertices. Assumes nothing.
use Rattle.std.specs.Prelude.{◌≡◌, refl, List, [], ◌∷◌, ℕ}
use Rattle.finite.specs.Count.{tabulate, below, count}
use Rattle.finite.specs.Search.{any, all, first_from, first, ascending}
use Rattle.finite.specs.Pairs.{pair_le}
use Rattle.table.specs.Table.{neighbors, bad_start, beyond, looped, unsorted, unreturned, check_of}
use Rattle.table.specs.Guard.{refused, answer}
use Rattle.table.specs.Guard.{Guard}
use Rattle.table.specs.Guard.{clear}
use Rattle.anchored.specs.Sheet.{misplaced, too_high, too_low, too_late}
use Rattle.pool.specs.Input.{admit_of}
use Rattle.level_sheet.specs.SheetCheck.{sheet_of}
use Rattle.marking.specs.Marking.{vertex_of, marking_of}
use Rattle.ceiling.specs.Answers.{start_of, ceiling_of}

-- anchored bytes, levels, layers and x
abbrev chain : List ℕ → List ℕ → List ℕ → ℕ → Guard
chain = ceiling_of (0 ∷ 1 ∷ 3 ∷ 5 ∷ 6 ∷ []) (1 ∷ 0 ∷ 2 ∷ 1 ∷ 3 ∷ 2 ∷ [])

-- nobody anchored, with the defined sheet but for the layer of 2; then 0 anchored
abbrev free : ℕ → ℕ → Guard
free l x = chain (0 ∷ 0 ∷ 0 ∷ 0 ∷ []) (1 ∷ 1 ∷ 1 ∷ 1 ∷ []) (1 ∷ 2 ∷ l ∷ 1 ∷ []) x

abbrev first_anchored : ℕ → ℕ → Guard
first_anchored l x = chain (1 ∷ 0 ∷ 0 ∷ 0 ∷ []) (65535 ∷ 1 ∷ 1 ∷ 1 ∷ []) (0 ∷ 3 ∷ l ∷ 1 ∷ []) x

pub refusals :
    -- the defined sheet and a vertex that is not anchored
    (free 2 0 ∷ free 2 3 ∷ first_anchored 2 1 ∷ [] ≡ clear ∷ clear ∷ clear ∷ [])
    -- 15 and 16, at x
    × (free 2 4 ∷ free 2 9 ∷ first_anchored 2 7 ∷ first_anchored 2 0 ∷ [] ≡ refused 15 4 ∷ refused 15 9 ∷ refused 15 7 ∷ refused 16 0 ∷ [])
    -- a sheet that is not the defined one is told before x
    × (free 3 0 ∷ free 3 9 ∷ first_anchored 3 0 ∷ first_anchored 0 9 ∷ [] ≡ refused 21 2 ∷ refused 21 2 ∷ refused 20 1 ∷ refused 14 2 ∷ [])
    -- bytes are told before the length of a sheet, and that before its entries
    × (chain (0 ∷ 0 ∷ 0 ∷ []) [] [] 9 ∷ chain (0 ∷ 2 ∷ 0 ∷ 0 ∷ []) [] [] 9 ∷ chain (0 ∷ 0 ∷ 0 ∷ 0 ∷ []) (9 ∷ []) (0 ∷ 0 ∷ 0 ∷ 0 ∷ []) 9 ∷ []
    ≡ refused 9 0 ∷ refused 10 1 ∷ refused 13 0 ∷ [])
unfolding tabulate below count any all first_from first ascending pair_le neighbors bad_start beyond looped unsorted unreturned check_of answer misplaced too_high too_low too_late admit_of sheet_of vertex_of marking_of start_of ceiling_of
refusals = (refl, refl, refl, refl)
