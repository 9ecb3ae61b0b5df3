-- The level-sheet check: refusals 13, 14, 19, 20 and 21 after 1 to 10 (document 01, "Who can cause a refusal"; document 02, card 2).
use Rattle.std.specs.Prelude.{◌≡◌, ◌↔◌, Bool, not, cond, ◌||◌, List, ℕ, ◌≤◌, ◌<◌, length, get_or, T, eqb}
use Rattle.table.specs.Table.{vertices}
use Rattle.table.specs.Guard.{refused, refuse, past}
use Rattle.table.specs.Guard.{Guard}
use Rattle.table.specs.Guard.{clear}
use Rattle.anchored.specs.Core.{level, layer}
use Rattle.anchored.specs.Sheet.{misplaced, too_high, too_low, too_late}
use Rattle.pool.specs.Arrays.{Holds}
use Rattle.pool.specs.Input.{graph_of, anchored_by, admit_of}
use Rattle.std.specs.Prelude.{Result, Ok, Err}
use Rattle.table.specs.Rule.{Refusal}
use Rattle.table.specs.declared.size.Size.{Size}

-- 13 for either half not n long; then 14, 19, 20 and 21, each tested over the whole sheet, with the lowest vertex that fails it
unfoldable pub sheet_of : List ℕ → List ℕ → List ℕ → List ℕ → List ℕ → Guard
sheet_of s l a lev lay =
    let n = vertices s in
    let G = graph_of s l in
    let A = anchored_by a in
    let levels : ℕ → ℕ = λ v. get_or lev v 0 in
    let layers : ℕ → ℕ = λ v. get_or lay v 0 in
    cond (not (eqb (length lev) n)) (refused 13 0)
    (cond (not (eqb (length lay) n)) (refused 13 0)
    (refuse 14 (misplaced G A levels layers) n
    (refuse 19 (too_high G A levels layers) n
    (refuse 20 (too_low G A levels layers) n
    (refuse 21 (too_late G A levels layers) n clear)))))

-- what the check refuses: 1 to 8 of the table, 9, 10, 13, 14, 19, 20, 21
unfoldable pub check_sheet_of : List ℕ → List ℕ → List ℕ → List ℕ → List ℕ → Guard
check_sheet_of s l a lev lay = past (admit_of s l a) (sheet_of s l a lev lay)

-- ---- what an answer tells

-- the defined sheet: what an accepted one is
pub record Accepted (s l a lev lay : List ℕ) : Type 0 where
  pub levels_long : length lev ≡ vertices s
  pub layers_long : length lay ≡ vertices s
  pub levels_hold : Holds lev (vertices s) (level (graph_of s l) (anchored_by a))
  pub layers_hold : Holds lay (vertices s) (layer (graph_of s l) (anchored_by a))

-- the number of an answer; 0 is acceptance
abbrev pub number_in : Result Size Refusal → ℕ
number_in (Ok size) = 0
number_in (Err r) = r.number

-- accepted, or refused with 20 or 21
abbrev pub bounds : ℕ → Bool
bounds number = eqb number 0 || eqb number 20 || eqb number 21

-- what the number of the answer tells of a sheet
pub record Tells (s l a lev lay : List ℕ) (number : ℕ) : Type 0 where
  -- exactly the defined sheet of an admitted input is accepted
  pub defined : (number ≡ 0) ↔ ((admit_of s l a ≡ clear) × Accepted s l a lev lay)
  -- a sheet accepted, or refused with 20 or 21, overstates nobody's level
  pub bounded : T (bounds number) → (v : ℕ) → v < vertices s → get_or lev v 0 ≤ level (graph_of s l) (anchored_by a) v
