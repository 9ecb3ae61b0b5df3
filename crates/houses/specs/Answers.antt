-- Document 02, card 9: what sharing the rounds among houses is refused for, and its sheet.
use Rattle.std.specs.Prelude.{cond, ◌||◌, List, [], ◌∷◌, ℕ, ◌+◌, ◌*◌, length, get_or, ltb, eqb}
use Rattle.finite.specs.Count.{sum, below}
use Rattle.finite.specs.Search.{all}
use Rattle.table.specs.Table.{vertices, check_of}
use Rattle.table.specs.Guard.{refused, refuse, past}
use Rattle.table.specs.Guard.{Guard}
use Rattle.table.specs.Guard.{clear}
use Rattle.pool.specs.Input.{graph_of, anchored_by}
use Rattle.pool.specs.Lengths.{outside}
use Rattle.sheet.specs.Line.{sheet_of}
use Rattle.turns.specs.Turns.{houses_by, quota_by}
use Rattle.rounds.specs.Shared.{shared_rounds}

-- the sum of the quotas: there are as many lines
unfoldable pub quota_sum : List ℕ → ℕ
quota_sum quotas = sum (quota_by quotas) (below (length quotas))

-- 11 for more than 60 lines, 26 for houses, one for each quota, not 1 to 16, 27 for the first vertex whose house is none of them, 12 for
-- less room than the sheet needs
unfoldable pub quotas_of : ℕ → List ℕ → List ℕ → ℕ → Guard
quotas_of n house quotas room = let houses = length quotas in
    cond (ltb 60 (quota_sum quotas)) (refused 11 0)
    (cond (eqb houses 0 || ltb 16 houses) (refused 26 0)
    (refuse 27 (outside houses house) (length house)
    (cond (ltb room (quota_sum quotas * (48 + n))) (refused 12 0) clear)))

-- 9 for bytes or a list of houses not n, 10 for a byte above 1, then the rest
unfoldable pub members_of : ℕ → List ℕ → List ℕ → List ℕ → ℕ → Guard
members_of n a house quotas room = cond (all (eqb n) (length a ∷ length house ∷ []))
    (refuse 10 (λ v. ltb 1 (get_or a v 0)) (length a) (quotas_of n house quotas room))
    (refused 9 0)

-- what a call refuses: 1 to 8 of the table, then the rest
unfoldable pub houses_of : List ℕ → List ℕ → List ℕ → List ℕ → List ℕ → ℕ → Guard
houses_of s l a house quotas room = past (check_of s l) (members_of (vertices s) a house quotas room)

-- the sheet of the lines that the houses share
unfoldable pub shared_sheet : List ℕ → List ℕ → List ℕ → List ℕ → List ℕ → List ℕ
shared_sheet s l a house quotas = sheet_of (vertices s) (shared_rounds (graph_of s l) (houses_by house (length quotas)) (quota_by quotas) (anchored_by a) (quota_sum quotas))
