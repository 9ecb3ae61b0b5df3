-- Document 02, card 9: refusals of houses and quotas, computed, with four vertices. Assumes nothing.
use Rattle.std.specs.Prelude.{◌≡◌, refl, List, [], ◌∷◌, ℕ, replicate}
use Rattle.finite.specs.Count.{sum, below, tabulate}
use Rattle.finite.specs.Search.{all, first_from, first}
use Rattle.table.specs.Guard.{refused}
use Rattle.table.specs.Guard.{Guard}
use Rattle.table.specs.Guard.{clear}
use Rattle.houses.specs.Answers.{quota_sum, quotas_of, members_of}

-- no vertex anchored, and as much room as 60 lines need
abbrev asked : List ℕ → List ℕ → Guard
asked house quotas = members_of 4 (replicate 4 0) house quotas 3120

-- every vertex in house 0
abbrev one : List ℕ
one = replicate 4 0

-- Clear: one house, 16, quotas of 0, 60 lines, none. 9: bytes or houses short or long, before 10. 10 before 11. 11: 61 lines, a sum beyond 16
-- bits, before 26. 26: no house, 17, before 27. 27: the lowest vertex, at the number of houses, before 12. 12: one byte short.
pub refusals :
    ◌≡◌ {A = List Guard}
    (asked one (3 ∷ [])
    ∷ asked (0 ∷ 15 ∷ 3 ∷ 0 ∷ []) (replicate 16 3)
    ∷ asked (0 ∷ 1 ∷ 2 ∷ 2 ∷ []) (0 ∷ 60 ∷ 0 ∷ [])
    ∷ asked one (0 ∷ [])
    ∷ members_of 0 [] [] (1 ∷ []) 48
    ∷ members_of 4 (9 ∷ 0 ∷ 0 ∷ []) one (61 ∷ []) 0
    ∷ members_of 4 (9 ∷ 0 ∷ 0 ∷ 0 ∷ []) (0 ∷ 0 ∷ 0 ∷ []) (61 ∷ []) 0
    ∷ members_of 4 (9 ∷ 0 ∷ 0 ∷ 0 ∷ []) (0 ∷ 0 ∷ 0 ∷ 0 ∷ 0 ∷ []) (61 ∷ []) 0
    ∷ members_of 4 (0 ∷ 0 ∷ 2 ∷ 9 ∷ []) one (61 ∷ []) 0
    ∷ asked one (61 ∷ [])
    ∷ asked (9 ∷ 9 ∷ 9 ∷ 9 ∷ []) (replicate 17 4)
    ∷ asked one (65535 ∷ 2 ∷ [])
    ∷ asked (9 ∷ 9 ∷ 9 ∷ 9 ∷ []) []
    ∷ asked (9 ∷ 9 ∷ 9 ∷ 9 ∷ []) (replicate 17 3)
    ∷ members_of 4 (replicate 4 0) (0 ∷ 1 ∷ 2 ∷ 9 ∷ []) (5 ∷ 5 ∷ []) 0
    ∷ members_of 4 (replicate 4 0) one (3 ∷ []) 155
    ∷ members_of 4 (replicate 4 0) one (3 ∷ []) 156
    ∷ [])
    (clear
    ∷ clear
    ∷ clear
    ∷ clear
    ∷ clear
    ∷ refused 9 0
    ∷ refused 9 0
    ∷ refused 9 0
    ∷ refused 10 2
    ∷ refused 11 0
    ∷ refused 11 0
    ∷ refused 11 0
    ∷ refused 26 0
    ∷ refused 26 0
    ∷ refused 27 2
    ∷ refused 12 0
    ∷ clear
    ∷ [])
unfolding members_of quotas_of quota_sum sum below tabulate all first first_from
refusals = refl
