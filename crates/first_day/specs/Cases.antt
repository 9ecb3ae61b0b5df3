-- Document 02, card 8: refusals of terms, computed, with four vertices. Assumes nothing.
use Rattle.std.specs.Prelude.{◌≡◌, refl, List, [], ◌∷◌, ◌++◌, ℕ, replicate}
use Rattle.finite.specs.Search.{all, first_from, first}
use Rattle.table.specs.Guard.{refused}
use Rattle.table.specs.Guard.{Guard}
use Rattle.table.specs.Guard.{clear}
use Rattle.first_day.specs.Answers.{lists_of}

-- as many terms of vertex 0, from day 1 up to day 2
abbrev many : ℕ → Guard
many m = lists_of 4 (replicate m 0) (replicate m 1) (replicate m 2) 3

-- Clear: two terms that meet, none, 256. 9: either list shorter or longer, before 15. 15: the first by position, not the lowest; x after the
-- terms; a vertex behind position 256, before 24. 24: 257, also where one ends before it starts. 25: the first by position; an end on the
-- first day; no day is after 65,535.
pub refusals :
    ◌≡◌ {A = List Guard}
    (lists_of 4 (0 ∷ 0 ∷ []) (1 ∷ 2 ∷ []) (2 ∷ 3 ∷ []) 3
    ∷ lists_of 4 [] [] [] 0
    ∷ many 256
    ∷ lists_of 4 (9 ∷ []) [] (2 ∷ []) 0
    ∷ lists_of 4 (9 ∷ []) (1 ∷ []) (2 ∷ 3 ∷ []) 0
    ∷ lists_of 4 (0 ∷ 9 ∷ 8 ∷ []) (1 ∷ 1 ∷ 1 ∷ []) (2 ∷ 2 ∷ 2 ∷ []) 7
    ∷ lists_of 4 (0 ∷ []) (2 ∷ []) (1 ∷ []) 4
    ∷ lists_of 4 (replicate 299 0 ++ 4 ∷ []) (replicate 300 1) (replicate 300 2) 9
    ∷ lists_of 4 (replicate 300 0) (replicate 300 1) (replicate 300 2) 9
    ∷ many 257
    ∷ lists_of 4 (replicate 257 0) (replicate 257 1) (replicate 257 0) 3
    ∷ lists_of 4 (0 ∷ 1 ∷ 2 ∷ []) (1 ∷ 5 ∷ 7 ∷ []) (2 ∷ 4 ∷ 6 ∷ []) 3
    ∷ lists_of 4 (0 ∷ []) (5 ∷ []) (5 ∷ []) 3
    ∷ lists_of 4 (0 ∷ []) (65535 ∷ []) (65535 ∷ []) 3
    ∷ [])
    (clear
    ∷ clear
    ∷ clear
    ∷ refused 9 0
    ∷ refused 9 0
    ∷ refused 15 9
    ∷ refused 15 4
    ∷ refused 15 4
    ∷ refused 15 9
    ∷ refused 24 0
    ∷ refused 24 0
    ∷ refused 25 1
    ∷ refused 25 0
    ∷ refused 25 0
    ∷ [])
unfolding lists_of all first first_from
refusals = refl
