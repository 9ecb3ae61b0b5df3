-- The definitions compute: sound tables, and wrong tables for each refusal. Assumes nothing.
use Rattle.std.specs.Prelude.{◌≡◌, refl, List, [], ◌∷◌, ℕ, replicate}
use Rattle.finite.specs.Count.{tabulate, below, count, sum}
use Rattle.finite.specs.Search.{any, all, first_from, first, greatest_of, ascending}
use Rattle.table.specs.Table.{neighbors, bad_start, beyond, looped, unsorted, unreturned, check_of}
use Rattle.table.specs.Size.{edges_of, size_of}
use Rattle.table.specs.Guard.{refused}
use Rattle.table.specs.declared.size.Size.{Size}
use Rattle.table.specs.Guard.{Guard}
use Rattle.table.specs.Guard.{clear}

-- the starts of a chain of four vertices
abbrev chain : List ℕ
chain = 0 ∷ 1 ∷ 3 ∷ 5 ∷ 6 ∷ []

-- Clear: a chain, a star, no vertices. 4: start 0 not 0, a start below the one before, the last not the number of links.
-- 7: a fall, an equal pair. 6 at 3: the lowest number comes first, though vertex 0 breaks 7. 8: the place is the vertex, not the neighbor.
answers :
    ◌≡◌ {A = List Guard}
    (check_of chain (1 ∷ 0 ∷ 2 ∷ 1 ∷ 3 ∷ 2 ∷ [])
    ∷ check_of (0 ∷ 3 ∷ 4 ∷ 5 ∷ 6 ∷ []) (1 ∷ 2 ∷ 3 ∷ 0 ∷ 0 ∷ 0 ∷ [])
    ∷ check_of (0 ∷ []) []
    ∷ check_of [] []
    ∷ check_of (replicate 1026 0) []
    ∷ check_of (0 ∷ []) (replicate 16385 0)
    ∷ check_of (1 ∷ 1 ∷ 3 ∷ 5 ∷ 6 ∷ []) (1 ∷ 0 ∷ 2 ∷ 1 ∷ 3 ∷ 2 ∷ [])
    ∷ check_of (0 ∷ 3 ∷ 1 ∷ 5 ∷ 6 ∷ []) (1 ∷ 0 ∷ 2 ∷ 1 ∷ 3 ∷ 2 ∷ [])
    ∷ check_of (0 ∷ 1 ∷ 3 ∷ 5 ∷ 5 ∷ []) (1 ∷ 0 ∷ 2 ∷ 1 ∷ 3 ∷ 2 ∷ [])
    ∷ check_of chain (1 ∷ 0 ∷ 2 ∷ 1 ∷ 4 ∷ 2 ∷ [])
    ∷ check_of chain (1 ∷ 0 ∷ 1 ∷ 1 ∷ 3 ∷ 2 ∷ [])
    ∷ check_of chain (1 ∷ 2 ∷ 0 ∷ 1 ∷ 3 ∷ 2 ∷ [])
    ∷ check_of chain (1 ∷ 0 ∷ 0 ∷ 1 ∷ 3 ∷ 2 ∷ [])
    ∷ check_of (0 ∷ 2 ∷ 3 ∷ 4 ∷ 5 ∷ []) (2 ∷ 1 ∷ 0 ∷ 0 ∷ 3 ∷ [])
    ∷ check_of chain (1 ∷ 0 ∷ 3 ∷ 1 ∷ 3 ∷ 2 ∷ [])
    ∷ check_of (0 ∷ 0 ∷ 1 ∷ []) (0 ∷ [])
    ∷ [])
    (clear
    ∷ clear
    ∷ clear
    ∷ refused 1 0
    ∷ refused 2 0
    ∷ refused 3 0
    ∷ refused 4 0
    ∷ refused 4 2
    ∷ refused 4 4
    ∷ refused 5 2
    ∷ refused 6 1
    ∷ refused 7 1
    ∷ refused 7 1
    ∷ refused 6 3
    ∷ refused 8 1
    ∷ refused 8 1
    ∷ [])
unfolding check_of neighbors bad_start beyond looped unsorted unreturned first first_from any all ascending below tabulate
answers = refl

-- a chain, a star, an edge beside a vertex alone, one vertex, no vertices
sizes :
    ◌≡◌ {A = List Size}
    (size_of chain (1 ∷ 0 ∷ 2 ∷ 1 ∷ 3 ∷ 2 ∷ [])
    ∷ size_of (0 ∷ 3 ∷ 4 ∷ 5 ∷ 6 ∷ []) (1 ∷ 2 ∷ 3 ∷ 0 ∷ 0 ∷ 0 ∷ [])
    ∷ size_of (0 ∷ 1 ∷ 1 ∷ 2 ∷ []) (2 ∷ 0 ∷ [])
    ∷ size_of (0 ∷ 0 ∷ []) []
    ∷ size_of (0 ∷ []) []
    ∷ [])
    (record { edges = 3; max_degree = 2 }
    ∷ record { edges = 3; max_degree = 3 }
    ∷ record { edges = 1; max_degree = 1 }
    ∷ record { edges = 0; max_degree = 0 }
    ∷ record { edges = 0; max_degree = 0 }
    ∷ [])
unfolding size_of edges_of neighbors greatest_of sum count any below tabulate
sizes = refl
