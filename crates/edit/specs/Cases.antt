-- The definitions compute: a lent table for each refusal, in their order, and the table of a graph. Assumes nothing.
use Rattle.std.specs.Prelude.{◌≡◌, refl, ℕ, length, take, replicate}
use mathlib.Core.List.{List, [], ◌∷◌, ◌++◌, flatten}
use Rattle.finite.specs.Count.{tabulate, below, sum}
use Rattle.finite.specs.Search.{any, all, first_from, first, ascending}
use Rattle.finite.specs.Edits.{insert, remove}
use Rattle.table.specs.Table.{neighbors, bad_start, beyond, looped, unsorted, unreturned, check_of}
use Rattle.table.specs.Guard.{refused}
use Rattle.table.specs.Guard.{Guard}
use Rattle.table.specs.Guard.{clear}
use Rattle.anchored.specs.Graph.{Graph}
use Rattle.anchored.specs.Edge.{with_edge, without_edge, link_count}
use Rattle.pool.specs.Input.{graph_of}
use Rattle.edit.specs.Edit.{starts_of, links_of}
use Rattle.edit.specs.Lent.{check_lent}

-- the starts of a chain of four vertices, and its links with sevens past the last start
abbrev chain : List ℕ
chain = 0 ∷ 1 ∷ 3 ∷ 5 ∷ 6 ∷ []

abbrev lent : List ℕ → List ℕ
lent links = links ++ replicate 16378 7

abbrev links : List ℕ
links = 1 ∷ 0 ∷ 2 ∷ 1 ∷ 3 ∷ 2 ∷ []

-- what stands past the last start is not looked at. 2 comes before 12, and 12 before 3 and 4; 3 is for the last start, not for the places
answers :
    ◌≡◌ {A = List Guard}
    (check_lent chain (lent links)
    ∷ check_lent (0 ∷ []) (replicate 16384 7)
    ∷ check_lent [] []
    ∷ check_lent (replicate 1026 0) []
    ∷ check_lent chain links
    ∷ check_lent chain (0 ∷ lent links)
    ∷ check_lent (0 ∷ 16385 ∷ []) []
    ∷ check_lent (0 ∷ 16385 ∷ []) (replicate 16384 0)
    ∷ check_lent (1 ∷ 1 ∷ 3 ∷ 5 ∷ 6 ∷ []) (lent links)
    ∷ check_lent (0 ∷ 3 ∷ 1 ∷ 5 ∷ 6 ∷ []) (lent links)
    ∷ check_lent (0 ∷ 1 ∷ 3 ∷ 5 ∷ 7 ∷ []) (lent links)
    ∷ check_lent (0 ∷ 1 ∷ 3 ∷ 5 ∷ 5 ∷ []) (lent links)
    ∷ [])
    (clear
    ∷ clear
    ∷ refused 1 0
    ∷ refused 2 0
    ∷ refused 12 0
    ∷ refused 12 0
    ∷ refused 12 0
    ∷ refused 3 0
    ∷ refused 4 0
    ∷ refused 4 2
    ∷ refused 5 3
    ∷ refused 8 2
    ∷ [])
unfolding check_lent check_of neighbors bad_start beyond looped unsorted unreturned first first_from any all ascending below tabulate
answers = refl

-- the starts of a graph's table, how many places its links have, and the first eight
abbrev shown : Graph → List (List ℕ)
shown G = starts_of G ∷ (length (links_of G) ∷ []) ∷ take 8 (links_of G) ∷ []

-- the chain; with an edge between 0 and 3; without the one between 1 and 2
tables :
    ◌≡◌ {A = List (List (List ℕ))}
    (shown (graph_of chain (lent links)) ∷ shown (with_edge (graph_of chain links) 0 3) ∷ shown (without_edge (graph_of chain links) 1 2) ∷ [])
    ((chain ∷ (16384 ∷ []) ∷ (1 ∷ 0 ∷ 2 ∷ 1 ∷ 3 ∷ 2 ∷ 0 ∷ 0 ∷ []) ∷ [])
    ∷ ((0 ∷ 2 ∷ 4 ∷ 6 ∷ 8 ∷ []) ∷ (16384 ∷ []) ∷ (1 ∷ 3 ∷ 0 ∷ 2 ∷ 1 ∷ 3 ∷ 0 ∷ 2 ∷ []) ∷ [])
    ∷ ((0 ∷ 1 ∷ 2 ∷ 3 ∷ 4 ∷ []) ∷ (16384 ∷ []) ∷ (1 ∷ 0 ∷ 3 ∷ 2 ∷ 0 ∷ 0 ∷ 0 ∷ 0 ∷ []) ∷ [])
    ∷ [])
unfolding starts_of links_of link_count neighbors insert remove sum below tabulate flatten
tables = refl
