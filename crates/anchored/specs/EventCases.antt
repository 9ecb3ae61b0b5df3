-- Document 02, card 6: sessions of events, and smallest pools that single clauses decide, in one computed test.
use Rattle.std.specs.Prelude.{◌≡◌, refl, Bool, List, [], ◌∷◌, ℕ, length, replicate}
use Rattle.finite.specs.Count.{tabulate, below, count, sum}
use Rattle.finite.specs.Search.{any, all, member, first_from, first, largest}
use Rattle.finite.specs.Sets.{keep, having, rounds, grow}
use Rattle.finite.specs.Pairs.{pair_le}
use Rattle.finite.specs.Edits.{insert, remove}
use Rattle.anchored.specs.Edge.{link_count}
use Rattle.anchored.specs.Core.{batch, core, level, shell, layer, greater, higher}
use Rattle.anchored.specs.Component.{joins, around, component, together}
use Rattle.anchored.specs.Followers.{follows, followers}
use Rattle.anchored.specs.Yield.{bare_level}
use Rattle.anchored.specs.Step.{above, same_inside, undisturbed, sees_disturbed, sees_new, moved, recomputed}
use Rattle.anchored.specs.Session.{Row, status_of, row_of, turn}
use Rattle.anchored.specs.Cases.{graph}
use Rattle.anchored.specs.Events.{events_of, edge_status, event_status, event_row, event_turn, after_events}

-- from the anchors in the list: status, lifted and redone of each event, the stamps at the end, and the neighbors
abbrev session : List (List ℕ) → List ℕ → List ℕ → List ℕ → List ℕ → List (List ℕ)
session lists anchors kinds firsts seconds =
    let m = length kinds in
    let n = length lists in
    let A : ℕ → Bool = λ v. member v anchors in
    let events = events_of kinds firsts seconds in
    let row : ℕ → Row = λ i. event_row (after_events (graph lists) A events i) (events i) in
    tabulate (λ i. (row i).status) m ∷ tabulate (λ i. (row i).lifted) m ∷ tabulate (λ i. (row i).redone) m
    ∷ tabulate (after_events (graph lists) A events m).plain.stamps n ∷ tabulate (after_events (graph lists) A events m).graph.neighbors n

-- the status of adding an edge to a graph of four vertices with lists of these lengths
abbrev room : ℕ → ℕ → ℕ
room long last = edge_status (graph (replicate long 9 ∷ replicate long 9 ∷ replicate long 9 ∷ replicate last 9 ∷ [])) (record { kind = 1; first = 0; second = 1 })

pub events :
    -- a chain: 0 anchored, an edge between 0 and 3, none between 1 and 2; then 16, 6, 15, 10, 22, 22, 15, and 6 for two numbers of no vertex
    (session ((1 ∷ []) ∷ (0 ∷ 2 ∷ []) ∷ (1 ∷ 3 ∷ []) ∷ (2 ∷ []) ∷ []) [] (0 ∷ 1 ∷ 2 ∷ 0 ∷ 1 ∷ 1 ∷ 3 ∷ 1 ∷ 2 ∷ 0 ∷ 2 ∷ []) (0 ∷ 0 ∷ 1 ∷ 0 ∷ 0 ∷ 0 ∷ 0 ∷ 0 ∷ 1 ∷ 9 ∷ 9 ∷ []) (7 ∷ 3 ∷ 2 ∷ 0 ∷ 0 ∷ 9 ∷ 0 ∷ 1 ∷ 2 ∷ 0 ∷ 9 ∷ [])
    ≡ (0 ∷ 0 ∷ 0 ∷ 16 ∷ 6 ∷ 15 ∷ 10 ∷ 22 ∷ 22 ∷ 15 ∷ 6 ∷ []) ∷ (0 ∷ 0 ∷ 0 ∷ 0 ∷ 0 ∷ 0 ∷ 0 ∷ 0 ∷ 0 ∷ 0 ∷ 0 ∷ []) ∷ (2 ∷ 3 ∷ 3 ∷ 0 ∷ 0 ∷ 0 ∷ 0 ∷ 0 ∷ 0 ∷ 0 ∷ 0 ∷ [])
    ∷ (1 ∷ 3 ∷ 3 ∷ 3 ∷ []) ∷ (1 ∷ 3 ∷ []) ∷ (0 ∷ []) ∷ (3 ∷ []) ∷ (0 ∷ 2 ∷ []) ∷ [])
    -- a ring: every level, component and number above stays, and 0 and 1 become neighbors inside their component
    × (session ((2 ∷ 3 ∷ []) ∷ (2 ∷ 3 ∷ []) ∷ (0 ∷ 1 ∷ []) ∷ (0 ∷ 1 ∷ []) ∷ []) [] (1 ∷ []) (0 ∷ []) (1 ∷ [])
    ≡ (0 ∷ []) ∷ (0 ∷ []) ∷ (4 ∷ []) ∷ (1 ∷ 1 ∷ 1 ∷ 1 ∷ []) ∷ (1 ∷ 2 ∷ 3 ∷ []) ∷ (0 ∷ 2 ∷ 3 ∷ []) ∷ (0 ∷ 1 ∷ []) ∷ (0 ∷ 1 ∷ []) ∷ [])
    -- the row of 1 is recomputed as an end of the edge
    × (session ((3 ∷ 4 ∷ []) ∷ (2 ∷ []) ∷ (1 ∷ []) ∷ (0 ∷ []) ∷ (0 ∷ []) ∷ []) (3 ∷ 4 ∷ []) (1 ∷ []) (0 ∷ []) (1 ∷ [])
    ≡ (0 ∷ []) ∷ (0 ∷ []) ∷ (3 ∷ []) ∷ (1 ∷ 1 ∷ 1 ∷ 0 ∷ 0 ∷ []) ∷ (1 ∷ 3 ∷ 4 ∷ []) ∷ (0 ∷ 2 ∷ []) ∷ (1 ∷ []) ∷ (0 ∷ []) ∷ (0 ∷ []) ∷ [])
    -- an edge between two anchors: of 0 only the bare level changes
    × (session ((1 ∷ 2 ∷ []) ∷ (0 ∷ []) ∷ (0 ∷ []) ∷ []) (1 ∷ 2 ∷ []) (1 ∷ []) (1 ∷ []) (2 ∷ [])
    ≡ (0 ∷ []) ∷ (0 ∷ []) ∷ (1 ∷ []) ∷ (1 ∷ 0 ∷ 0 ∷ []) ∷ (1 ∷ 2 ∷ []) ∷ (0 ∷ 2 ∷ []) ∷ (0 ∷ 1 ∷ []) ∷ [])
    -- 23 where fewer than two places are left
    × (room 4096 4096 ∷ room 4096 4095 ∷ room 4096 4094 ∷ [] ≡ 23 ∷ 23 ∷ 0 ∷ [])
unfolding tabulate below count sum any all first_from first largest keep having rounds grow pair_le insert remove link_count batch core level shell layer greater higher joins around component together follows followers bare_level above same_inside undisturbed sees_disturbed sees_new moved recomputed status_of row_of turn edge_status event_status event_row event_turn after_events
events = (refl, refl, refl, refl, refl)
