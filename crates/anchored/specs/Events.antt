-- Document 02, card 6: events. Vertices are anchored, edges (pairs) are added and dropped; the plain session keeps the graph beside its set.
use Rattle.std.specs.Prelude.{◌≡◌, Bool, not, cond, ◌&&◌, List, ℕ, zero, suc, ◌+◌, ◌≤◌, ◌<◌, get_or, ℤ, pos, ◌+ℤ◌, T, ltb, eqb}
use Rattle.std.specs.Bool.{beq}
use Rattle.finite.specs.Count.{In, count, below}
use Rattle.finite.specs.Search.{member}
use Rattle.anchored.specs.Graph.{Graph}
use Rattle.anchored.specs.Edge.{either, with_edge, without_edge, link_count}
use Rattle.anchored.specs.Yield.{net}
use Rattle.anchored.specs.Step.{recomputed}
use Rattle.anchored.specs.Session.{Plain, Row, status_of, row_of, turn}

-- a kind, 0 to anchor the first vertex, 1 to add an edge between the two, 2 to drop it, and two numbers
pub record Event : Type 0 where
  pub kind : ℕ
  pub first : ℕ
  pub second : ℕ

abbrev pub event_of : ℕ → ℕ → ℕ → Event
event_of kind first second = record { kind = kind; first = first; second = second }

-- the event that adds an edge, or drops it
abbrev pub edge_event : Bool → ℕ → ℕ → Event
edge_event adding a b = event_of (cond adding 1 2) a b

-- the events of three lists
abbrev pub events_of : List ℕ → List ℕ → List ℕ → ℕ → Event
events_of kinds firsts seconds i = event_of (get_or kinds i 0) (get_or firsts i 0) (get_or seconds i 0)

-- what the plain session keeps: the graph, and its set and stamps
pub record Pool : Type 0 where
  pub graph : Graph
  pub plain : Plain

abbrev pub anchors : Event → Bool
anchors e = eqb e.kind 0

abbrev pub adds : Event → Bool
adds e = eqb e.kind 1

-- v is one of the two vertices
abbrev pub ends : Event → ℕ → Bool
ends e v = either e.first e.second v

-- 6 for an edge of a vertex with itself, 15 for no vertex, 22 for adding an edge that is there or dropping one that is not, 23 for no space for two links
unfoldable pub edge_status : Graph → Event → ℕ
edge_status G e =
    cond (eqb e.first e.second) 6
    (cond (not (ltb e.first G.size && ltb e.second G.size)) 15
    (cond (beq (member e.second (G.neighbors e.first)) (adds e)) 22
    (cond (adds e && ltb 16384 (link_count G + 2)) 23 0)))

-- what an event of status 0 has: its edge is between two other vertices, is there exactly if it is to be dropped, and finds space. Law `edge_editable`
pub record Editable (G : Graph) (e : Event) : Type 0 where
  pub other : e.first ≡ e.second → ⊥
  pub first : e.first < G.size
  pub second : e.second < G.size
  pub apart : T (adds e) → In e.second (G.neighbors e.first) → ⊥
  pub there : T (not (adds e)) → In e.second (G.neighbors e.first)
  pub room : T (adds e) → link_count G + 2 ≤ 16384

-- 10 for a kind above 2, then as the kind has it
unfoldable pub event_status : Pool → Event → ℕ
event_status P e = cond (ltb 2 e.kind) 10 (cond (anchors e) (status_of P.graph P.plain.anchors e.first) (edge_status P.graph e))

-- the graph with the edge added, or dropped
abbrev pub edge_graph : Graph → Event → Graph
edge_graph G e = cond (adds e) (with_edge G e.first e.second) (without_edge G e.first e.second)

-- the rows that the edge makes stale
abbrev pub edge_stale : Pool → Event → ℕ → Bool
edge_stale P e = let A = P.plain.anchors in recomputed P.graph (edge_graph P.graph e) A A (ends e)

-- the numbers of an event; an edge lifts nobody
unfoldable pub event_row : Pool → Event → Row
event_row P e = cond (eqb (event_status P e) 0)
    (cond (anchors e) (row_of P.graph P.plain e.first) (record { status = 0; lifted = 0; redone = count (edge_stale P e) (below P.graph.size) }))
    (record { status = event_status P e; lifted = 0; redone = 0 })

-- what an event at a position, from 1, leaves: an edge changes the graph, leaves the set, and stamps the recomputed rows
unfoldable pub event_turn : ℕ → Event → Pool → Pool
event_turn position e P = cond (eqb (event_status P e) 0)
    (cond (anchors e)
    (record { graph = P.graph; plain = turn P.graph position e.first P.plain })
    (record { graph = edge_graph P.graph e; plain = record { anchors = P.plain.anchors; stamps = λ v. cond (edge_stale P e v) position (P.plain.stamps v) } }))
    P

-- the pool after the first i events
unfoldable pub after_events : Graph → (ℕ → Bool) → (ℕ → Event) → ℕ → Pool
after_events G A events zero = record { graph = G; plain = record { anchors = A; stamps = λ v. 0 } }
after_events G A events (suc i) = event_turn (suc i) (events i) (after_events G A events i)

-- the net yields of the vertices anchored by m events from the one after i on, each as it stood just before its step, together
unfoldable pub gained_from : Graph → (ℕ → Bool) → (ℕ → Event) → ℕ → ℕ → ℤ
gained_from G A events i zero = pos 0
gained_from G A events i (suc m) = let P = after_events G A events (i + m) in let e = events (i + m) in
    gained_from G A events i m +ℤ cond (eqb (event_status P e) 0 && anchors e) (net P.graph P.plain.anchors e.first) (pos 0)
