-- Demand 3 of document 01, with document 02, cards 4, 6 and 10: one claim about the whole list of events, over the tables and records that the
-- calls on its prefixes leave.
use Rattle.std.specs.Prelude.{◌≡◌, Bool, not, cond, ◌&&◌, ◌||◌, List, ℕ, zero, suc, ◌+◌, ◌-◌, ◌≤◌, ◌<◌, length, take, get_or, ℤ, pos, ◌+ℤ◌, ◌-ℤ◌, T, eqb, Result, Ok}
use Rattle.finite.specs.Count.{bit, tabulate, count, sum, below}
use Rattle.table.specs.Table.{vertices}
use Rattle.table.specs.Size.{size_of}
use Rattle.table.specs.declared.size.Size.{Size}
use Rattle.table.specs.Rule.{Refusal}
use Rattle.table.specs.Guard.{clear}
use Rattle.anchored.specs.Graph.{Graph}
use Rattle.anchored.specs.Core.{level, layer}
use Rattle.anchored.specs.Component.{component}
use Rattle.anchored.specs.Followers.{adding, followers}
use Rattle.anchored.specs.Yield.{least, bare_level}
use Rattle.anchored.specs.Step.{recomputed}
use Rattle.anchored.specs.Session.{Row}
use Rattle.anchored.specs.Events.{Event, anchors, ends, event_status, edge_graph}
use Rattle.pool.specs.Input.{graph_of, anchored_by, admit_of}
use Rattle.search.specs.Answers.{followers_of, marks_of}
use Rattle.search.specs.declared.find.Found.{Found}
use Rattle.edit.specs.Edit.{last_start}
use Rattle.edit.specs.Lent.{check_lent}
use Rattle.session.specs.Run.{Lists, size, prefix, event_at, Slices, sized, run_of, pool_of, row_at, ended}

-- a search that answers these followers, this reached count and this size
abbrev pub found_with : ℕ → ℕ → Size → Result (Found × Size) Refusal
found_with lifted reached size = Ok (record { lifted = lifted; reached = reached }, size)

module _ (s l given : List ℕ) (events : Lists) where
  abbrev n : ℕ
  n = vertices s

  abbrev event : ℕ → Event
  event i = event_at events i

  -- the table and the record after the first i events: what the call with these alone leaves (`calls`); with none they are those at the start
  abbrev pub upto : ℕ → Slices
  upto i = ended s l given (prefix i events)

  -- the graph of that table, and its links as every other operation is handed them: up to the last start
  abbrev pub graph : ℕ → Graph
  graph i = graph_of (upto i).starts (upto i).links

  abbrev pub linked : ℕ → List ℕ
  linked i = take (last_start (upto i).starts) (upto i).links

  -- who is anchored in that record
  abbrev pub set : ℕ → ℕ → Bool
  set i = anchored_by (upto i).anchored

  -- the size of that table
  abbrev pub size_at : ℕ → Size
  size_at i = size_of (upto i).starts (linked i)

  -- what the search from x answers to that table and to the record's own bytes, levels and layers, and the marks it leaves
  abbrev pub searched : ℕ → ℕ → Result (Found × Size) Refusal
  searched i x = followers_of (upto i).starts (linked i) (upto i).anchored (upto i).levels (upto i).layers x n

  abbrev pub marks : ℕ → ℕ → List ℕ
  marks i x = marks_of (upto i).starts (linked i) (upto i).anchored x

  -- the rows that event i recomputes (redoes); those of an edge's ends among them
  abbrev pub redone : ℕ → ℕ → Bool
  redone i = recomputed (graph i) (graph (i + 1)) (set i) (set (i + 1)) (λ v. not (anchors (event i)) && ends (event i) v)

  -- the three numbers that the call leaves for event i
  abbrev pub shown : ℕ → Row
  shown i = let end = ended s l given events in record { status = get_or end.status i 0; lifted = get_or end.lifted i 0; redone = get_or end.redone i 0 }

  -- the climbs of the vertices that are not anchored in that record, together
  abbrev pub climbs : ℕ → ℕ
  climbs i = sum (λ v. cond (set i v) 0 (get_or (upto i).levels v 0 - bare_level (graph i) v)) (below n)

  -- the yields of the vertices anchored by k events from the one after i on, each as it stood just before its step, together
  unfoldable pub gains : ℕ → ℕ → ℤ
  gains i zero = pos 0
  gains i (suc k) = gains i k +ℤ cond (eqb (shown (i + k)).status 0) (get_or (upto (i + k)).yields (event (i + k)).first (pos 0)) (pos 0)

  -- the table after i events is a table still, of as many vertices, and has 0 in every place past the last start
  pub record Stays (i : ℕ) : Type 0 where
    pub table : check_lent (upto i).starts (upto i).links ≡ clear
    pub vertices : vertices (upto i).starts ≡ n
    pub places : length (upto i).links ≡ 16384
    pub zeros : (p : ℕ) → last_start (upto i).starts ≤ p → get_or (upto i).links p 0 ≡ 0

  -- the record after i events, stamps apart, is the one worked out afresh from that table and its bytes
  pub record Fresh (i : ℕ) : Type 0 where
    pub admitted : admit_of (upto i).starts (linked i) (upto i).anchored ≡ clear
    pub levels : (upto i).levels ≡ tabulate (level (graph i) (set i)) n
    pub layers : (upto i).layers ≡ tabulate (layer (graph i) (set i)) n
    pub components : (upto i).components ≡ tabulate (component (graph i) (set i)) n
    -- of an anchored vertex the (net) yield reads -32,768, the reached count 65,535
    pub anchored : (v : ℕ) → v < n → T (set i v) → (get_or (upto i).yields v (pos 0) ≡ least) × (get_or (upto i).reached v 0 ≡ 65535)
    -- from any other the search answers its followers and its reached count; the yield is these followers less the level above the bare one
    pub search : (v : ℕ) → v < n → T (not (set i v)) → searched i v ≡ found_with (followers (graph i) (set i) v) (get_or (upto i).reached v 0) (size_at i)
    pub yields : (v : ℕ) → v < n → T (not (set i v)) → get_or (upto i).yields v (pos 0) ≡ pos (followers (graph i) (set i) v) -ℤ pos (get_or (upto i).levels v 0 - bare_level (graph i) v)

  -- its table, bytes and stamps are the plain session's
  pub record Plainly (i : ℕ) : Type 0 where
    pub graph : graph i ≡ (pool_of s l given events i).graph
    pub anchored : (upto i).anchored ≡ tabulate (λ v. bit ((pool_of s l given events i).plain.anchors v)) n
    pub stamps : (upto i).stamps ≡ tabulate (pool_of s l given events i).plain.stamps n

  -- event i anchors vertex x
  pub record Anchors (i x : ℕ) : Type 0 where
    pub starts : (upto (i + 1)).starts ≡ (upto i).starts
    pub links : (upto (i + 1)).links ≡ (upto i).links
    pub anchored : set (i + 1) ≡ adding (set i) x
    -- the search from x, with the table and the sheet just before, answers the number shown as lifted: so many are marked 2
    pub search : searched i x ≡ found_with (shown i).lifted (get_or (upto i).reached x 0) (size_at i)
    pub lifted : (shown i).lifted ≡ count (λ v. eqb (get_or (marks i x) v 0) 2) (below n)
    -- x apart, changed levels are exactly those of the vertices marked 2, each up by one
    pub levels : (v : ℕ) → v < n → (v ≡ x → ⊥) → get_or (upto (i + 1)).levels v 0 ≡ get_or (upto i).levels v 0 + bit (eqb (get_or (marks i x) v 0) 2)
    -- x and the rows recomputed get the position, from 1, as their stamp; x is not counted
    pub stamped : (v : ℕ) → v < n → T (eqb x v || redone i v) → get_or (upto (i + 1)).stamps v 0 ≡ i + 1
    pub counted : (shown i).redone ≡ count (redone i) (below n)
    pub uncounted : T (not (redone i x))
    -- every other row keeps its yield, its reached count and its stamp
    pub kept_yields : (v : ℕ) → v < n → T (not (eqb x v || redone i v)) → get_or (upto (i + 1)).yields v (pos 0) ≡ get_or (upto i).yields v (pos 0)
    pub kept_reached : (v : ℕ) → v < n → T (not (eqb x v || redone i v)) → get_or (upto (i + 1)).reached v 0 ≡ get_or (upto i).reached v 0
    pub kept_stamps : (v : ℕ) → v < n → T (not (eqb x v || redone i v)) → get_or (upto (i + 1)).stamps v 0 ≡ get_or (upto i).stamps v 0

  -- event i adds an edge, or drops it
  pub record Edits (i : ℕ) : Type 0 where
    pub edited : graph (i + 1) ≡ edge_graph (graph i) (event i)
    pub anchored : (upto (i + 1)).anchored ≡ (upto i).anchored
    pub lifted : (shown i).lifted ≡ 0
    -- no level and no bare level moves by more than one
    pub levels : (v : ℕ) → v < n → (get_or (upto i).levels v 0 ≤ get_or (upto (i + 1)).levels v 0 + 1) × (get_or (upto (i + 1)).levels v 0 ≤ get_or (upto i).levels v 0 + 1)
    pub bares : (v : ℕ) → v < n → (bare_level (graph i) v ≤ bare_level (graph (i + 1)) v + 1) × (bare_level (graph (i + 1)) v ≤ bare_level (graph i) v + 1)
    -- the rows recomputed get the position as their stamp, and no other
    pub stamped : (v : ℕ) → v < n → T (redone i v) → get_or (upto (i + 1)).stamps v 0 ≡ i + 1
    pub counted : (shown i).redone ≡ count (redone i) (below n)
    -- every other row keeps its yield, its reached count and its stamp
    pub kept_yields : (v : ℕ) → v < n → T (not (redone i v)) → get_or (upto (i + 1)).yields v (pos 0) ≡ get_or (upto i).yields v (pos 0)
    pub kept_reached : (v : ℕ) → v < n → T (not (redone i v)) → get_or (upto (i + 1)).reached v 0 ≡ get_or (upto i).reached v 0
    pub kept_stamps : (v : ℕ) → v < n → T (not (redone i v)) → get_or (upto (i + 1)).stamps v 0 ≡ get_or (upto i).stamps v 0

  -- event i is refused: it shows 0 and 0, and neither the table nor the record changes
  pub record Refuses (i : ℕ) : Type 0 where
    pub lifted : (shown i).lifted ≡ 0
    pub redone : (shown i).redone ≡ 0
    pub starts : (upto (i + 1)).starts ≡ (upto i).starts
    pub links : (upto (i + 1)).links ≡ (upto i).links
    pub anchored : (upto (i + 1)).anchored ≡ (upto i).anchored
    pub levels : (upto (i + 1)).levels ≡ (upto i).levels
    pub layers : (upto (i + 1)).layers ≡ (upto i).layers
    pub components : (upto (i + 1)).components ≡ (upto i).components
    pub yields : (upto (i + 1)).yields ≡ (upto i).yields
    pub reached : (upto (i + 1)).reached ≡ (upto i).reached
    pub stamps : (upto (i + 1)).stamps ≡ (upto i).stamps

  -- none of the k events after the first i is an accepted one that adds or drops an edge
  abbrev pub Anchoring : ℕ → ℕ → Type 0
  Anchoring i k = (j : ℕ) → j < k → (shown (i + j)).status ≡ 0 → T (anchors (event (i + j)))

  -- the claim
  pub record Claim : Type 0 where
    -- the call with the first i events alone, the same table, and slices of their lengths, is not refused
    pub calls : (i : ℕ) → i ≤ size events → (lent : Slices) → lent.starts ≡ s → lent.links ≡ l → T (sized n i lent) → run_of given (prefix i events) lent ≡ clear
    -- with all events it is this call
    pub end : upto (size events) ≡ ended s l given events
    -- at the start the table and the bytes are the given ones, and every stamp is 0
    pub start_starts : (upto 0).starts ≡ s
    pub start_links : linked 0 ≡ take (last_start s) l
    pub start_anchored : (upto 0).anchored ≡ given
    pub start_stamps : (upto 0).stamps ≡ tabulate (λ v. 0) n
    -- at the start and after every event
    pub stays : (i : ℕ) → i ≤ size events → Stays i
    pub fresh : (i : ℕ) → i ≤ size events → Fresh i
    pub plain : (i : ℕ) → i ≤ size events → Plainly i
    -- the numbers of every event: the plain session's, the status by the table and the record just before
    pub numbers : (i : ℕ) → i < size events → shown i ≡ row_at s l given events i
    pub status : (i : ℕ) → i < size events → (shown i).status ≡ event_status (record { graph = graph i; plain = record { anchors = set i; stamps = λ v. get_or (upto i).stamps v 0 } }) (event i)
    pub anchoring : (i : ℕ) → i < size events → (shown i).status ≡ 0 → T (anchors (event i)) → Anchors i (event i).first
    pub editing : (i : ℕ) → i < size events → (shown i).status ≡ 0 → T (not (anchors (event i))) → Edits i
    pub refused : (i : ℕ) → i < size events → ((shown i).status ≡ 0 → ⊥) → Refuses i
    -- without accepted events that add or drop an edge, the climbs grow by the yields of the vertices anchored
    pub grows : (i k : ℕ) → i + k ≤ size events → Anchoring i k → pos (climbs (i + k)) ≡ pos (climbs i) +ℤ gains i k
