-- An event on a table and a record, over plain values: an edge that is added or dropped, a vertex that is anchored, and a refusal.
-- Assumes nothing.
use mathlib.Core.Path.{◌≡◌, refl, sym, ap, ◌∙◌, subst}
use mathlib.Core.Bool.{Bool, true, false, not, cond}
use mathlib.Core.List.{List}
use Prim.Native.Nat.{ℕ, ◌<◌}
use native.Mathlib.Omega.{arith}
use lib.Dec.{T}
use borrow.Author.Tests.{lt-ltb, ne_eqb}
use Rattle.finite.specs.Count.{count, below}
use Rattle.table.specs.Table.{vertices}
use Rattle.anchored.specs.Graph.{Graph, Simple}
use Rattle.anchored.specs.Edge.{either, Parted}
use Rattle.anchored.specs.Followers.{followers, follower_count}
use Rattle.anchored.specs.Step.{recomputed}
use Rattle.anchored.specs.Events.{Event, edge_event, Pool, anchors, ends, Editable, edge_status, event_status, edge_graph, edge_stale, event_row, event_turn}
use Rattle.anchored.proofs.Session.{row_number}
use Rattle.anchored.proofs.Events.{edge_editable, edge-size, edge-neighbors, renewed-edge, edge-followers, edge-reached, turn-edge, turn-none, row-edge, row-none}
use Rattle.anchored.proofs.Order.{one-anchor, one-row}
use Rattle.anchored.proofs.Parted.{edge-parted}
use Rattle.pool.specs.Input.{graph_of, anchored_by, Admitted}
use Rattle.pool.specs.Arrays.{Holds}
use Rattle.pool.proofs.Laws.{simple}
use Rattle.edit.specs.Edit.{Tabled}
use Rattle.table.specs.Rule.{rule_number}
use Rattle.table.specs.declared.refusal.Rule.{Rule}
use Rattle.stale.specs.Columns.{ColumnsOf}
use Rattle.records.specs.Record.{reached_if, row_reached, Right, plain_of, Stands}
use Rattle.records.specs.declared.Record.{Record}
use Rattle.step.specs.Rows.{rows_of, Renewed, Redone}
use Rattle.step.specs.Turn.{row_as}
use Rattle.step.proofs.Steps.{renewed-all}
use Rattle.step.specs.Turn.{Turned as Stepping}
use Rattle.step.specs.declared.Stepped.{Stepped}
use Rattle.events.specs.Turn.{pool_of, refusing, Turned}
use Rattle.events.specs.Renew.{Before, Renews}

-- ---- statuses

-- the number of a rule is above 0
pub refusal_some : (rule : Rule) → rule_number rule ≡ 0 → ⊥
refusal_some rule e = grind arith

-- an edge that may be added or dropped is an accepted event, and anchors nobody
edge-status : (P : Pool) (adding : Bool) (a b : ℕ) → (event_status P (edge_event adding a b) ≡ edge_status P.graph (edge_event adding a b)) × T (not (anchors (edge_event adding a b)))
unfolding event_status
edge-status P true a b = (refl, tt)
edge-status P false a b = (refl, tt)

-- ---- an edge

-- another than the two
pub either-not : (a b v : ℕ) → (a ≡ v → ⊥) → (b ≡ v → ⊥) → T (not (either a b v))
either-not a b v n m = rw (ne_eqb a v n, ne_eqb b v m) tt

module _ {s₀ l₀ s l : List ℕ} {kept : Record} (right : Right s₀ l₀ kept) {e : Event} (ok : Editable (graph_of s₀ l₀) e) (table : Tabled s l (edge_graph (graph_of s₀ l₀) e)) where
  abbrev G : Graph
  G = graph_of s₀ l₀

  abbrev A : ℕ → Bool
  A = anchored_by kept.anchored

  abbrev P : Pool
  P = pool_of s₀ l₀ kept

  L : Simple G
  L = simple right.admitted.table

  size : vertices s ≡ vertices s₀
  size = ap (λ g. g.size) table.graph ∙ edge-size G e

  -- the bytes are admitted with the table as it then stands
  still_admitted : Admitted s l kept.anchored
  still_admitted = record {
    table = table.sound;
    long = omega (arith, right.admitted.long, size);
    bytes = λ v h. right.admitted.bytes v (omega (arith, size));
  }

  -- what working on the record asks of it
  pub renewable : Admitted s l kept.anchored × (e.first < vertices s) × (e.second < vertices s)
  renewable = (still_admitted, omega (arith, ok.first, size), omega (arith, ok.second, size))

  -- the record was worked out for the graph before
  worked_before : Before s l e.first e.second kept G
  worked_before = record {
    simple = L;
    size = sym size;
    parted = subst (λ H. Parted G H e.first e.second) (sym table.graph) (edge-parted G L e ok);
    lists = λ u h t. edge-neighbors G e u t ∙ ap (λ g. g.neighbors u) (sym table.graph);
    columns = right.columns;
    bares = λ v h. right.bares v (omega (arith, size));
  }

  module _ {position : ℕ} {left : Stepped} (z : event_status P e ≡ 0) (t : T (not (anchors e))) (W : Renews s l e.first e.second position kept left) where
    abbrev next : Record
    next = left.kept

    -- its rows, in the words of the edited graph
    rows : Redone s l kept.anchored kept.reaching (edge_stale P e) position (rows_of kept) (rows_of next) left.row.redone (vertices s)
    rows = subst (λ H. Redone s l kept.anchored kept.reaching (recomputed G H A A (ends e)) position (rows_of kept) (rows_of next) left.row.redone (vertices s)) table.graph (W.rows G worked_before)

    -- a column of counts in which these rows are worked afresh is right, where the other rows keep their count
    column_after : (number : Graph → ℕ → ℕ) (old new : List ℕ) → Renewed (edge_stale P e) (number (graph_of s l)) old new (vertices s) → Holds old (vertices s₀) (row_number 65535 A (number G))
        → ((v : ℕ) → v < vertices s₀ → T (not (A v)) → T (not (edge_stale P e v)) → number G v ≡ number (edge_graph G e) v) → Holds new (vertices s) (row_number 65535 A (number (graph_of s l)))
    column_after number old new renews held same v h =
        let b : v < vertices s₀ = omega (arith, size) in
        let again = edge_stale P e v in
        renewed-all renews v h
        ∙ ap (cond again (number (graph_of s l) v)) (held v b)
        ∙ subst (λ H. cond again (number H v) (row_number 65535 A (number G) v) ≡ row_number 65535 A (number H) v) (sym table.graph) (renewed-edge G L e ok A 65535 number v (same v b))

    counts-after : Holds next.followers (vertices s) (follower_count (graph_of s l) A)
    unfolding follower_count
    counts-after = column_after (λ F. followers F A) kept.followers next.followers rows.counts right.counts (edge-followers G L e ok A)

    reaches-after : Holds next.reached (vertices s) (row_reached kept.reaching (graph_of s l) A)
    reaches-after = column_after (λ F. reached_if kept.reaching F A) kept.reached next.reached rows.reaches right.reaches
        (λ v b a t. ap (λ k. cond kept.reaching k 0) (edge-reached G L e ok A v b a t))

    -- the record is right for the table as it then stands
    right-after : Right s l next
    right-after = record {
      admitted = subst (Admitted s l) (sym W.bytes) still_admitted;
      columns = subst (λ a. ColumnsOf (graph_of s l) (anchored_by a) next.columns) (sym W.bytes) W.columns;
      bares = W.bares;
      counts = subst (λ a. Holds next.followers (vertices s) (follower_count (graph_of s l) (anchored_by a))) (sym W.bytes) counts-after;
      counts_long = omega (arith, rows.counts.long, right.counts_long, size);
      reaches = subst (λ b. Holds next.reached (vertices s) (row_reached b (graph_of s l) (anchored_by next.anchored))) (sym W.reaching)
          (subst (λ a. Holds next.reached (vertices s) (row_reached kept.reaching (graph_of s l) (anchored_by a))) (sym W.bytes) reaches-after);
      reaches_long = omega (arith, rows.reaches.long, right.reaches_long, size);
      stamps_long = omega (arith, rows.stamps.long, right.stamps_long, size);
    }

    -- its bytes and stamps are those of the plain session's turn
    stands_after : Stands (vertices s₀) next (event_turn position e P).plain
    stands_after = subst (λ R. Stands (vertices s₀) next R.plain) (sym (turn-edge P e position z t)) record {
      anchors = ap anchored_by W.bytes;
      stamps = λ v h. renewed-all rows.stamps v (omega (arith, size));
    }

    row-after : row_as left.row ≡ event_row P e
    row-after =
        let number : left.row.redone ≡ count (edge_stale P e) (below (vertices s₀)) = rows.number ∙ ap (λ n. count (edge_stale P e) (below n)) size in
        rw (W.status, W.lifted, number) (sym (row-edge P e z t))

    edge_turned : Turned s₀ l₀ position e kept s l left
    edge_turned = record {
      table = subst (λ R. Tabled s l R.graph) (sym (turn-edge P e position z t)) table;
      right = right-after;
      reaching = W.reaching;
      stands = stands_after;
      row = row-after;
    }

-- what an edge leaves that may be added or dropped
pub changed_turned : {s₀ l₀ s l : List ℕ} {kept : Record} (adding : Bool) (a b : ℕ) {position : ℕ} {left : Stepped} → Right s₀ l₀ kept → edge_status (graph_of s₀ l₀) (edge_event adding a b) ≡ 0
    → Tabled s l (edge_graph (graph_of s₀ l₀) (edge_event adding a b)) → Renews s l a b position kept left → Turned s₀ l₀ position (edge_event adding a b) kept s l left
changed_turned {s₀} {l₀} {kept = kept} adding a b right z table W =
    let e = edge_event adding a b in
    let status = edge-status (pool_of s₀ l₀ kept) adding a b in
    edge_turned right (edge_editable (graph_of s₀ l₀) e z) table (status.0 ∙ z) status.1 W

-- ---- a vertex

module _ {s l : List ℕ} {kept : Record} (table : Tabled s l (graph_of s l)) (right : Right s l kept) (position : ℕ) where
  abbrev R : Pool
  R = pool_of s l kept

  -- an event that anchors is one request
  pub anchor_turned : (e : Event) {left : Stepped} → e.kind ≡ 0 → Stepping s l position e.first kept left → Turned s l position e kept s l left
  anchor_turned e {left} k W =
      let turn = one-anchor (graph_of s l) (anchored_by kept.anchored) position e.first (plain_of kept) e k refl in record {
        table = subst (λ Q. Tabled s l Q.graph) (sym turn) table;
        right = W.right;
        reaching = W.reaching;
        stands = subst (λ Q. Stands (vertices s) left.kept Q.plain) (sym turn) W.stands;
        row = W.row ∙ sym (one-row (graph_of s l) (anchored_by kept.anchored) e.first (plain_of kept) e k refl);
      }

  -- ---- a refusal

  pub refused_turned : (e : Event) (status : ℕ) → event_status R e ≡ status → (status ≡ 0 → ⊥) → Turned s l position e kept s l (refusing kept status)
  refused_turned e status z n =
      let off : event_status R e ≡ 0 → ⊥ = λ q. n (sym z ∙ q) in
      let same = turn-none R e position off in record {
        table = subst (λ Q. Tabled s l Q.graph) (sym same) table;
        right = right;
        reaching = refl;
        stands = subst (λ Q. Stands (vertices s) kept Q.plain) (sym same) record { anchors = refl; stamps = λ v h. refl };
        row = rw (sym z) (sym (row-none R e off));
      }

  -- 10 for a kind above 2, and else for an edge what it refuses
  pub kind_turned : (e : Event) → 2 < e.kind → Turned s l position e kept s l (refusing kept 10)
  unfolding event_status
  kind_turned e h = refused_turned e 10 (rw (lt-ltb 2 e.kind h)) (λ q. absurd (omega arith))

  pub edge-refused : (adding : Bool) (a b : ℕ) (status : ℕ) → status ≡ edge_status (graph_of s l) (edge_event adding a b) → (status ≡ 0 → ⊥)
      → Turned s l position (edge_event adding a b) kept s l (refusing kept status)
  edge-refused adding a b status z n = refused_turned (edge_event adding a b) status ((edge-status R adding a b).0 ∙ sym z) n
