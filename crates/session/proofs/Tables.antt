-- The pools of a session stand in their slices: the table of the graph, and nobody anchored past the vertices. Assumes nothing.
use mathlib.Core.Path.{◌≡◌, refl, sym, ap, ap₂, ◌∙◌}
use mathlib.Core.Bool.{Bool, false, cond, or-false}
use mathlib.Core.List.{List}
use Prim.Native.Nat.{ℕ, zero, suc, ◌≤◌, ◌<◌}
use native.Mathlib.Omega.{arith}
use lib.ListN.{length, take, get_or, get_or-eq_default}
use lib.Dec.{eqb}
use borrow.Author.Tests.{lt-ltb, ne_eqb}
use Rattle.finite.specs.Count.{tabulate}
use Rattle.finite.proofs.Count.{length-tabulate, tabulate-at, tabulate-take}
use Rattle.table.specs.Table.{vertices, check_of}
use Rattle.table.specs.Guard.{clear}
use Rattle.anchored.specs.Graph.{Graph, Simple}
use Rattle.anchored.specs.Events.{Event, Pool, event_turn, after_events}
use Rattle.anchored.proofs.Session.{status-free, turn-accepted}
use Rattle.anchored.proofs.Events.{accepted-anchor, turn-anchor, turn-edge, turn-none, by_event, after-simple}
use Rattle.pool.specs.Input.{graph_of, anchored_by}
use Rattle.pool.proofs.Laws.{simple}
use Rattle.edit.specs.Edit.{last_start, Tabled, starts_of, links_of}
use Rattle.edit.specs.Lent.{check_lent, zeroed_at}
use Rattle.edit.proofs.Canonical.{table-starts, table-links}
use Rattle.edit.proofs.Checked.{lent-sound, lent_cut, zeroed_tabled, tabled_check, tabled_passes}
use Rattle.edit.proofs.After.{after_tabled}

-- a pool of n vertices in its slices
pub record Standing (n : ℕ) (P : Pool) : Type 0 where
  pub tabled : Tabled (starts_of P.graph) (links_of P.graph) P.graph
  pub vertices : vertices (starts_of P.graph) ≡ n
  -- the check of the lent table passes it, and every other operation's check its links up to the last start, which have the same graph
  pub lent : check_lent (starts_of P.graph) (links_of P.graph) ≡ clear
  pub checked : check_of (starts_of P.graph) (take (last_start (starts_of P.graph)) (links_of P.graph)) ≡ clear
  pub cut : graph_of (starts_of P.graph) (take (last_start (starts_of P.graph)) (links_of P.graph)) ≡ P.graph
  pub beyond : (v : ℕ) → n ≤ v → P.plain.anchors v ≡ false

-- ---- past the vertices

-- no event anchors there
turn-beyond : (P : Pool) (e : Event) (position v : ℕ) → P.graph.size ≤ v → (event_turn position e P).plain.anchors v ≡ P.plain.anchors v
turn-beyond P e position v h = by_event P e
    (λ z t.
    let free = accepted-anchor P e z t in
    let vertex = ((status-free P.graph P.plain.anchors e.first).0 free).0 in
    rw (turn-anchor P e position z t, turn-accepted P.graph P.plain e.first position free, ne_eqb e.first v (λ q. absurd (omega arith))) (or-false (P.plain.anchors v)))
    (λ z t. rw (turn-edge P e position z t))
    (λ f. rw (turn-none P e position f))

-- so the anchors are those of the start
after-beyond : (G : Graph) → Simple G → (A : ℕ → Bool) (events : ℕ → Event) (i v : ℕ) → G.size ≤ v → (after_events G A events i).plain.anchors v ≡ A v
unfolding after_events
after-beyond G L A events zero v h = refl
after-beyond G L A events (suc i) v h =
    let size = (after-simple G L A events i).1 in
    turn-beyond (after_events G A events i) (events i) (suc i) v (omega arith) ∙ after-beyond G L A events i v h

-- ---- from a lent table that its check passes

module _ (s l : List ℕ) (passed : check_lent s l ≡ clear) where
  abbrev G : Graph
  G = graph_of s l

  -- the links with zeros past the last start
  abbrev zeroed : List ℕ
  zeroed = tabulate (zeroed_at l (last_start s)) (length l)

  start : Tabled s zeroed G
  start = zeroed_tabled s l passed

  -- the graph's slices are the lent ones, the links up to the last start
  pub start_starts : starts_of G ≡ s
  start_starts = sym (table-starts start)

  pub start_links : take (last_start (starts_of G)) (links_of G) ≡ take (last_start s) l
  start_links =
      let last = last_start s in
      let long = length-tabulate (zeroed_at l last) (length l) in
      let enough = (lent-sound s l passed).framed.within (vertices s) (omega arith) in
      let read : (i : ℕ) → i < last → get_or zeroed i 0 ≡ get_or l i 0 = λ i h. tabulate-at (zeroed_at l last) (length l) i (omega arith) ∙ ap (λ (b : Bool). cond b (get_or l i 0) 0) (lt-ltb i last h) in
      ap₂ (λ z y. take (last_start z) y) start_starts (sym (table-links start))
      ∙ tabulate-take (λ i. get_or l i 0) zeroed last (omega arith) read
      ∙ sym (tabulate-take (λ i. get_or l i 0) l last enough (λ i h. refl))

  module _ (given : List ℕ) (long : length given ≡ vertices s) (events : ℕ → Event) (i : ℕ) where
    abbrev P : Pool
    P = after_events G (anchored_by given) events i

    after : Tabled (starts_of P.graph) (links_of P.graph) P.graph × (vertices (starts_of P.graph) ≡ vertices s)
    after = after_tabled start (anchored_by given) events i

    -- after every event
    pub pools_stand : Standing (vertices s) P
    pools_stand = record {
      tabled = after.0;
      vertices = after.1;
      lent = tabled_passes after.0;
      checked = tabled_check after.0;
      cut = lent_cut (starts_of P.graph) (links_of P.graph) (tabled_passes after.0) ∙ after.0.graph;
      beyond = λ v h. after-beyond G (simple (lent-sound s l passed)) (anchored_by given) events i v h
          ∙ ap (λ k. eqb k 1) (get_or-eq_default given 0 {n = v} (omega arith));
    }
