-- Pools with one graph and one set of anchors, whose stamps agree on the vertices: an event has the same numbers in both, and leaves pools
-- that are alike again. Assumes nothing.
use mathlib.Core.Path.{◌≡◌, sym, ap, ap₂, ◌∙◌}
use mathlib.Core.Bool.{cond, ◌||◌}
use Prim.Native.Nat.{ℕ, ◌<◌}
use lib.Dec.{eqb}
use Rattle.anchored.specs.Followers.{adding}
use Rattle.anchored.specs.Step.{recomputed}
use Rattle.anchored.specs.Session.{stale, row_of}
use Rattle.anchored.specs.Events.{Event, Pool, ends, event_status, edge_graph, event_row, event_turn}
use Rattle.anchored.proofs.Session.{turn-accepted}
use Rattle.anchored.proofs.Events.{accepted-anchor, turn-anchor, turn-edge, turn-none, by_event}

pub record Alike (n : ℕ) (P Q : Pool) : Type 0 where
  pub graph : P.graph ≡ Q.graph
  pub anchors : P.plain.anchors ≡ Q.plain.anchors
  pub stamps : (v : ℕ) → v < n → P.plain.stamps v ≡ Q.plain.stamps v

module _ {n : ℕ} {P Q : Pool} (same : Alike n P Q) (e : Event) where
  status : event_status P e ≡ event_status Q e
  unfolding event_status
  status = rw (same.graph, same.anchors)

  -- stamps do not matter to the numbers
  pub alike-row : event_row P e ≡ event_row Q e
  unfolding event_row event_status row_of
  alike-row = rw (same.graph, same.anchors)

  pub alike-turn : (position : ℕ) → Alike n (event_turn position e P) (event_turn position e Q)
  alike-turn position = by_event Q e
      (λ z t.
      let x = e.first in
      let ours = turn-accepted P.graph P.plain x position (accepted-anchor P e (status ∙ z) t) in
      let theirs = turn-accepted Q.graph Q.plain x position (accepted-anchor Q e z t) in
      rw (turn-anchor P e position (status ∙ z) t, turn-anchor Q e position z t, ours, theirs) record {
        graph = same.graph;
        anchors = ap (λ A. adding A x) same.anchors;
        stamps = λ v h.
            ap₂ (λ G A. cond (eqb x v || stale G A x v) position (P.plain.stamps v)) same.graph same.anchors
            ∙ ap (cond (eqb x v || stale Q.graph Q.plain.anchors x v) position) (same.stamps v h);
      })
      (λ z t. rw (turn-edge P e position (status ∙ z) t, turn-edge Q e position z t) record {
        graph = ap (λ G. edge_graph G e) same.graph;
        anchors = same.anchors;
        stamps = λ v h.
            ap₂ (λ G A. cond (recomputed G (edge_graph G e) A A (ends e) v) position (P.plain.stamps v)) same.graph same.anchors
            ∙ ap (cond (recomputed Q.graph (edge_graph Q.graph e) Q.plain.anchors Q.plain.anchors (ends e) v) position) (same.stamps v h);
      })
      (λ f. rw (turn-none P e position (λ z. f (sym status ∙ z)), turn-none Q e position f) same)
