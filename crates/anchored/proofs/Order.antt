-- Lists of events: a prefix of a list, and lists that only anchor, which are sessions of names. Assumes nothing.
use Prim.Native.Nat.{ℕ, zero, suc, ◌≤◌, ◌<◌}
use mathlib.Core.Path.{◌≡◌, refl, sym, ap, ap₂, ◌∙◌}
use mathlib.Core.Bool.{Bool}
use mathlib.Core.List.{List}
use lib.ListN.{length, take, get_or}
use lib.Seq.{get_or-take}
use lib.Dec.{eqb, eqb→eq}
use native.Mathlib.Omega.{arith}
use borrow.Author.Tests.{eq-eqb}
use Rattle.finite.proofs.Tests.{split, true_of, false_of, neqb, of_true}
use Rattle.anchored.specs.Graph.{Graph}
use Rattle.anchored.specs.Session.{Plain, status_of, row_of, turn, after}
use Rattle.anchored.specs.Events.{Event, events_of, Pool, anchors, event_status, event_row, event_turn, after_events}
use Rattle.anchored.proofs.Session.{turn-refused, row-refused}
use Rattle.anchored.proofs.Events.{turn-anchor, turn-none}

module _ (G : Graph) (A : ℕ → Bool) where
  -- the pool after i events depends on these alone
  pub after_same : (f g : ℕ → Event) (i : ℕ) → ((j : ℕ) → j < i → f j ≡ g j) → after_events G A f i ≡ after_events G A g i
  unfolding after_events
  after_same f g zero e = refl
  after_same f g (suc i) e = ap₂ (event_turn (suc i)) (e i (omega arith)) (after_same f g i (λ j h. e j (omega arith)))

  -- so the pool after any prefix of the lists is that of the session on the prefix
  pub after-prefix : (kinds firsts seconds : List ℕ) (i : ℕ)
      → after_events G A (events_of (take i kinds) (take i firsts) (take i seconds)) i ≡ after_events G A (events_of kinds firsts seconds) i
  after-prefix kinds firsts seconds i = after_same _ _ i (λ j h. rw (get_or-take i kinds j 0 h, get_or-take i firsts j 0 h, get_or-take i seconds j 0 h))

  -- ---- events that anchor, and no other

  -- the first m events anchor the vertices of a list
  abbrev pub Anchoring : (ℕ → Event) → List ℕ → Type 0
  Anchoring events xs = (i : ℕ) → i < length xs → ((events i).kind ≡ 0) × ((events i).first ≡ get_or xs i 0)

  anchor-status : (S : Plain) (e : Event) → e.kind ≡ 0 → event_status (record { graph = G; plain = S }) e ≡ status_of G S.anchors e.first
  unfolding event_status
  anchor-status S e k = rw k

  -- one event that anchors is one request
  pub one-anchor : (position x : ℕ) (S : Plain) (e : Event) → e.kind ≡ 0 → e.first ≡ x
      → event_turn position e (record { graph = G; plain = S }) ≡ record { graph = G; plain = turn G position x S }
  one-anchor position x S e k f =
      let P : Pool = record { graph = G; plain = S } in
      let same = anchor-status S e k in
      split (eqb (event_status P e) 0)
      (λ z. turn-anchor P e position (eqb→eq (event_status P e) 0 z) (of_true (anchors e) (eq-eqb e.kind 0 k)) ∙ ap (λ y. record { graph = G; plain = turn G position y S }) f)
      (λ z.
      let n = neqb (event_status P e) 0 z in
      turn-none P e position n ∙ ap (λ (R : Plain). record { graph = G; plain = R }) (sym (turn-refused G S x position (λ q. n (same ∙ ap (status_of G S.anchors) f ∙ q)))))

  -- they are the session of that list, and leave the graph
  pub anchoring-plain : (events : ℕ → Event) (xs : List ℕ) → Anchoring events xs → (i : ℕ) → i ≤ length xs
      → after_events G A events i ≡ record { graph = G; plain = after G A xs i }
  unfolding after_events after
  anchoring-plain events xs only zero h = refl
  anchoring-plain events xs only (suc i) h =
      let e = only i (omega arith) in
      ap (event_turn (suc i) (events i)) (anchoring-plain events xs only i (omega arith)) ∙ one-anchor (suc i) (get_or xs i 0) (after G A xs i) (events i) e.0 e.1

  pub one-row : (x : ℕ) (S : Plain) (e : Event) → e.kind ≡ 0 → e.first ≡ x → event_row (record { graph = G; plain = S }) e ≡ row_of G S x
  unfolding event_row
  one-row x S e k f =
      let same = anchor-status S e k in
      let status = status_of G S.anchors e.first in
      split (eqb status 0)
      (λ z. rw (same, true_of (eqb status 0) z, k, f))
      (λ z. rw (same, false_of (eqb status 0) z, f) (sym (row-refused G S x (λ q. neqb status 0 z (ap (status_of G S.anchors) f ∙ q)))))

  -- and show its numbers
  pub anchoring-row : (events : ℕ → Event) (xs : List ℕ) → Anchoring events xs → (i : ℕ) → i < length xs
      → event_row (after_events G A events i) (events i) ≡ row_of G (after G A xs i) (get_or xs i 0)
  anchoring-row events xs only i h =
      let e = only i h in
      rw (anchoring-plain events xs only i (omega arith)) (one-row (get_or xs i 0) (after G A xs i) (events i) e.0 e.1)
