-- Sessions of events: the graph stays simple, an edge moves no level by more than one, a session that keeps the rows it need not
-- recompute holds what is defined for the graph and the anchors as they then stand, and climbs grow by net yields. Assumes nothing.
use Prim.Native.Nat.{ℕ, zero, suc, ◌+◌, ◌≤◌, ◌<◌}
use mathlib.Core.Path.{◌≡◌, refl, sym, ap, ◌∙◌, subst}
use mathlib.Core.Logic.{◌⊎◌, inl, inr, ⊎_elim}
use mathlib.Core.Bool.{Bool, true, false, not, cond, ◌&&◌, ◌||◌, beq}
use lib.IntN.{ℤ, pos, ◌+ℤ◌, +ℤ_idr, +ℤ_assoc}
use lib.Dec.{T, ltb, eqb, T_not, not_T, eqb→eq, ltb→lt, nltb→le}
use native.Mathlib.Nat.{add-zero, add-suc}
use native.Mathlib.Numerals.{add-one}
use native.Mathlib.Omega.{arith}
use borrow.Author.Tests.{ne_eqb}
use Rattle.finite.specs.Count.{bit, count, below}
use Rattle.finite.specs.Search.{member}
use Rattle.finite.specs.Edits.{insert, remove}
use Rattle.finite.proofs.Tests.{and_i, and_l, and_r, or_r, not-or, not-not, split, true_of, false_of, neqb, eqb_of, beq_of}
use Rattle.finite.proofs.Search.{member_i, member-e}
use Rattle.anchored.specs.Graph.{Graph, Simple}
use Rattle.anchored.specs.Core.{level, layer}
use Rattle.anchored.specs.Component.{component}
use Rattle.anchored.specs.Edge.{link_count}
use Rattle.anchored.specs.Followers.{followers, follower_count, reached, reached_count, mark}
use Rattle.anchored.specs.Yield.{least, nobody, bare_level, net, net_yield, climbed}
use Rattle.anchored.specs.Step.{sees_disturbed, sees_new, moved, recomputed}
use Rattle.anchored.specs.Session.{stale, status_of, turn}
use Rattle.anchored.specs.Events.{Event, Pool, anchors, adds, ends, Editable, edge_status, event_status, edge_graph, edge_stale, event_row, event_turn, after_events, gained_from}
use Rattle.anchored.proofs.Edge.{Thinner, thinner_low, thinner_one, edited-other, with_simple, with_thinner, without-simple, without_thinner}
use Rattle.anchored.proofs.Step.{kept-followers, kept-net, kept_reached}
use Rattle.anchored.proofs.Session.{Kept, Agrees, row_number, fresh, keep_accepted, accepted_agrees, status-free, turn-accepted, row-accepted, level-lifted}
use Rattle.anchored.proofs.Net.{climbed-net}

-- ---- the status of an event

-- a status 0 went past each refusal
past : (b : Bool) (k rest : ℕ) → (k ≡ 0 → ⊥) → cond b k rest ≡ 0 → T (not b) × (rest ≡ 0)
past true k rest n e = absurd (n e)
past false k rest n e = (tt, e)

choose : {C : Type 0} (b : Bool) (p q : ℕ) → cond b p q ≡ 0 → (T b → p ≡ 0 → C) → (T (not b) → q ≡ 0 → C) → C
choose true p q e f g = f tt e
choose false p q e f g = g tt e

pub edge_editable : (G : Graph) (e : Event) → edge_status G e ≡ 0 → Editable G e
unfolding edge_status
edge_editable G e z =
    let one = past (eqb e.first e.second) 6 _ (λ q. absurd (omega arith)) z in
    let two = past (not (ltb e.first G.size && ltb e.second G.size)) 15 _ (λ q. absurd (omega arith)) one.1 in
    let three = past (beq (member e.second (G.neighbors e.first)) (adds e)) 22 _ (λ q. absurd (omega arith)) two.1 in
    let four = past (adds e && ltb 16384 (link_count G + 2)) 23 _ (λ q. absurd (omega arith)) three.1 in
    let both = not-not (ltb e.first G.size && ltb e.second G.size) two.0 in
    record {
      other = neqb e.first e.second one.0;
      first = ltb→lt e.first G.size (and_l (ltb e.first G.size) _ both);
      second = ltb→lt e.second G.size (and_r (ltb e.first G.size) _ both);
      apart = λ t i. T_not (beq (member e.second (G.neighbors e.first)) (adds e)) three.0
          (beq_of (member e.second (G.neighbors e.first)) (adds e) (true_of (member e.second (G.neighbors e.first)) (member_i e.second (G.neighbors e.first) i) ∙ sym (true_of (adds e) t)));
      there = λ t. split (member e.second (G.neighbors e.first)) (member-e e.second (G.neighbors e.first)) (λ q.
          absurd (T_not (beq (member e.second (G.neighbors e.first)) (adds e)) three.0
          (beq_of (member e.second (G.neighbors e.first)) (adds e) (false_of (member e.second (G.neighbors e.first)) q ∙ sym (false_of (adds e) t)))));
      room = λ t. split (ltb 16384 (link_count G + 2))
          (λ q. absurd (T_not (adds e && ltb 16384 (link_count G + 2)) four.0 (and_i (adds e) _ t q)))
          (λ q. nltb→le 16384 (link_count G + 2) q);
    }

-- ---- the graph after an edge event

module _ (G : Graph) (e : Event) where
  abbrev H : Graph
  H = edge_graph G e

  pub edge-size : H.size ≡ G.size
  edge-size = split (adds e) (λ t. rw (true_of (adds e) t)) (λ t. rw (false_of (adds e) t))

  -- a vertex that is no end keeps its neighbors
  pub edge-neighbors : (u : ℕ) → T (not (ends e u)) → G.neighbors u ≡ H.neighbors u
  edge-neighbors u t =
      let both = not-or (eqb e.first u) (eqb e.second u) t in
      let n = neqb e.first u both.0 in
      let m = neqb e.second u both.1 in
      split (adds e)
      (λ q. rw (true_of (adds e) q) (sym (edited-other insert G e.first e.second u n m)))
      (λ q. rw (false_of (adds e) q) (sym (edited-other remove G e.first e.second u n m)))

  module _ (L : Simple G) (S : Editable G e) where
    pub edge-simple : Simple H
    edge-simple = split (adds e)
        (λ t. rw (true_of (adds e) t) (with_simple G L e.first e.second S.first S.second S.other (S.apart t)))
        (λ t. rw (false_of (adds e) t) (without-simple G L e.first e.second))

    -- one of the two has at most one edge less at each vertex
    thinner : Thinner H G ⊎ Thinner G H
    thinner = split (adds e)
        (λ t. rw (true_of (adds e) t) (inl (with_thinner G L e.first e.second S.first S.second S.other (S.apart t))))
        (λ t. rw (false_of (adds e) t) (inr (without_thinner G L e.first e.second)))

    -- no level moves by more than one
    pub edge_by_one : (A : ℕ → Bool) (v : ℕ) → v < G.size → (level G A v ≤ suc (level H A v)) × (level H A v ≤ suc (level G A v))
    edge_by_one A v b = let b' : v < H.size = subst (λ n. v < n) (sym edge-size) b in ⊎_elim
        (λ K. (omega (arith, thinner_low H G edge-simple L K A v b'), thinner_one H G edge-simple L K A v b'))
        (λ K. (thinner_one G H L edge-simple K A v b, omega (arith, thinner_low G H L edge-simple K A v b)))
        thinner

-- ---- one event

module _ (P : Pool) (e : Event) where
  abbrev G : Graph
  G = P.graph

  abbrev A : ℕ → Bool
  A = P.plain.anchors

  -- an accepted event anchors a free vertex, or has a sound edge
  pub accepted-anchor : event_status P e ≡ 0 → T (anchors e) → status_of G A e.first ≡ 0
  unfolding event_status
  accepted-anchor z t = choose (anchors e) (status_of G A e.first) (edge_status G e) (past (ltb 2 e.kind) 10 _ (λ q. absurd (omega arith)) z).1
      (λ q r. r) (λ q r. absurd (T_not (anchors e) q t))

  pub accepted-edge : event_status P e ≡ 0 → T (not (anchors e)) → Editable G e
  unfolding event_status
  accepted-edge z t = choose (anchors e) (status_of G A e.first) (edge_status G e) (past (ltb 2 e.kind) 10 _ (λ q. absurd (omega arith)) z).1
      (λ q r. absurd (T_not (anchors e) t q)) (λ q r. edge_editable G e r)

  -- what it leaves
  pub turn-anchor : (position : ℕ) → event_status P e ≡ 0 → T (anchors e) → event_turn position e P ≡ record { graph = G; plain = turn G position e.first P.plain }
  unfolding event_turn
  turn-anchor position z t = rw (true_of (eqb (event_status P e) 0) (eqb_of (event_status P e) 0 z), true_of (anchors e) t)

  pub turn-edge : (position : ℕ) → event_status P e ≡ 0 → T (not (anchors e))
      → event_turn position e P ≡ record { graph = edge_graph G e; plain = record { anchors = A; stamps = λ v. cond (edge_stale P e v) position (P.plain.stamps v) } }
  unfolding event_turn
  turn-edge position z t = rw (true_of (eqb (event_status P e) 0) (eqb_of (event_status P e) 0 z), false_of (anchors e) t)

  pub turn-none : (position : ℕ) → (event_status P e ≡ 0 → ⊥) → event_turn position e P ≡ P
  unfolding event_turn
  turn-none position n = rw (ne_eqb (event_status P e) 0 n)

  -- by cases: an anchor, an edge, or refused
  pub by_event : {C : Type 0} → (event_status P e ≡ 0 → T (anchors e) → C) → (event_status P e ≡ 0 → T (not (anchors e)) → C) → ((event_status P e ≡ 0 → ⊥) → C) → C
  by_event f g h = split (eqb (event_status P e) 0)
      (λ z. split (anchors e) (f (eqb→eq (event_status P e) 0 z)) (g (eqb→eq (event_status P e) 0 z)))
      (λ z. h (neqb (event_status P e) 0 z))

  -- the numbers that it shows: of an event that anchors, of one that adds or drops an edge, and of one that is refused
  pub row-anchor : event_status P e ≡ 0 → T (anchors e)
      → event_row P e ≡ record { status = 0; lifted = followers G A e.first; redone = count (stale G A e.first) (below G.size) }
  unfolding event_row
  row-anchor z t = rw (true_of (eqb (event_status P e) 0) (eqb_of (event_status P e) 0 z), true_of (anchors e) t) (row-accepted G P.plain e.first (accepted-anchor z t))

  pub row-edge : event_status P e ≡ 0 → T (not (anchors e)) → event_row P e ≡ record { status = 0; lifted = 0; redone = count (edge_stale P e) (below G.size) }
  unfolding event_row
  row-edge z t = rw (true_of (eqb (event_status P e) 0) (eqb_of (event_status P e) 0 z), false_of (anchors e) t)

  pub row-none : (event_status P e ≡ 0 → ⊥) → event_row P e ≡ record { status = event_status P e; lifted = 0; redone = 0 }
  unfolding event_row
  row-none f = rw (ne_eqb (event_status P e) 0 f)

  -- the status that it shows is its status
  pub row-status : (event_row P e).status ≡ event_status P e
  row-status = by_event
      (λ z t. ap (λ r. r.status) (row-anchor z t) ∙ sym z)
      (λ z t. ap (λ r. r.status) (row-edge z t) ∙ sym z)
      (λ f. ap (λ r. r.status) (row-none f))

  -- the graph stays simple, of one size
  pub turn-simple : (position : ℕ) → Simple G → Simple (event_turn position e P).graph × ((event_turn position e P).graph.size ≡ G.size)
  turn-simple position L = by_event
      (λ z t. rw (turn-anchor position z t) (L, refl))
      (λ z t. rw (turn-edge position z t) (edge-simple G e L (accepted-edge z t), edge-size G e))
      (λ n. rw (turn-none position n) (L, refl))

-- one event more
pub events-more : (G : Graph) (A : ℕ → Bool) (events : ℕ → Event) (i : ℕ) → after_events G A events (i + 1) ≡ event_turn (i + 1) (events i) (after_events G A events i)
unfolding after_events
events-more G A events i = rw add-one

module _ (G : Graph) (L : Simple G) (A : ℕ → Bool) (events : ℕ → Event) where
  abbrev pool : ℕ → Pool
  pool i = after_events G A events i

  -- through the whole list
  pub after-simple : (i : ℕ) → Simple (pool i).graph × ((pool i).graph.size ≡ G.size)
  unfolding after_events
  after-simple zero = (L, refl)
  after-simple (suc i) =
      let so = after-simple i in
      let now = turn-simple (pool i) (events i) (suc i) so.0 in
      (now.0, now.1 ∙ so.1)

  -- an event that anchors x changes the levels of exactly the lifted vertices, each by one
  pub anchor_lifts : (i : ℕ) → event_status (pool i) (events i) ≡ 0 → T (anchors (events i)) → (v : ℕ) → v < G.size → (v ≡ (events i).first → ⊥)
      → let H = (pool i).graph in level (pool (suc i)).graph (pool (suc i)).plain.anchors v ≡ level H (pool i).plain.anchors v + bit (eqb (mark H (pool i).plain.anchors (events i).first v) 2)
  unfolding after_events
  anchor_lifts i z t v b n =
      let P = pool i in
      let e = events i in
      let so = after-simple i in
      rw (turn-anchor P e (suc i) z t, turn-accepted P.graph P.plain e.first (suc i) (accepted-anchor P e z t))
      (level-lifted P.graph so.0 P.plain.anchors e.first v (subst (λ m. v < m) (sym so.1) b) n)

  -- an edge moves no level by more than one
  pub edge-moves : (i : ℕ) → event_status (pool i) (events i) ≡ 0 → T (not (anchors (events i))) → (v : ℕ) → v < G.size
      → (level (pool i).graph (pool i).plain.anchors v ≤ suc (level (pool (suc i)).graph (pool (suc i)).plain.anchors v))
      × (level (pool (suc i)).graph (pool (suc i)).plain.anchors v ≤ suc (level (pool i).graph (pool i).plain.anchors v))
  unfolding after_events
  edge-moves i z t v b =
      let P = pool i in
      let e = events i in
      let so = after-simple i in
      rw (turn-edge P e (suc i) z t) (edge_by_one P.graph e so.0 (accepted-edge P e z t) P.plain.anchors v (subst (λ m. v < m) (sym so.1) b))

  -- and no bare level, whatever the event
  pub bare_moves : (i v : ℕ) → v < G.size
      → (bare_level (pool i).graph v ≤ suc (bare_level (pool (suc i)).graph v)) × (bare_level (pool (suc i)).graph v ≤ suc (bare_level (pool i).graph v))
  unfolding after_events bare_level
  bare_moves i v b =
      let P = pool i in
      let e = events i in
      let so = after-simple i in
      let b' : v < P.graph.size = subst (λ m. v < m) (sym so.1) b in
      by_event P e
      (λ z t. rw (turn-anchor P e (suc i) z t) (omega arith, omega arith))
      (λ z t. rw (turn-edge P e (suc i) z t) (edge_by_one P.graph e so.0 (accepted-edge P e z t) nobody v b'))
      (λ n. rw (turn-none P e (suc i) n) (omega arith, omega arith))

  -- ---- the sum of net yields, over a stretch without edge events

  -- the event at i, if it is no accepted edge event, adds the net yield of the vertex that it anchors
  anchored_only : (i : ℕ) → (event_status (pool i) (events i) ≡ 0 → T (anchors (events i))) → let P = pool i in let e = events i in
      pos (climbed (event_turn (suc i) e P).graph (event_turn (suc i) e P).plain.anchors)
      ≡ pos (climbed P.graph P.plain.anchors) +ℤ cond (eqb (event_status P e) 0 && anchors e) (net P.graph P.plain.anchors e.first) (pos 0)
  anchored_only i only =
      let P = pool i in
      let e = events i in
      by_event P e
      (λ z t.
      let ok = accepted-anchor P e z t in
      let f = (status-free P.graph P.plain.anchors e.first).0 ok in
      rw (turn-anchor P e (suc i) z t, turn-accepted P.graph P.plain e.first (suc i) ok, true_of (eqb (event_status P e) 0) (eqb_of (event_status P e) 0 z), true_of (anchors e) t)
      (climbed-net P.graph (after-simple i).0 P.plain.anchors e.first f.0 f.1))
      (λ z t. absurd (T_not (anchors e) t (only z)))
      (λ n. rw (turn-none P e (suc i) n, ne_eqb (event_status P e) 0 n) (sym (+ℤ_idr (pos (climbed P.graph P.plain.anchors)))))

  after_next : (i m : ℕ) → pool (i + suc m) ≡ event_turn (suc (i + m)) (events (i + m)) (pool (i + m))
  unfolding after_events
  after_next i m = rw add-suc

  -- none of the m events after the first i is an accepted edge event
  abbrev pub Stretch : ℕ → ℕ → Type 0
  Stretch i m = (j : ℕ) → j < m → event_status (pool (i + j)) (events (i + j)) ≡ 0 → T (anchors (events (i + j)))

  pub climbed_stretch : (i m : ℕ) → Stretch i m
      → pos (climbed (pool (i + m)).graph (pool (i + m)).plain.anchors) ≡ pos (climbed (pool i).graph (pool i).plain.anchors) +ℤ gained_from G A events i m
  unfolding gained_from
  climbed_stretch i zero s = rw add-zero (sym (+ℤ_idr (pos (climbed (pool i).graph (pool i).plain.anchors))))
  climbed_stretch i (suc m) s =
      let P = pool (i + m) in
      let e = events (i + m) in
      let start = pos (climbed (pool i).graph (pool i).plain.anchors) in
      let gain = cond (eqb (event_status P e) 0 && anchors e) (net P.graph P.plain.anchors e.first) (pos 0) in
      rw (after_next i m) (anchored_only (i + m) (s m (omega arith))
      ∙ ap (λ (z : ℤ). z +ℤ gain) (climbed_stretch i m (λ j h. s j (omega arith)))
      ∙ +ℤ_assoc start (gained_from G A events i m) gain)

-- ---- a session that keeps the rows it need not recompute

-- what it keeps: the graph, and beside it what `Kept` has
pub record KeptPool : Type 0 where
  pub graph : Graph
  pub kept : Kept

-- its graph and anchors, as the plain session has them
abbrev plainly : KeptPool → Pool
plainly K = record { graph = K.graph; plain = record { anchors = K.kept.anchors; stamps = K.kept.stamps } }

-- what an accepted edge event leaves: the sheet worked anew, and of the rows the recomputed ones
unfoldable pub keep_edge : ℕ → Event → Graph → Kept → Kept
keep_edge position e G K = let A = K.anchors in let H = edge_graph G e in let stale = recomputed G H A A (ends e) in record {
  anchors = A;
  levels = level H A;
  layers = layer H A;
  components = component H A;
  counts = λ v. cond (stale v) (followers H A v) (K.counts v);
  nets = λ v. cond (stale v) (net H A v) (K.nets v);
  reaches = λ v. cond (stale v) (reached H A v) (K.reaches v);
  stamps = λ v. cond (stale v) position (K.stamps v);
}

unfoldable pub keep_event : ℕ → Event → KeptPool → KeptPool
keep_event position e K = cond (eqb (event_status (plainly K) e) 0)
    (cond (anchors e)
    (record { graph = K.graph; kept = keep_accepted K.graph position e.first K.kept })
    (record { graph = edge_graph K.graph e; kept = keep_edge position e K.graph K.kept }))
    K

-- the keeping session after the first i events
unfoldable pub keeping_events : Graph → (ℕ → Bool) → (ℕ → Event) → ℕ → KeptPool
keeping_events G A events zero = let P = after_events G A events zero in record { graph = G; kept = fresh G P.plain }
keeping_events G A events (suc i) = keep_event (suc i) (events i) (keeping_events G A events i)

-- it holds what is defined for the graph and the set of a pool, and the pool's stamps
pub record AgreesWith (K : KeptPool) (P : Pool) : Type 0 where
  pub graph : K.graph ≡ P.graph
  pub rows : Agrees P.graph K.kept (fresh P.graph P.plain)

module _ (G : Graph) (L : Simple G) (e : Event) (S : Editable G e) (A : ℕ → Bool) where
  abbrev E : Graph
  E = edge_graph G e

  abbrev again : ℕ → Bool
  again = recomputed G E A A (ends e)

  abbrev M : Simple E
  M = edge-simple G e L S

  -- a row of a free vertex that is not recomputed is none of the edge's ends
  no_end : (v : ℕ) → T (not (A v)) → T (not (again v)) → T (not (ends e v))
  unfolding recomputed
  no_end v a t = not_T (ends e v) (λ q. T_not (again v) t (and_i (not (A v)) _ a (or_r (sees_disturbed G E A A v || sees_new G E A A v || moved G E A A v) (ends e v) q)))

  -- where the rows that are not recomputed keep their number, a renewed number is the fresh one
  pub renewed-edge : {X : Type 0} (top : X) (number : Graph → ℕ → X) (v : ℕ) → (T (not (A v)) → T (not (again v)) → number G v ≡ number E v)
      → cond (again v) (number E v) (row_number top A (number G) v) ≡ row_number top A (number E) v
  unfolding recomputed
  renewed-edge top number v same = split (A v)
      (λ a. rw (true_of (A v) a))
      (λ a. split (again v)
      (λ t. rw (true_of (again v) t, false_of (A v) a))
      (λ t. rw (false_of (again v) t, false_of (A v) a) (same a t)))

  -- the row of a free vertex that is not recomputed keeps its followers, its reached count and its net yield
  module _ (v : ℕ) (b : v < G.size) (a : T (not (A v))) (t : T (not (again v))) where
    list-kept : G.neighbors v ≡ E.neighbors v
    list-kept = edge-neighbors G e v (no_end v a t)

    pub edge-followers : followers G A v ≡ followers E A v
    edge-followers = kept-followers G E L M (sym (edge-size G e)) A A (ends e) v b a a list-kept t

    pub edge-reached : reached G A v ≡ reached E A v
    edge-reached = kept_reached G E L M (sym (edge-size G e)) A A (ends e) v b a a list-kept t

    pub edge-net : net G A v ≡ net E A v
    edge-net = kept-net G E L M (sym (edge-size G e)) A A (ends e) v b a a list-kept t

  edge_agrees : (position : ℕ) (K : Kept) (stamps : ℕ → ℕ) → Agrees G K (fresh G (record { anchors = A; stamps = stamps }))
      → Agrees E (keep_edge position e G K) (fresh E (record { anchors = A; stamps = λ v. cond (again v) position (stamps v) }))
  unfolding keep_edge follower_count net_yield reached_count
  edge_agrees position K stamps J =
      let same : K.anchors ≡ A = J.anchors in
      let size = edge-size G e in
      let down : (v : ℕ) → v < E.size → v < G.size = λ v b. subst (λ n. v < n) size b in
      record {
        anchors = same;
        levels = λ v b. rw same;
        layers = λ v b. rw same;
        components = λ v b. rw same;
        counts = λ v b. rw (same, J.counts v (down v b)) (renewed-edge 65535 (λ F. followers F A) v (edge-followers v (down v b)));
        nets = λ v b. rw (same, J.nets v (down v b)) (renewed-edge least (λ F. net F A) v (edge-net v (down v b)));
        reaches = λ v b. rw (same, J.reaches v (down v b)) (renewed-edge 65535 (λ F. reached F A) v (edge-reached v (down v b)));
        stamps = λ v b. rw (same, J.stamps v (down v b));
      }

-- what an event leaves agrees with what the plain session's turn leaves
module _ (P : Pool) (L : Simple P.graph) (e : Event) (position : ℕ) (K : KeptPool) (J : AgreesWith K P) where
  same-status : event_status (plainly K) e ≡ event_status P e
  unfolding event_status
  same-status = rw (J.graph, J.rows.anchors)

  keep-turn : AgreesWith (keep_event position e K) (event_turn position e P)
  unfolding keep_event
  keep-turn = rw same-status (by_event P e
      (λ z t. rw (turn-anchor P e position z t, true_of (eqb (event_status P e) 0) (eqb_of (event_status P e) 0 z), true_of (anchors e) t) record {
        graph = J.graph;
        rows = subst (λ g. Agrees P.graph (keep_accepted g position e.first K.kept) (fresh P.graph (turn P.graph position e.first P.plain))) (sym J.graph)
            (accepted_agrees P.graph L position e.first K.kept P.plain J.rows (accepted-anchor P e z t));
      })
      (λ z t. rw (turn-edge P e position z t, true_of (eqb (event_status P e) 0) (eqb_of (event_status P e) 0 z), false_of (anchors e) t) record {
        graph = ap (λ g. edge_graph g e) J.graph;
        rows = subst (λ g. Agrees (edge_graph P.graph e) (keep_edge position e g K.kept) (fresh (edge_graph P.graph e) (record { anchors = P.plain.anchors; stamps = λ v. cond (edge_stale P e v) position (P.plain.stamps v) }))) (sym J.graph)
            (edge_agrees P.graph L e (accepted-edge P e z t) P.plain.anchors position K.kept P.plain.stamps J.rows);
      })
      (λ n. rw (turn-none P e position n, ne_eqb (event_status P e) 0 n) J))

-- the keeping session holds, after every event, what is defined for the graph and the anchors of the plain session, and its stamps
pub keeping-events : (G : Graph) → Simple G → (A : ℕ → Bool) (events : ℕ → Event) (i : ℕ) → AgreesWith (keeping_events G A events i) (after_events G A events i)
unfolding keeping_events after_events
keeping-events G L A events zero = record {
  graph = refl;
  rows = record {
    anchors = refl;
    levels = λ v b. refl;
    layers = λ v b. refl;
    components = λ v b. refl;
    counts = λ v b. refl;
    nets = λ v b. refl;
    reaches = λ v b. refl;
    stamps = λ v b. refl;
  };
}
keeping-events G L A events (suc i) =
    keep-turn (after_events G A events i) (after-simple G L A events i).0 (events i) (suc i) (keeping_events G A events i) (keeping-events G L A events i)
