-- One event, from a pool in its slices to the next: the rows that it recomputes, its numbers, and what the records before and after have
-- in common. Assumes nothing.
use mathlib.Core.Path.{◌≡◌, refl, sym, ap, ap₂, ◌∙◌, subst, fun_ext}
use mathlib.Core.Bool.{Bool, not, cond, ◌&&◌, ◌||◌, or-false}
use Prim.Native.Nat.{ℕ, ◌+◌, ◌≤◌, ◌<◌}
use native.Mathlib.Omega.{arith}
use lib.ListN.{take, get_or}
use lib.IntN.{ℤ, pos}
use lib.Dec.{T, eqb, eqb_refl}
use Rattle.finite.specs.Count.{bit, tabulate, count, below}
use Rattle.finite.proofs.Tests.{or_r, not-or, true_of, false_of}
use Rattle.finite.proofs.Count.{tabulate_reads, tabulate-at, count_cong, in_below}
use Rattle.anchored.specs.Graph.{Graph}
use Rattle.anchored.specs.Core.{level}
use Rattle.anchored.specs.Followers.{adding, followers, reached, reached_count, mark}
use Rattle.anchored.specs.Yield.{least, nobody, bare_level, net, net_yield}
use Rattle.anchored.specs.Step.{recomputed}
use Rattle.anchored.specs.Session.{Plain, stale, status_of}
use Rattle.anchored.specs.Events.{Event, Pool, anchors, ends, Editable, event_status, edge_graph, edge_stale, event_row, event_turn}
use Rattle.anchored.proofs.Session.{status-free, turn-accepted, followers-marks, level-lifted, anchor-reached, anchor-net}
use Rattle.anchored.proofs.Events.{edge_by_one, edge-reached, edge-net, accepted-anchor, accepted-edge, turn-anchor, turn-edge, row-anchor, row-edge}
use Rattle.pool.specs.Input.{graph_of, anchored_by}
use Rattle.search.specs.Answers.{marks_of}
use Rattle.edit.specs.Edit.{last_start, starts_of, links_of}
use Rattle.session.proofs.Tables.{Standing}
use Rattle.session.proofs.Records.{pool-simple, pool-size, set_is}
use Rattle.session.proofs.Rows.{recomputed-same, row_kept}

-- event e is accepted in pool P, at a position, and leaves pool Q; both stand in their slices
pub record Accepted (n : ℕ) (P Q : Pool) (e : Event) (position : ℕ) : Type 0 where
  pub old : Standing n P
  pub new : Standing n Q
  pub status : event_status P e ≡ 0
  pub turned : Q ≡ event_turn position e P

module _ {n : ℕ} {P Q : Pool} {e : Event} {position : ℕ} (step : Accepted n P Q e position) where
  abbrev G : Graph
  G = P.graph

  abbrev A : ℕ → Bool
  A = P.plain.anchors

  -- the graph of the slices, and the set that the bytes say
  abbrev graph_in : Pool → Graph
  graph_in R = graph_of (starts_of R.graph) (links_of R.graph)

  abbrev set_in : Pool → ℕ → Bool
  set_in R = anchored_by (tabulate (λ v. bit (R.plain.anchors v)) n)

  -- the rows recomputed, by the slices before and after
  abbrev redone : ℕ → Bool
  redone = recomputed (graph_in P) (graph_in Q) (set_in P) (set_in Q) (λ v. not (anchors e) && ends e v)

  -- the numbers of the record, before and after
  abbrev level_in : Pool → ℕ → ℕ
  level_in R v = get_or (tabulate (level R.graph R.plain.anchors) n) v 0

  abbrev pool_yield : Pool → ℕ → ℤ
  pool_yield R v = get_or (tabulate (net_yield R.graph R.plain.anchors) n) v (pos 0)

  abbrev pool_reached : Pool → ℕ → ℕ
  pool_reached R v = get_or (tabulate (reached_count R.graph R.plain.anchors) n) v 0

  abbrev stamp_in : Pool → ℕ → ℕ
  stamp_in R v = get_or (tabulate R.plain.stamps n) v 0

  -- a number of a row that is the same in both pools is read the same
  reads_same : {X : Type 0} (default : X) (number : Graph → (ℕ → Bool) → ℕ → X) (v : ℕ) → v < n → number Q.graph Q.plain.anchors v ≡ number G A v
      → get_or (tabulate (number Q.graph Q.plain.anchors) n) v default ≡ get_or (tabulate (number G A) n) v default
  reads_same default number v b same = tabulate_reads (number Q.graph Q.plain.anchors) default n v b ∙ same ∙ sym (tabulate_reads (number G A) default n v b)

  vertex : (v : ℕ) → v < n → v < G.size
  vertex v b = let size = pool-size step.old in omega arith

  -- it anchors a vertex
  module _ (kind : T (anchors e)) where
    abbrev x : ℕ
    x = e.first

    abbrev B : ℕ → Bool
    B = adding A x

    -- the marks of the search from x, with the table just before
    abbrev mark_in : ℕ → ℕ
    mark_in v = get_or (marks_of (starts_of G) (take (last_start (starts_of G)) (links_of G)) (tabulate (λ w. bit (A w)) n) x) v 0

    -- x is a vertex that was not anchored
    free : status_of G A x ≡ 0
    free = accepted-anchor P e step.status kind

    pub anchor-vertex : x < n
    anchor-vertex = let size = pool-size step.old in omega (arith, ((status-free G A x).0 free).0)

    pub anchor-free : T (not (A x))
    anchor-free = ((status-free G A x).0 free).1

    -- what it leaves, of the pool and in the bytes
    pub anchored-next : Q ≡ record { graph = G; plain = record { anchors = B; stamps = λ v. cond (eqb x v || stale G A x v) position (P.plain.stamps v) } }
    anchored-next = step.turned ∙ turn-anchor P e position step.status kind ∙ ap (λ (S : Plain). record { graph = G; plain = S }) (turn-accepted G P.plain x position free)

    pub anchored-set : set_in Q ≡ adding (set_in P) x
    anchored-set = set_is step.new ∙ ap (λ R. R.plain.anchors) anchored-next ∙ ap (λ C. adding C x) (sym (set_is step.old))

    -- the rows recomputed are those that x makes stale
    anchor-redone : redone ≡ stale G A x
    anchor-redone = recomputed-same step.old.tabled.graph (step.new.tabled.graph ∙ ap (λ R. R.graph) anchored-next) (set_is step.old) (set_is step.new ∙ ap (λ R. R.plain.anchors) anchored-next)
        (fun_ext (λ v. rw (true_of (anchors e) kind)))

    -- x and the rows recomputed get the position as their stamp
    pub anchor-stamps : (v : ℕ) → v < n → stamp_in Q v ≡ cond (eqb x v || redone v) position (stamp_in P v)
    anchor-stamps v b =
        tabulate-at Q.plain.stamps n v b
        ∙ ap (λ R. R.plain.stamps v) anchored-next
        ∙ ap₂ (λ (r : Bool) (k : ℕ). cond (eqb x v || r) position k) (ap (λ f. f v) (sym anchor-redone)) (sym (tabulate-at P.plain.stamps n v b))

    -- these rows are counted, and x's is not among them
    pub anchor-counted : (event_row P e).redone ≡ count redone (below n)
    anchor-counted = ap (λ r. r.redone) (row-anchor P e step.status kind) ∙ ap₂ (λ f k. count f (below k)) (sym anchor-redone) (pool-size step.old)

    pub anchor-uncounted : T (not (redone x))
    unfolding recomputed
    anchor-uncounted = subst (λ f. T (not (f x))) (sym anchor-redone) (rw (true_of (B x) (or_r (A x) (eqb x x) (eqb_refl x))) tt)

    -- the number lifted is that of the followers of x, and of the marks 2
    pub anchor-lifted : (event_row P e).lifted ≡ followers G A x
    anchor-lifted = ap (λ r. r.lifted) (row-anchor P e step.status kind)

    mark_is : (v : ℕ) → v < n → mark_in v ≡ mark G A x v
    mark_is v b = let same = step.old.vertices in tabulate-at _ _ v (omega arith) ∙ ap₂ (λ g C. mark g C x v) step.old.cut (set_is step.old)

    pub anchor-marked : (event_row P e).lifted ≡ count (λ v. eqb (mark_in v) 2) (below n)
    anchor-marked = anchor-lifted ∙ followers-marks G A x
        ∙ ap (λ k. count (λ v. eqb (mark G A x v) 2) (below k)) (pool-size step.old)
        ∙ count_cong _ _ (below n) (λ v j. ap (λ k. eqb k 2) (sym (mark_is v ((in_below n v).0 j))))

    -- x apart, each vertex marked 2 is up by one level, and every other keeps its level
    pub anchor-levels : (v : ℕ) → v < n → (v ≡ x → ⊥) → level_in Q v ≡ level_in P v + bit (eqb (mark_in v) 2)
    anchor-levels v b other =
        let size = pool-size step.old in
        tabulate-at (level Q.graph Q.plain.anchors) n v b
        ∙ ap (λ R. level R.graph R.plain.anchors v) anchored-next
        ∙ level-lifted G (pool-simple step.old) A x v (omega arith) other
        ∙ ap₂ (λ k j. k + bit (eqb j 2)) (sym (tabulate-at (level G A) n v b)) (sym (mark_is v b))

    -- every row but x's and those recomputed keeps its yield and its reached count
    module _ (v : ℕ) (b : v < n) (t : T (not (eqb x v || redone v))) where
      alike : A v ≡ B v
      alike = sym (rw (false_of (eqb x v) (not-or (eqb x v) (redone v) t).0) (or-false (A v)))

      still_free : T (not (A v)) → T (not (B v))
      still_free = subst (λ c. T (not c)) alike

      unstale : T (not (stale G A x v))
      unstale = subst (λ f. T (not (f v))) anchor-redone (not-or (eqb x v) (redone v) t).1

      pub anchor-yields : pool_yield Q v ≡ pool_yield P v
      unfolding net_yield
      anchor-yields = reads_same (pos 0) net_yield v b (ap (λ R. net_yield R.graph R.plain.anchors v) anchored-next
          ∙ row_kept least A B (net G A) (net G B) v alike (λ a. anchor-net G (pool-simple step.old) A x v (vertex v b) (still_free a) unstale))

      pub anchor-reaches : pool_reached Q v ≡ pool_reached P v
      unfolding reached_count
      anchor-reaches = reads_same 0 reached_count v b (ap (λ R. reached_count R.graph R.plain.anchors v) anchored-next
          ∙ row_kept 65535 A B (reached G A) (reached G B) v alike (λ a. anchor-reached G (pool-simple step.old) A x v (vertex v b) (still_free a) unstale))

  -- it adds an edge, or drops it
  module _ (kind : T (not (anchors e))) where
    abbrev H : Graph
    H = edge_graph G e

    S : Editable G e
    S = accepted-edge P e step.status kind

    -- what it leaves, of the pool, in the table and in the set
    edged_next : Q ≡ record { graph = H; plain = record { anchors = A; stamps = λ v. cond (edge_stale P e v) position (P.plain.stamps v) } }
    edged_next = step.turned ∙ turn-edge P e position step.status kind

    pub edged_graph : graph_in Q ≡ edge_graph (graph_in P) e
    edged_graph = step.new.tabled.graph ∙ ap (λ R. R.graph) edged_next ∙ ap (λ g. edge_graph g e) (sym step.old.tabled.graph)

    pub edged_set : Q.plain.anchors ≡ A
    edged_set = ap (λ R. R.plain.anchors) edged_next

    -- the rows recomputed are those that the edge makes stale
    edge-redone : redone ≡ edge_stale P e
    edge-redone = recomputed-same step.old.tabled.graph (step.new.tabled.graph ∙ ap (λ R. R.graph) edged_next) (set_is step.old) (set_is step.new ∙ edged_set)
        (fun_ext (λ v. rw (false_of (anchors e) kind)))

    -- they get the position as their stamp, and are counted; nobody is lifted
    pub edge-stamps : (v : ℕ) → v < n → stamp_in Q v ≡ cond (redone v) position (stamp_in P v)
    edge-stamps v b =
        tabulate-at Q.plain.stamps n v b
        ∙ ap (λ R. R.plain.stamps v) edged_next
        ∙ ap₂ (λ (r : Bool) (k : ℕ). cond r position k) (ap (λ f. f v) (sym edge-redone)) (sym (tabulate-at P.plain.stamps n v b))

    pub edge-counted : (event_row P e).redone ≡ count redone (below n)
    edge-counted = ap (λ r. r.redone) (row-edge P e step.status kind) ∙ ap₂ (λ f k. count f (below k)) (sym edge-redone) (pool-size step.old)

    pub edge-lifted : (event_row P e).lifted ≡ 0
    edge-lifted = ap (λ r. r.lifted) (row-edge P e step.status kind)

    -- no level and no bare level moves by more than one
    pub edge-levels : (v : ℕ) → v < n → (level_in P v ≤ level_in Q v + 1) × (level_in Q v ≤ level_in P v + 1)
    edge-levels v b =
        let size = pool-size step.old in
        let one = edge_by_one G e (pool-simple step.old) S A v (omega arith) in
        let before = tabulate-at (level G A) n v b in
        let later : level_in Q v ≡ level H A v = tabulate-at (level Q.graph Q.plain.anchors) n v b ∙ ap (λ R. level R.graph R.plain.anchors v) edged_next in
        omega arith

    pub edge-bares : (v : ℕ) → v < n → (bare_level (graph_in P) v ≤ bare_level (graph_in Q) v + 1) × (bare_level (graph_in Q) v ≤ bare_level (graph_in P) v + 1)
    unfolding bare_level
    edge-bares v b =
        let size = pool-size step.old in
        let one = edge_by_one G e (pool-simple step.old) S nobody v (omega arith) in
        let before : bare_level (graph_in P) v ≡ level G nobody v = ap (λ g. level g nobody v) step.old.tabled.graph in
        let later : bare_level (graph_in Q) v ≡ level H nobody v = ap (λ g. level g nobody v) (step.new.tabled.graph ∙ ap (λ R. R.graph) edged_next) in
        omega arith

    -- every row that is not recomputed keeps its yield and its reached count
    module _ (v : ℕ) (b : v < n) (t : T (not (redone v))) where
      untouched : T (not (edge_stale P e v))
      untouched = subst (λ f. T (not (f v))) edge-redone t

      pub edge-yields : pool_yield Q v ≡ pool_yield P v
      unfolding net_yield
      edge-yields = reads_same (pos 0) net_yield v b (ap (λ R. net_yield R.graph R.plain.anchors v) edged_next
          ∙ row_kept least A A (net G A) (net H A) v refl (λ a. edge-net G (pool-simple step.old) e S A v (vertex v b) a untouched))

      pub edge-reaches : pool_reached Q v ≡ pool_reached P v
      unfolding reached_count
      edge-reaches = reads_same 0 reached_count v b (ap (λ R. reached_count R.graph R.plain.anchors v) edged_next
          ∙ row_kept 65535 A A (reached G A) (reached H A) v refl (λ a. edge-reached G (pool-simple step.old) e S A v (vertex v b) a untouched))
