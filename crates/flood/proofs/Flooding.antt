-- Floods from each vertex without a label, in ascending order, label every vertex with its component's number. Assumes nothing.
use mathlib.Core.Path.{◌≡◌, refl, sym, ap, ◌∙◌, subst}
use mathlib.Core.Logic.{⊎_elim}
use mathlib.Core.Bool.{Bool, not}
use mathlib.Core.List.{List, [], ◌∷◌, ◌++◌}
use Prim.Native.Nat.{ℕ, ◌+◌, ◌≤◌, ◌<◌}
use native.Mathlib.Nat.{eq-or-lt_of_le}
use native.Mathlib.Omega.{arith}
use lib.ListN.{length, get_or, set, length-set}
use lib.Seq.{get_or-set_same, get_or-set_other}
use lib.Dec.{T, eqb, leb, T_not, not_T, eqb→eq, leb→le, nleb→lt}
use Rattle.finite.specs.Count.{In, count, below}
use Rattle.finite.proofs.Tests.{not-not, split, true_of, false_of, eqb_of, neqb}
use Rattle.finite.proofs.Count.{in_append, in_below, length-below, count-all, count-some}
use Rattle.finite.proofs.Search.{count_less}
use Rattle.table.specs.Table.{vertices, neighbors}
use Rattle.anchored.specs.Graph.{Graph, Simple}
use Rattle.anchored.specs.Core.{level}
use Rattle.anchored.specs.Component.{Joined, stay, hop, component}
use Rattle.anchored.proofs.Core.{level-anchored, level-lt}
use Rattle.anchored.proofs.Component.{joined-level, joined_trans, component_unique}
use Rattle.pool.specs.Input.{graph_of, anchored_by}
use Rattle.pool.specs.Arrays.{Holds}
use Rattle.flood.specs.Flooding.{blank, Beside, Labeled, Queued, Flooding, Visiting, Pends, Floods, Visit, Visits}
use Rattle.pool.proofs.Laws.{simple}

-- ---- labels

-- what is below 65,535 is a label
label-below : (labels : List ℕ) (v : ℕ) → get_or labels v 0 < 65535 → T (not (blank labels v))
label-below labels v h = not_T (blank labels v) (λ t. absurd (omega (arith, eqb→eq (get_or labels v 0) 65535 t)))

label_same : (labels labels₁ : List ℕ) (v w : ℕ) → get_or labels v 0 ≡ get_or labels₁ w 0 → T (not (blank labels₁ w)) → T (not (blank labels v))
label_same labels labels₁ v w e t = subst (λ x. T (not (eqb x 65535))) (sym e) t

-- labels stay when a vertex without one gets it
label-stays : (labels : List ℕ) (w x v : ℕ) → T (blank labels w) → T (not (blank labels v)) → get_or (set labels w x) v 0 ≡ get_or labels v 0
label-stays labels w x v t s = get_or-set_other labels w v x 0 (λ e. T_not (blank labels v) s (subst (λ z. T (blank labels z)) (sym e) t))

module _ {G : Graph} {A : ℕ → Bool} where
  -- a vertex without a label leaves room in the queue
  pub room : {next : ℕ} {labels queue : List ℕ} {tail : ℕ} → Queued G A next labels queue tail → (w : ℕ) → w < G.size → T (blank labels w) → tail < G.size
  room {labels = labels} q w b t = omega (arith, q.total, count-some (blank labels) (below G.size) w ((in_below G.size w).1 b) t)

  -- ---- w gets the label `start` and goes to the end of the queue

  module _ (small : G.size ≤ 1024) {next : ℕ} {labels queue : List ℕ} {tail : ℕ} (q : Queued G A next labels queue tail) (w start : ℕ) (vertex : w < G.size)
      (none : T (blank labels w)) (low : start ≤ w) where
    abbrev labels' : List ℕ
    labels' = set labels w start

    abbrev queue' : List ℕ
    queue' = set queue tail w

    own-label : get_or labels' w 0 ≡ start
    own-label = get_or-set_same labels w start 0 (omega (arith, q.long))

    own-there : T (not (blank labels' w))
    own-there = label-below labels' w (omega (arith, own-label))

    last : get_or queue' tail 0 ≡ w
    last = get_or-set_same queue tail w 0 (omega (arith, room q w vertex none, q.wide))

    earlier : (i : ℕ) → i < tail → get_or queue' i 0 ≡ get_or queue i 0
    earlier i h = get_or-set_other queue tail i w 0 (λ e. absurd (omega arith))

    still : (v : ℕ) → T (not (blank labels v)) → T (not (blank labels' v))
    still v s = label_same labels' labels v v (label-stays labels w start v none s) s

    held_more : (i : ℕ) → i < tail + 1 → (get_or queue' i 0 < G.size) × T (not (blank labels' (get_or queue' i 0)))
    held_more i h = ⊎_elim
        (λ e. subst (λ v. (v < G.size) × T (not (blank labels' v))) (sym (ap (λ k. get_or queue' k 0) e ∙ last)) (vertex, own-there))
        (λ lt. subst (λ v. (v < G.size) × T (not (blank labels' v))) (sym (earlier i lt)) ((q.held i lt).0, still (get_or queue i 0) (q.held i lt).1))
        (eq-or-lt_of_le (let l : i ≤ tail = omega arith in l))

    labeled-more : T (not (A w)) → Joined G A w start → (v : ℕ) → v < G.size → T (not (blank labels' v)) → Labeled G A labels' queue' (tail + 1) v
    labeled-more free joined v b s = split (eqb v w)
        (λ t. subst (Labeled G A labels' queue' (tail + 1)) (sym (eqb→eq v w t)) record {
          free = free;
          joined = subst (Joined G A w) (sym own-label) joined;
          lowest = omega (arith, own-label);
          place = (tail, omega arith, last);
        })
        (λ t.
        let e = get_or-set_other labels w v start 0 (neqb v w t) in
        let r = q.labeled v b (label_same labels labels' v v (sym e) s) in
        record {
          free = r.free;
          joined = subst (Joined G A v) (sym e) r.joined;
          lowest = omega (arith, r.lowest);
          place = (r.place.0, omega (arith, r.place.1), earlier r.place.0 r.place.1 ∙ r.place.2);
        })

    total-more : tail + 1 + count (blank labels') (below G.size) ≡ G.size
    total-more = omega (
      arith,
      q.total,
      count_less (blank labels) (blank labels') w G.size vertex none own-there
          (λ v ne. ap (λ x. eqb x 65535) (sym (get_or-set_other labels w v start 0 ne))),
    )

    enter : (after : ℕ) → T (not (A w)) → Joined G A w start → ((v : ℕ) → v < after → T (not (A v)) → (v ≡ w → ⊥) → T (not (blank labels v)))
        → Queued G A after labels' queue' (tail + 1)
    enter after free joined before = record {
      long = simp length-set q.long;
      wide = simp length-set q.wide;
      held = held_more;
      labeled = labeled-more free joined;
      passed = λ v h a. split (eqb v w)
          (λ t. subst (λ z. T (not (blank labels' z))) (sym (eqb→eq v w t)) own-there)
          (λ t. still v (before v h a (neqb v w t)));
      total = total-more;
    }

  -- ---- the floods

  -- before the first flood no vertex has a label
  pub begin : (labels queue : List ℕ) → G.size ≤ length labels → G.size ≤ length queue → ((v : ℕ) → v < G.size → get_or labels v 0 ≡ 65535) → Flooding G A 0 0 labels queue 0
  begin labels queue long wide e = record {
    queued = record {
      long = long;
      wide = wide;
      held = λ i h. absurd (omega arith);
      labeled = λ v b s. absurd (neqb (get_or labels v 0) 65535 s (e v b));
      passed = λ v h a. absurd (omega arith);
      total = omega (arith, count-all (blank labels) (below G.size) (λ v i. eqb_of (get_or labels v 0) 65535 (e v ((in_below G.size v).0 i))), length-below G.size);
    };
    within = omega arith;
    closed = λ i h. absurd (omega arith);
    waiting = λ i g h. absurd (omega arith);
  }

  module _ {start : ℕ} {labels queue : List ℕ} {tail : ℕ} (f : Flooding G A start tail labels queue tail) where
    -- a vertex that is anchored or labeled starts no flood
    pub pass : (T (not (A start)) → T (not (blank labels start))) → Flooding G A (start + 1) tail labels queue tail
    pass reason = record {
      queued = record {
        long = f.queued.long;
        wide = f.queued.wide;
        held = f.queued.held;
        labeled = f.queued.labeled;
        passed = λ v h a. ⊎_elim
            (λ e. subst (λ z. T (not (blank labels z))) (sym e) (reason (subst (λ z. T (not (A z))) e a)))
            (λ lt. f.queued.passed v lt a)
            (eq-or-lt_of_le (let l : v ≤ start = omega arith in l));
        total = f.queued.total;
      };
      within = omega arith;
      closed = f.closed;
      waiting = λ i g h. absurd (omega arith);
    }

    -- any other starts one: it gets its own number and is the only one that waits
    pub seed : G.size ≤ 1024 → start < G.size → T (not (A start)) → T (blank labels start) → Flooding G A (start + 1) tail (set labels start start) (set queue tail start) (tail + 1)
    seed small b a t =
        let q = f.queued in
        let low : start ≤ start = omega arith in
        record {
          queued = enter small q start start b t low (start + 1) a (stay refl) (λ v h free other. q.passed v (omega arith) free);
          within = omega arith;
          closed = λ i h w beside.
              let u = get_or queue i 0 in
              let e = earlier small q start start b t low i h in
              let c = f.closed i h w (subst (λ z. Beside G A z w) e beside) in
              let s = (q.held i h).1 in
              label-stays labels start start w t (label_same labels labels w u c s) ∙ c
              ∙ sym (ap (λ z. get_or (set labels start start) z 0) e ∙ label-stays labels start start u t s);
          waiting = λ i g h.
              let e : i ≡ tail = omega arith in
              let p : get_or (set queue tail start) i 0 ≡ start = ap (λ k. get_or (set queue tail start) k 0) e ∙ last small q start start b t low in
              ap (λ x. x + 1) (ap (λ z. get_or (set labels start start) z 0) p ∙ own-label small q start start b t low);
        }

  -- when all vertices were starts, the labels are the component numbers
  pub finish : Simple G → {labels queue : List ℕ} {tail : ℕ} → Flooding G A G.size tail labels queue tail → Holds labels G.size (component G A)
  unfolding component
  finish simple {labels = labels} f v b = split (A v)
      (λ t. rw (true_of (A v) t) (split (blank labels v) (eqb→eq (get_or labels v 0) 65535) (λ s. absurd (T_not (A v) (f.queued.labeled v b s).free t))))
      (λ t. component_unique G simple A (λ u. get_or labels u 0)
      (λ u h a. let r = f.queued.labeled u h (f.queued.passed u h a) in (r.joined, r.lowest))
      (λ u w h a i free e.
      let p = (f.queued.labeled u h (f.queued.passed u h a)).place in
      subst (λ z. get_or labels w 0 ≡ get_or labels z 0) p.2 (f.closed p.0 p.1 w (subst (λ z. Beside G A z w) (sym p.2) (i, free, e))))
      v b t)

  -- ---- a visit

  module _ {start u : ℕ} {seen labels₀ queue₀ : List ℕ} {tail₀ : ℕ} {labels queue : List ℕ} {tail : ℕ} (g : Visiting G A start u seen labels₀ queue₀ tail₀ labels queue tail) (w : ℕ) where
    -- a neighbor that is to get no label is anchored, of another level, or has one
    pub visit_pass : (T (not (A w)) → level G A w ≡ level G A u → T (not (blank labels w)))
        → Visiting G A start u (seen ++ w ∷ []) labels₀ queue₀ tail₀ labels queue tail
    visit_pass reason = record {
      queued = g.queued;
      grown = g.grown;
      kept = g.kept;
      order = g.order;
      added = g.added;
      reached = λ v i a e. ⊎_elim
          (λ j. g.reached v j a e)
          (⊎_elim (λ q. subst (λ z. T (not (blank labels z))) (sym q) (reason (subst (λ z. T (not (A z))) q a) (sym (ap (level G A) q) ∙ e))) (λ j. absurd j))
          ((in_append seen (w ∷ []) v).0 i);
    }

    -- any other gets the label: it is not below the start, since all below have one
    pub visit-label : Simple G → G.size ≤ 1024 → start < G.size → u < G.size → get_or labels₀ u 0 ≡ start → Beside G A u w → T (blank labels w)
        → Visiting G A start u (seen ++ w ∷ []) labels₀ queue₀ tail₀ (set labels w start) (set queue tail w) (tail + 1)
    visit-label simple small b bu e beside t =
        let q = g.queued in
        let bw = simple.range u w bu beside.0 in
        let there = label-below labels₀ u (omega arith) in
        let own : get_or labels u 0 ≡ start = g.kept u there ∙ e in
        let r = q.labeled u bu (label_same labels labels₀ u u (g.kept u there) there) in
        let joined = joined_trans G simple A w u start (hop (stay refl) bu r.free beside.0 beside.2) (subst (Joined G A u) own r.joined) in
        let low = split (leb start w) (leb→le start w) (λ h. absurd (T_not (blank labels w) (q.passed w (omega (arith, nleb→lt start w h)) beside.1) t)) in
        record {
          queued = enter small q w start bw t low (start + 1) beside.1 joined (λ v h a other. q.passed v h a);
          grown = omega (arith, g.grown);
          kept = λ v s. label-stays labels w start v t (label_same labels labels₀ v v (g.kept v s) s) ∙ g.kept v s;
          order = λ i h. earlier small q w start bw t low i (omega (arith, g.grown)) ∙ g.order i h;
          added = λ i k h. ⊎_elim
              (λ d. ap (λ z. get_or (set labels w start) z 0) (ap (λ j. get_or (set queue tail w) j 0) d ∙ last small q w start bw t low) ∙ own-label small q w start bw t low)
              (λ lt. ap (λ z. get_or (set labels w start) z 0) (earlier small q w start bw t low i lt) ∙ label-stays labels w start (get_or queue i 0) t (q.held i lt).1 ∙ g.added i k lt)
              (eq-or-lt_of_le (let l : i ≤ tail = omega arith in l));
          reached = λ v i a d. ⊎_elim
              (λ j. still small q w start bw t low v (g.reached v j a d))
              (⊎_elim (λ p. subst (λ z. T (not (blank (set labels w start) z))) (sym p) (own-there small q w start bw t low)) (λ j. absurd j))
              ((in_append seen (w ∷ []) v).0 i);
        }

  -- ---- the end of a visit

  module _ (simple : Simple G) {start head : ℕ} {labels queue : List ℕ} {tail : ℕ} (f : Flooding G A (start + 1) head labels queue tail) (some : head < tail)
      {labels₁ queue₁ : List ℕ} {tail₁ : ℕ} (g : Visiting G A start (get_or queue head 0) (G.neighbors (get_or queue head 0)) labels queue tail labels₁ queue₁ tail₁) where
    abbrev visited : ℕ
    visited = get_or queue head 0

    visited-label : get_or labels visited 0 ≡ start
    visited-label = omega (arith, f.waiting head (omega arith) some)

    same-label : (i : ℕ) → i < tail → get_or labels₁ (get_or queue₁ i 0) 0 ≡ get_or labels (get_or queue i 0) 0
    same-label i h = ap (λ z. get_or labels₁ z 0) (g.order i h) ∙ g.kept (get_or queue i 0) (f.queued.held i h).1

    -- all beside the vertex visited have its label: w was closed already, waited, or was labeled in the visit
    visited-closed : (w : ℕ) → Beside G A visited w → get_or labels₁ w 0 ≡ start
    visited-closed w beside =
        let bu = (f.queued.held head some).0 in
        let r = g.queued.labeled w (simple.range visited w bu beside.0) (g.reached w beside.0 beside.1 beside.2) in
        let k = r.place.0 in
        let own : get_or labels₁ (get_or queue₁ k 0) 0 ≡ get_or labels₁ w 0 = ap (λ z. get_or labels₁ z 0) r.place.2 in
        split (leb tail k)
        (λ t. sym own ∙ g.added k (leb→le tail k t) r.place.1)
        (λ t.
        let h = nleb→lt tail k t in
        let e : get_or queue k 0 ≡ w = sym (g.order k h) ∙ r.place.2 in
        split (leb head k)
        (λ s. omega (arith, same-label k h, f.waiting k (leb→le head k s) h))
        (λ s.
        let free = (f.queued.labeled visited bu (f.queued.held head some).1).free in
        let back : Beside G A (get_or queue k 0) visited = subst (λ z. Beside G A z visited) (sym e) (simple.symmetric visited w bu beside.0, free, sym beside.2) in
        omega (arith, same-label k h, f.closed k (nleb→lt head k s) visited back, visited-label)))

    -- a visit of the first that waits closes it
    pub advance : Flooding G A (start + 1) (head + 1) labels₁ queue₁ tail₁
    advance = record {
      queued = g.queued;
      within = omega (arith, g.grown);
      closed = λ i h w beside. ⊎_elim
          (λ e.
          let q : get_or queue₁ i 0 ≡ visited = ap (λ k. get_or queue₁ k 0) e ∙ g.order head some in
          visited-closed w (subst (λ z. Beside G A z w) q beside) ∙ sym (ap (λ k. get_or labels₁ (get_or queue₁ k 0) 0) e ∙ same-label head some ∙ visited-label))
          (λ lt.
          let l : i < tail = omega arith in
          let c = f.closed i lt w (subst (λ z. Beside G A z w) (g.order i l) beside) in
          g.kept w (label_same labels labels w (get_or queue i 0) c (f.queued.held i l).1) ∙ c ∙ sym (same-label i l))
          (eq-or-lt_of_le (let l : i ≤ head = omega arith in l));
      waiting = λ i h k. split (leb tail i)
          (λ t. omega (arith, g.added i (leb→le tail i t) k))
          (λ t. let l = nleb→lt tail i t in omega (arith, same-label i l, f.waiting i (omega arith) l));
    }

-- ---- who joins

module _ {G : Graph} {A : ℕ → Bool} {pending labels : List ℕ} (o : Pends G A pending labels) where
  -- a vertex without a label has its level there
  pends-level : (v : ℕ) → v < G.size → T (blank labels v) → get_or pending v 0 ≡ level G A v
  pends-level v b t = o.levels v b ∙ rw (true_of (blank labels v) t)

  -- one that has a level there has no label
  pends-none : (v : ℕ) → v < G.size → get_or pending v 0 < 65535 → T (blank labels v)
  pends-none v b h = not-not (blank labels v) (not_T (not (blank labels v)) (λ t.
      let other : get_or pending v 0 ≡ 65535 = o.levels v b ∙ rw (false_of (blank labels v) t) in
      absurd (omega arith)))

  -- a label is given
  pends-set : (w x : ℕ) → w < G.size → G.size ≤ length labels → x < 65535 → Pends G A (set pending w 65535) (set labels w x)
  pends-set w x b long low = record {
    extent = simp length-set o.extent;
    levels = λ v h. split (eqb v w)
        (λ t.
        let e = eqb→eq v w t in
        let label = get_or-set_same labels w x 0 (omega arith) in
        rw (e, false_of (blank (set labels w x) w) (label-below (set labels w x) w (omega arith))) (get_or-set_same pending w 65535 0 (omega (arith, o.extent))))
        (λ t.
        let apart = neqb v w t in
        rw (get_or-set_other labels w v x 0 apart) (get_or-set_other pending w v 65535 0 apart ∙ o.levels v h));
  }

-- no vertex has a label
pub pends_begin : {G : Graph} {A : ℕ → Bool} (pending labels : List ℕ) → G.size ≤ length pending → Holds pending G.size (level G A) → Holds labels G.size (λ v. 65535) → Pends G A pending labels
pends_begin pending labels extent levels none = record {
  extent = extent;
  levels = λ v b. rw (true_of (blank labels v) (eqb_of (get_or labels v 0) 65535 (none v b))) (levels v b);
}

-- ---- a visit over the arrays

module _ {s l a pending₀ labels₀ queue₀ pending labels queue seen : List ℕ} {k start u tail₀ tail : ℕ} (P : Visit s l a pending₀ labels₀ queue₀ k start u tail₀)
    (g : Visiting (graph_of s l) (anchored_by a) start u seen labels₀ queue₀ tail₀ labels queue tail) (o : Pends (graph_of s l) (anchored_by a) pending labels)
    (w : ℕ) (listed : In w (neighbors s l u))
  where
    abbrev G : Graph
    G = graph_of s l

    abbrev A : ℕ → Bool
    A = anchored_by a

    pub visit-bounds : (w < vertices s) × (vertices s ≤ 1024) × (start < vertices s)
    visit-bounds = (P.admitted.table.range u w P.vertex listed, P.admitted.table.small, P.below)

    -- k is a level: u is not anchored
    k-low : k < 65535
    k-low =
        let free = (P.queued.labeled u P.vertex (label-below labels₀ u (omega (arith, P.label, visit-bounds)))).free in
        omega (arith, level-lt G (simple P.admitted.table) A u P.vertex free, P.height, visit-bounds)

    -- a neighbor that has a level there has no label, and a place in the queue
    joins-blank : get_or pending w 0 ≤ k → T (blank labels w)
    joins-blank h = pends-none o w visit-bounds.0 (omega (arith, k-low))

    pub visit-room : get_or pending w 0 ≤ k → tail < vertices s
    visit-room h = room g.queued w visit-bounds.0 (joins-blank h)

    -- one that has k there is beside u
    joins_yes : get_or pending w 0 ≡ k → Beside G A u w
    joins_yes e =
        let same : level G A w ≡ k = sym (pends-level o w visit-bounds.0 (joins-blank (omega arith))) ∙ e in
        let free = not_T (A w) (λ t. absurd (omega (arith, level-anchored G (simple P.admitted.table) A w t, k-low))) in
        (listed, free, same ∙ sym P.height)

    -- one that is beside u and has something else there has a label
    joins_no : (get_or pending w 0 ≡ k → ⊥) → T (not (A w)) → level G A w ≡ level G A u → T (not (blank labels w))
    joins_no other free same = not_T (blank labels w) (λ t. absurd (other (pends-level o w visit-bounds.0 t ∙ same ∙ P.height)))

module _ {s l pending₀ labels₀ queue₀ pending labels queue seen : List ℕ} {k start u tail₀ tail : ℕ} (N : Visits s l pending₀ labels₀ queue₀ k start u tail₀ seen pending labels queue tail)
    (w : ℕ) (listed : In w (neighbors s l u))
  where
    -- one more neighbor is seen
    pub visits_pass : (get_or pending w 0 ≡ k → ⊥) → Visits s l pending₀ labels₀ queue₀ k start u tail₀ (seen ++ w ∷ []) pending labels queue tail
    visits_pass other = record { moves = λ a P. let m = N.moves a P in (visit_pass m.0 w (joins_no P m.0 m.1 w listed other), m.1) }

    pub visits_label : get_or pending w 0 ≡ k
        → Visits s l pending₀ labels₀ queue₀ k start u tail₀ (seen ++ w ∷ []) (set pending w 65535) (set labels w start) (set queue tail w) (tail + 1)
    visits_label e = record {
      moves = λ a P.
          let m = N.moves a P in
          let table = P.admitted.table in
          let b = visit-bounds P m.0 m.1 w listed in
          let none = joins-blank P m.0 m.1 w listed (omega arith) in
          (visit-label m.0 w (simple table) table.small P.below P.vertex P.label (joins_yes P m.0 m.1 w listed e) none, pends-set m.1 w start b.0 m.0.queued.long (omega arith));
    }

-- ---- a flood over the arrays

-- in the flood from `start`, of level k, the first `head` of the queue agree with all beside them
pub record Spread (s l a pending labels queue : List ℕ) (k start head tail : ℕ) : Type 0 where
  pub floods : Floods s l a pending labels queue (start + 1) head tail
  pub vertex : start < vertices s
  pub height : level (graph_of s l) (anchored_by a) start ≡ k

-- it begins with the start
pub spread_seed : {s l a pending labels queue : List ℕ} {start tail : ℕ} → Floods s l a pending labels queue start tail tail → T (not (anchored_by a start)) → start < vertices s → T (blank labels start)
    → Spread s l a (set pending start 65535) (set labels start start) (set queue tail start) (get_or pending start 0) start tail (tail + 1)
spread_seed {start = start} f free vertex none =
    let small = f.admitted.table.small in
    record {
      floods = record {
        admitted = f.admitted;
        flooding = seed f.flooding small vertex free none;
        pends = pends-set f.pends start start vertex f.flooding.queued.long (omega arith);
      };
      vertex = vertex;
      height = sym (pends-level f.pends start vertex none);
    }

module _ {s l a pending labels queue : List ℕ} {k start head tail : ℕ} (F : Spread s l a pending labels queue k start head tail) (some : head < tail) where
  abbrev first : ℕ
  first = get_or queue head 0

  -- the first that waits is to be visited: its level is that of the start
  pub spread_visit : Visit s l a pending labels queue k start first tail
  spread_visit =
      let f = F.floods in
      let q = f.flooding.queued in
      let h = q.held head some in
      let label : get_or labels first 0 ≡ start = omega (arith, f.flooding.waiting head (omega arith) some) in
      let same = joined-level (graph_of s l) (simple f.admitted.table) (anchored_by a) first start (subst (Joined (graph_of s l) (anchored_by a) first) label (q.labeled first h.0 h.1).joined) in
      record {
        admitted = f.admitted;
        queued = q;
        pends = f.pends;
        below = F.vertex;
        vertex = h.0;
        label = label;
        height = same ∙ F.height;
      }

  -- and is visited
  pub spread_next : {pending' labels' queue' : List ℕ} {tail' : ℕ} → Visits s l pending labels queue k start first tail (neighbors s l first) pending' labels' queue' tail'
      → Spread s l a pending' labels' queue' k start (head + 1) tail'
  spread_next N =
      let f = F.floods in
      let m = N.moves a spread_visit in
      record {
        floods = record { admitted = f.admitted; flooding = advance (simple f.admitted.table) f.flooding some m.0; pends = m.1 };
        vertex = F.vertex;
        height = F.height;
      }
