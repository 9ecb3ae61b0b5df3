-- The queue of the follower search: what it reaches are the candidates. Assumes nothing.
use mathlib.Core.Path.{◌≡◌, refl, sym, ap, ◌∙◌, subst}
use mathlib.Core.Logic.{◌⊎◌, inl, inr, ⊎_elim}
use mathlib.Core.Bool.{Bool, true, false, not, cond, ◌&&◌, ◌||◌}
use mathlib.Core.List.{List, [], ◌∷◌, ◌++◌}
use Prim.Native.Nat.{ℕ, ◌+◌, ◌≤◌, ◌<◌}
use native.Mathlib.Nat.{eq-or-lt_of_le}
use native.Mathlib.Numerals.{add-one}
use native.Mathlib.Omega.{arith}
use lib.ListN.{length, take, get_or, set, replicate, length-append, length-set, length-replicate, get_or-append}
use lib.Seq.{length-take-le, take-suc, take-suc-set, take_all, get_or-take, get_or-set_same, get_or-set_other}
use lib.Dec.{T, eqb, T_not, not_T, eqb→eq}
use Rattle.finite.specs.Count.{In}
use Rattle.finite.specs.Search.{member}
use Rattle.finite.specs.Sets.{has}
use Rattle.finite.specs.Pairs.{pair_le}
use Rattle.finite.proofs.Tests.{and_i, and_l, and_r, split, true_of, of_true, false_of, of_false, eqb_of, neqb}
use Rattle.finite.proofs.Count.{zeros-at, in_at, at_in, in_append, distinct_snoc, distinct-length, distinct-other}
use Rattle.finite.proofs.Search.{member_i, member-e, member_yes, member_snoc, member-other}
use Rattle.finite.proofs.Pairs.{pair_no, pair-e}
use Rattle.table.specs.Table.{vertices, neighbors, SoundTable}
use Rattle.anchored.specs.Graph.{Graph, Simple}
use Rattle.anchored.specs.Core.{level, layer, greater}
use Rattle.anchored.specs.Followers.{first_step, Walk, start, step, candidates}
use Rattle.anchored.proofs.Candidates.{walk_lt, candidates_unique}
use Rattle.pool.specs.Input.{graph_of, anchored_by}
use Rattle.pool.specs.Arrays.{Holds}
use Rattle.pool.specs.Sheet.{Sheet}
use Rattle.candidates.specs.Reaching.{alike, greater_of, steps_of, visit, visit_all, Queued}
use Rattle.pool.proofs.Laws.{simple, free_byte, byte_free}

-- the neighbor at a place is a vertex
pub neighbor_at : {s l : List ℕ} → SoundTable s l → (u : ℕ) → u < vertices s → {part : List ℕ} → part ≡ neighbors s l u → (j : ℕ) → j < length part → get_or part j 0 < vertices s
neighbor_at table u b {part} e j h = table.range u (get_or part j 0) b (subst (In (get_or part j 0)) e (in_at part j 0 h))

-- ---- a visit

module _ (p : ℕ → Bool) where
  -- by cases: w is new and goes to the end, or all stays
  visit_by : (P : List ℕ → Type 0) (q : List ℕ) (w : ℕ) → (T (p w) → (In w q → ⊥) → P (q ++ w ∷ [])) → ((T (p w) → In w q) → P q) → P (visit p q w)
  unfolding visit
  visit_by P q w f g = go (p w && not (member w q)) refl
    where
      go : (b : Bool) → p w && not (member w q) ≡ b → P (cond b (q ++ w ∷ []) q)
      go true e = let t = of_true (p w && not (member w q)) e in f (and_l (p w) _ t) (λ i. T_not (member w q) (and_r (p w) _ t) (member_i w q i))
      go false e = g (λ t. split (member w q) (member-e w q) (λ m. absurd (T_not (p w && not (member w q)) (of_false (p w && not (member w q)) e) (and_i (p w) _ t m))))

  -- one that passes and is not there goes to the end
  visit-new : (q : List ℕ) (w : ℕ) → T (p w) → (In w q → ⊥) → visit p q w ≡ q ++ w ∷ []
  visit-new q w t n = visit_by (λ r. r ≡ q ++ w ∷ []) q w (λ s m. refl) (λ o. absurd (n (o t)))

  -- one that is there, or does not pass, changes nothing
  visit-old : (q : List ℕ) (w : ℕ) → (T (p w) → In w q) → visit p q w ≡ q
  visit-old q w o = visit_by (λ r. r ≡ q) q w (λ t n. absurd (n (o t))) (λ s. refl)

  visit_keeps : (q : List ℕ) (w v : ℕ) → In v q → In v (visit p q w)
  visit_keeps q w v i = visit_by (In v) q w (λ t n. (in_append q (w ∷ []) v).1 (inl i)) (λ o. i)

  visit-adds : (q : List ℕ) (w : ℕ) → T (p w) → In w (visit p q w)
  visit-adds q w t = visit_by (In w) q w (λ s n. (in_append q (w ∷ []) w).1 (inr (inl refl))) (λ o. o t)

  visit-from : (q : List ℕ) (w v : ℕ) → In v (visit p q w) → In v q ⊎ ((v ≡ w) × T (p w))
  visit-from q w v = visit_by (λ r. In v r → In v q ⊎ ((v ≡ w) × T (p w))) q w
      (λ t n i. ⊎_elim inl (⊎_elim (λ e. inr (e, t)) (λ j. absurd j)) ((in_append q (w ∷ []) v).0 i))
      (λ o i. inl i)

  visit_longer : (q : List ℕ) (w : ℕ) → length q ≤ length (visit p q w)
  visit_longer q w = visit_by (λ r. length q ≤ length r) q w (λ t n. omega (arith, length-append q (w ∷ []))) (λ o. omega arith)

  visit-earlier : (q : List ℕ) (w i : ℕ) → i < length q → get_or (visit p q w) i 0 ≡ get_or q i 0
  visit-earlier q w i h = visit_by (λ r. get_or r i 0 ≡ get_or q i 0) q w (λ t n. get_or-append q (w ∷ []) 0 i h) (λ o. refl)

  -- ---- a visit of each number of a list

  visit_all-append : (q l m : List ℕ) → visit_all p q (l ++ m) ≡ visit_all p (visit_all p q l) m
  unfolding visit_all
  visit_all-append q [] m = refl
  visit_all-append q (w ∷ ws) m = visit_all-append (visit p q w) ws m

  -- a loop over the list: none visited, one more visited, all visited
  pub visit_all-start : (q l : List ℕ) → visit_all p q (take 0 l) ≡ q
  unfolding visit_all
  visit_all-start q l = refl

  visit_all-more : (q l : List ℕ) (i : ℕ) → i < length l → visit_all p q (take (i + 1) l) ≡ visit p (visit_all p q (take i l)) (get_or l i 0)
  unfolding visit_all
  visit_all-more q l i h = rw (add-one, take-suc l i 0) (visit_all-append q (take i l) (get_or l i 0 ∷ []))

  pub visit_all-end : (q l : List ℕ) (i : ℕ) → length l ≤ i → visit_all p q (take i l) ≡ visit_all p q l
  visit_all-end q l i h = ap (visit_all p q) (take_all i l h)

  visit_all_keeps : (q l : List ℕ) (v : ℕ) → In v q → In v (visit_all p q l)
  unfolding visit_all
  visit_all_keeps q [] v i = i
  visit_all_keeps q (w ∷ ws) v i = visit_all_keeps (visit p q w) ws v (visit_keeps q w v i)

  visit_all-adds : (q l : List ℕ) (v : ℕ) → In v l → T (p v) → In v (visit_all p q l)
  unfolding visit_all
  visit_all-adds q [] v i t = absurd i
  visit_all-adds q (w ∷ ws) v (inl e) t = visit_all_keeps (visit p q w) ws v (subst (λ z. In z (visit p q w)) (sym e) (visit-adds q w (subst (λ z. T (p z)) e t)))
  visit_all-adds q (w ∷ ws) v (inr i) t = visit_all-adds (visit p q w) ws v i t

  visit_all-from : (q l : List ℕ) (v : ℕ) → In v (visit_all p q l) → In v q ⊎ (In v l × T (p v))
  unfolding visit_all
  visit_all-from q [] v i = inl i
  visit_all-from q (w ∷ ws) v i = ⊎_elim
      (λ j. ⊎_elim inl (λ d. inr (inl d.0, subst (λ z. T (p z)) (sym d.0) d.1)) (visit-from q w v j))
      (λ d. inr (inr d.0, d.1))
      (visit_all-from (visit p q w) ws v i)

  visit_all_longer : (q l : List ℕ) → length q ≤ length (visit_all p q l)
  unfolding visit_all
  visit_all_longer q [] = omega arith
  visit_all_longer q (w ∷ ws) = omega (arith, visit_longer q w, visit_all_longer (visit p q w) ws)

  visit_all-earlier : (q l : List ℕ) (i : ℕ) → i < length q → get_or (visit_all p q l) i 0 ≡ get_or q i 0
  unfolding visit_all
  visit_all-earlier q [] i h = refl
  visit_all-earlier q (w ∷ ws) i h = visit_all-earlier (visit p q w) ws i (omega (arith, visit_longer q w)) ∙ visit-earlier q w i h

-- ---- the queue and its marks

-- an empty queue, nothing marked
pub queue_start : (n m : ℕ) → n ≤ m → Queued n (replicate m 0) (replicate m 0) 0
unfolding Rattle.finite.specs.Search.any
queue_start n m h = record {
  long = omega (arith, length-replicate {A = ℕ} m 0);
  wide = omega (arith, length-replicate {A = ℕ} m 0);
  room = omega arith;
  distinct = tt;
  within = λ v i. absurd i;
  marked = zeros-at m;
}

module _ {n : ℕ} {marks queue : List ℕ} {tail : ℕ} (k : Queued n marks queue tail) where
  -- `tail` vertices are in it, no more than n
  pub queue_length : length (take tail queue) ≡ tail
  queue_length = length-take-le tail queue k.room

  pub queue_within : tail ≤ n
  queue_within = omega (arith, queue_length, distinct-length (take tail queue) n k.distinct k.within)

  -- what stands at its places are vertices
  pub queue_vertex : (i : ℕ) → i < tail → get_or queue i 0 < n
  queue_vertex i h = k.within (get_or queue i 0) (subst (λ v. In v (take tail queue)) (get_or-take tail queue i 0 h) (in_at (take tail queue) i 0 (omega (arith, queue_length))))

  pub queue_items : {items : List ℕ} → items ≡ take tail queue → (i : ℕ) → i < length items → get_or items i 0 < n
  queue_items {items} e i h = k.within (get_or items i 0) (subst (In (get_or items i 0)) e (in_at items i 0 h))

  -- a mark is 0 exactly at the vertices that are not in the queue
  unmarked : (w : ℕ) → get_or marks w 0 ≡ 0 → In w (take tail queue) → ⊥
  unmarked w e i =
      let m : member w (take tail queue) ≡ true = member_yes w (take tail queue) i in
      let h : get_or marks w 0 ≡ 2 = rw m at (k.marked w) in
      absurd (omega arith)

  pub marked : (w : ℕ) → (get_or marks w 0 ≡ 0 → ⊥) → In w (take tail queue)
  marked w f = split (member w (take tail queue)) (member-e w (take tail queue)) (λ t.
      let m : member w (take tail queue) ≡ false = false_of (member w (take tail queue)) t in
      absurd (f (rw m at (k.marked w))))

  -- one that is not leaves room for it
  pub queue_room : (w : ℕ) → w < n → get_or marks w 0 ≡ 0 → tail < n
  queue_room w b e = omega (arith, queue_length, distinct-other (take tail queue) n k.distinct k.within w b (unmarked w e))

  module _ (w : ℕ) (b : w < n) (e : get_or marks w 0 ≡ 0) where
    -- the queue with w at its end
    push_list : take (tail + 1) (set queue tail w) ≡ take tail queue ++ w ∷ []
    push_list = rw add-one (take-suc-set queue tail w (omega (arith, k.wide, queue_room w b e)))

    -- pushed and marked
    pub push : Queued n (set marks w 2) (set queue tail w) (tail + 1)
    push = record {
      long = omega (arith, k.long, length-set marks w 2);
      wide = omega (arith, k.wide, length-set queue tail w);
      room = omega (arith, k.wide, length-set queue tail w, queue_room w b e);
      distinct = rw push_list (distinct_snoc (take tail queue) w k.distinct (unmarked w e));
      within = λ v i. ⊎_elim (k.within v) (⊎_elim (λ q. subst (λ z. z < n) (sym q) b) (λ j. absurd j)) ((in_append (take tail queue) (w ∷ []) v).0 (rw push_list at i));
      marked = λ v. rw push_list (split (eqb v w)
          (λ t.
          let q : v ≡ w = eqb→eq v w t in
          let m : member w (take tail queue ++ w ∷ []) ≡ true = true_of (member w (take tail queue ++ w ∷ [])) (member_snoc w (take tail queue)) in
          rw (q, m) (get_or-set_same marks w 2 0 (omega (arith, k.long))))
          (λ t.
          let m : member v (take tail queue ++ w ∷ []) ≡ member v (take tail queue) = member-other v w (take tail queue) (neqb v w t) in
          rw m (get_or-set_other marks w v 2 0 (neqb v w t) ∙ k.marked v)));
    }

  -- a loop that visits a list: what stood at place i is pushed, or passed over
  module _ (p : ℕ → Bool) (q part : List ℕ) (i : ℕ) (h : i < length part) (e : take tail queue ≡ visit_all p q (take i part)) where
    abbrev here : ℕ
    here = get_or part i 0

    pub visit_push : here < n → T (p here) → get_or marks here 0 ≡ 0 → take (tail + 1) (set queue tail here) ≡ visit_all p q (take (i + 1) part)
    visit_push b t z =
        push_list here b z ∙ ap (λ r. r ++ here ∷ []) e
        ∙ sym (visit_all-more p q part i h ∙ visit-new p (visit_all p q (take i part)) here t (λ j. unmarked here z (rw (← e) at j)))

    pub visit_pass : (T (p here) → In here (take tail queue)) → take tail queue ≡ visit_all p q (take (i + 1) part)
    visit_pass o = e ∙ sym (visit_all-more p q part i h ∙ visit-old p (visit_all p q (take i part)) here (λ t. rw e at (o t)))

-- a queue that others were put to has not become shorter
pub queue_grows : {n : ℕ} {marks queue marks₁ queue₁ : List ℕ} {tail tail₁ : ℕ} → Queued n marks queue tail → Queued n marks₁ queue₁ tail₁
    → (p : ℕ → Bool) (l : List ℕ) → take tail₁ queue₁ ≡ visit_all p (take tail queue) l → tail ≤ tail₁
queue_grows {queue = queue} {tail = tail} k k₁ p l e = omega (arith, queue_length k, queue_length k₁, ap length e, visit_all_longer p (take tail queue) l)

-- ---- the candidates

-- the queue holds ends of walks and every first step, and each further step from the vertices before `head`
pub record Reaching (G : Graph) (A : ℕ → Bool) (x : ℕ) (q : List ℕ) (head : ℕ) : Type 0 where
  pub walks : (v : ℕ) → In v q → Walk G A x v
  pub firsts : (v : ℕ) → v < G.size → T (first_step G A x v) → In v q
  pub closed : (i : ℕ) → i < head → (v : ℕ) → v < G.size → T (not (A v)) → In (get_or q i 0) (G.neighbors v) → level G A (get_or q i 0) ≡ level G A v → layer G A (get_or q i 0) < layer G A v → In v q

module _ {s l a levels layers : List ℕ} (sheet : Sheet s l a levels layers) where
  -- the levels are the defined ones
  level_is : Holds levels (vertices s) (level (graph_of s l) (anchored_by a))
  level_is = sheet.leveled.hold

  abbrev G : Graph
  G = graph_of s l

  abbrev A : ℕ → Bool
  A = anchored_by a

  abbrev lev : ℕ → ℕ
  lev = level G A

  abbrev lay : ℕ → ℕ
  lay = layer G A

  greater_is : (w u : ℕ) → w < vertices s → u < vertices s → greater_of levels layers w u ≡ greater G A w u
  unfolding greater
  greater_is w u bw bu = rw (level_is w bw, level_is u bu, sheet.layers_hold w bw, sheet.layers_hold u bu)

  module _ (u w : ℕ) (bu : u < vertices s) (bw : w < vertices s) where
    -- a step is to a vertex that is not anchored, of greater pair, and of the same level unless it is the first
    pub step-e : (first : Bool) → T (steps_of a levels layers first u w) → T (not (A w)) × T (first || eqb (lev w) (lev u)) × T (greater G A w u)
    unfolding steps_of
    step-e first t =
        let b = and_l (eqb (get_or a w 0) 0 && (first || alike levels w u)) (greater_of levels layers w u) t in
        let e : T (first || alike levels w u) = and_r (eqb (get_or a w 0) 0) _ b in (
          byte_free a w (eqb→eq (get_or a w 0) 0 (and_l (eqb (get_or a w 0) 0) _ b)),
          rw (level_is w bw, level_is u bu) at e,
          subst T (greater_is w u bw bu) (and_r (eqb (get_or a w 0) 0 && (first || alike levels w u)) (greater_of levels layers w u) t),
        )

    pub step_i : (first : Bool) → T (not (A w)) → T (first || eqb (lev w) (lev u)) → T (greater G A w u) → T (steps_of a levels layers first u w)
    unfolding steps_of
    step_i first f e g = and_i (eqb (get_or a w 0) 0 && (first || alike levels w u)) _
        (and_i (eqb (get_or a w 0) 0) _ (eqb_of (get_or a w 0) 0 (free_byte sheet.leveled.admitted w bw f)) (rw (level_is w bw, level_is u bu) e))
        (subst T (sym (greater_is w u bw bu)) g)

    pub greater-layer : lev u ≡ lev w → T (greater G A w u) → lay u < lay w
    unfolding greater
    greater-layer e t = pair_no (lev w) (lay w) (lev u) (lay u) t (λ d. absurd (omega arith)) (λ d g. g)

    pub layer-greater : lev u ≡ lev w → lay u < lay w → T (greater G A w u)
    unfolding greater
    layer-greater e d = not_T (pair_le (lev w) (lay w) (lev u) (lay u)) (λ t. pair-e (lev w) (lay w) (lev u) (lay u) t (λ g. absurd (omega arith)) (λ g k. absurd (omega arith)))

  L : Simple G
  L = simple sheet.leveled.admitted.table

  module _ (x : ℕ) (bx : x < vertices s) where
    -- the neighbors of x that it steps to
    pub reach_first : Reaching G A x (visit_all (steps_of a levels layers true x) [] (neighbors s l x)) 0
    unfolding first_step
    reach_first = record {
      walks = λ v i. ⊎_elim (λ j. absurd j)
          (λ d.
          let b = L.range x v bx d.0 in
          let e = step-e x v bx b true d.1 in
          start b (and_i (not (A v) && member v (neighbors s l x)) _ (and_i (not (A v)) _ e.0 (member_i v (neighbors s l x) d.0)) e.2))
          (visit_all-from (steps_of a levels layers true x) [] (neighbors s l x) v i);
      firsts = λ v b t.
          let f = and_l (not (A v) && member v (neighbors s l x)) (greater G A v x) t in
          visit_all-adds (steps_of a levels layers true x) [] (neighbors s l x) v (member-e v (neighbors s l x) (and_r (not (A v)) _ f))
          (step_i x v bx b true (and_l (not (A v)) _ f) tt (and_r (not (A v) && member v (neighbors s l x)) (greater G A v x) t));
      closed = λ i k. absurd (omega arith);
    }

    module _ {q : List ℕ} {head : ℕ} (k : Reaching G A x q head) (some : head < length q) (u : ℕ) (e : get_or q head 0 ≡ u) where
      abbrev next : List ℕ
      next = visit_all (steps_of a levels layers false u) q (neighbors s l u)

      walk_u : Walk G A x u
      walk_u = k.walks u (subst (λ z. In z q) e (in_at q head 0 some))

      bu : u < vertices s
      bu = walk_lt G L A x walk_u

      -- the next of the queue expanded
      pub reach_next : Reaching G A x next (head + 1)
      reach_next = record {
        walks = λ v i. ⊎_elim (k.walks v)
            (λ d.
            let b = L.range u v bu d.0 in
            let t = step-e u v bu b false d.1 in
            let f = sym (eqb→eq (lev v) (lev u) t.1) in
            step walk_u b t.0 (L.symmetric u v bu d.0) f (greater-layer u v bu b f t.2))
            (visit_all-from (steps_of a levels layers false u) q (neighbors s l u) v i);
        firsts = λ v b t. visit_all_keeps (steps_of a levels layers false u) q (neighbors s l u) v (k.firsts v b t);
        closed = λ i m v b free beside same-level higher.
            let earlier : get_or next i 0 ≡ get_or q i 0 = visit_all-earlier (steps_of a levels layers false u) q (neighbors s l u) i (omega arith) in
            ⊎_elim
            (λ z.
            let is : get_or next i 0 ≡ u = earlier ∙ ap (λ y. get_or q y 0) z ∙ e in
            let f : lev u ≡ lev v = rw is at same-level in
            visit_all-adds (steps_of a levels layers false u) q (neighbors s l u) v (L.symmetric v u b (rw is at beside))
            (step_i u v bu b false free (eqb_of (lev v) (lev u) (sym f)) (layer-greater u v bu b f (rw is at higher))))
            (λ z. visit_all_keeps (steps_of a levels layers false u) q (neighbors s l u) v (k.closed i z v b free (rw earlier at beside) (rw earlier at same-level) (rw earlier at higher)))
            (eq-or-lt_of_le (let c : i ≤ head = omega arith in c));
      }

    -- all expanded: the candidates
    pub reach_end : {q : List ℕ} {head : ℕ} → Reaching G A x q head → length q ≤ head → (v : ℕ) → member v q ≡ has (candidates G A x) v
    reach_end {q} k all = candidates_unique G L A x (λ v. member v q)
        (λ v t. k.walks v (member-e v q t))
        (λ v b t. member_i v q (k.firsts v b t))
        (λ w v t b free beside same-level higher.
        let at = at_in q w 0 (member-e w q t) in
        let z : w ≡ get_or q at.0 0 = sym at.2 in
        member_i v q (k.closed at.0 (omega (arith, at.1)) v b free (subst (λ y. In y (neighbors s l v)) z beside) (subst (λ y. lev y ≡ lev v) z same-level) (subst (λ y. lay y < lay v) z higher)))
