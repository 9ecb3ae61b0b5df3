-- The plain session: what a request leaves, sessions on a prefix, levels by marks, a session that keeps the rows it need not
-- recompute, and the order of requests. Assumes nothing.
use Prim.Native.Nat.{ℕ, zero, suc, ◌+◌, ◌≤◌, ◌<◌}
use mathlib.Core.Path.{◌≡◌, refl, sym, ap, ap₂, ◌∙◌, subst, fun_ext}
use mathlib.Core.Logic.{◌↔◌, ⊎_elim}
use mathlib.Core.Bool.{Bool, true, false, not, cond, ◌||◌, or-false, or_assoc}
use mathlib.Core.List.{List}
use lib.ListN.{length, take, get_or}
use lib.Seq.{get_or-take, take-length}
use lib.IntN.{ℤ}
use lib.Dec.{T, ltb, eqb, T_not, eqb→eq, ltb→lt, nltb→le}
use native.Mathlib.Nat.{eq-or-lt_of_le}
use native.Mathlib.Numerals.{add-one}
use native.Mathlib.Omega.{arith}
use borrow.Author.Tests.{lt-ltb, le-ltb, eq-eqb, ne_eqb}
use Rattle.finite.specs.Count.{bit, count, below}
use Rattle.finite.specs.Search.{any, member}
use Rattle.finite.specs.Sets.{has}
use Rattle.finite.proofs.Tests.{or_l, or_r, or-e, split, true_of, false_of, neqb, eqb_sym}
use Rattle.finite.proofs.Count.{bit_yes, bit_no, count_cong}
use Rattle.finite.proofs.Search.{any-more}
use Rattle.anchored.specs.Graph.{Graph, Simple}
use Rattle.anchored.specs.Core.{level, layer}
use Rattle.anchored.specs.Component.{component}
use Rattle.anchored.specs.Followers.{adding, follows, followers, follower_count, candidates, reached, reached_count, mark}
use Rattle.anchored.specs.Yield.{least, nobody, net, net_yield}
use Rattle.anchored.specs.Step.{recomputed}
use Rattle.anchored.specs.Session.{Plain, stale, status_of, row_of, turn, after}
use Rattle.anchored.proofs.Core.{level-anchored}
use Rattle.anchored.proofs.Anchor.{free_of, other_of, free-adding, level-rises, level_by_one}
use Rattle.anchored.proofs.Step.{kept-followers, kept-net, kept_reached}

-- ---- one request

module _ (G : Graph) where
  -- a request is accepted exactly when it names a vertex that is not anchored
  pub status-free : (A : ℕ → Bool) (x : ℕ) → (status_of G A x ≡ 0) ↔ ((x < G.size) × T (not (A x)))
  unfolding status_of
  status-free A x = (
    λ e. split (ltb x G.size)
        (λ t. split (A x)
        (λ a. let z : ◌≡◌ {A = ℕ} 16 0 = rw (true_of (ltb x G.size) t, true_of (A x) a) at e in absurd (omega arith))
        (λ a. (ltb→lt x G.size t, a)))
        (λ t. let z : ◌≡◌ {A = ℕ} 15 0 = rw (false_of (ltb x G.size) t) at e in absurd (omega arith)),
    λ f. rw (lt-ltb x G.size f.0, false_of (A x) f.1),
  )

  -- the two refusals
  pub status-anchored : (A : ℕ → Bool) (x : ℕ) → x < G.size → T (A x) → status_of G A x ≡ 16
  unfolding status_of
  status-anchored A x b a = rw (lt-ltb x G.size b, true_of (A x) a)

  pub status-beyond : (A : ℕ → Bool) (x : ℕ) → G.size ≤ x → status_of G A x ≡ 15
  unfolding status_of
  status-beyond A x h = rw (le-ltb x G.size h)

  module _ (S : Plain) (x : ℕ) where
    -- what a request leaves, accepted and refused
    pub turn-accepted : (position : ℕ) → status_of G S.anchors x ≡ 0
        → turn G position x S ≡ record { anchors = adding S.anchors x; stamps = λ v. cond (eqb x v || stale G S.anchors x v) position (S.stamps v) }
    unfolding turn
    turn-accepted position e = rw (eq-eqb (status_of G S.anchors x) 0 e)

    pub turn-refused : (position : ℕ) → (status_of G S.anchors x ≡ 0 → ⊥) → turn G position x S ≡ S
    unfolding turn
    turn-refused position n = rw (ne_eqb (status_of G S.anchors x) 0 n)

    -- the numbers it reports
    pub row-accepted : status_of G S.anchors x ≡ 0
        → row_of G S x ≡ record { status = 0; lifted = followers G S.anchors x; redone = count (stale G S.anchors x) (below G.size) }
    unfolding row_of
    row-accepted e = rw (eq-eqb (status_of G S.anchors x) 0 e)

    pub row-refused : (status_of G S.anchors x ≡ 0 → ⊥) → row_of G S x ≡ record { status = status_of G S.anchors x; lifted = 0; redone = 0 }
    unfolding row_of
    row-refused n = rw (ne_eqb (status_of G S.anchors x) 0 n)

-- ---- the list of requests

module _ (G : Graph) (A : ℕ → Bool) where
  -- one request more
  pub after_more : (xs : List ℕ) (i : ℕ) → after G A xs (i + 1) ≡ turn G (i + 1) (get_or xs i 0) (after G A xs i)
  unfolding after
  after_more xs i = rw add-one

  -- the session's record after any prefix is the session's on that prefix
  pub after-prefix : (xs : List ℕ) (i j : ℕ) → j ≤ i → after G A (take i xs) j ≡ after G A xs j
  unfolding after
  after-prefix xs i zero h = refl
  after-prefix xs i (suc j) h = ap₂ (turn G (suc j)) (get_or-take i xs j 0 (omega arith)) (after-prefix xs i j (omega arith))

  -- and so are the numbers it reports
  pub row-prefix : (xs : List ℕ) (i j : ℕ) → j < i → row_of G (after G A (take i xs) j) (get_or (take i xs) j 0) ≡ row_of G (after G A xs j) (get_or xs j 0)
  row-prefix xs i j h = ap₂ (row_of G) (after-prefix xs i j (omega arith)) (get_or-take i xs j 0 h)

  turn-grows : (position x : ℕ) (S : Plain) (v : ℕ) → T (S.anchors v) → T ((turn G position x S).anchors v)
  turn-grows position x S v t = split (eqb (status_of G S.anchors x) 0)
      (λ e. rw (turn-accepted G S x position (eqb→eq (status_of G S.anchors x) 0 e)) (or_l (S.anchors v) _ t))
      (λ e. rw (turn-refused G S x position (neqb (status_of G S.anchors x) 0 e)) t)

  -- the anchors never shrink
  pub after-grows : (xs : List ℕ) (i j v : ℕ) → i ≤ j → T ((after G A xs i).anchors v) → T ((after G A xs j).anchors v)
  unfolding after
  after-grows xs i zero v h t = let e : i ≡ 0 = omega arith in subst (λ z. T ((after G A xs z).anchors v)) e t
  after-grows xs i (suc j) v h t = ⊎_elim
      (λ e. subst (λ z. T ((after G A xs z).anchors v)) e t)
      (λ l. turn-grows (suc j) (get_or xs j 0) (after G A xs j) v (after-grows xs i j v (omega arith) t))
      (eq-or-lt_of_le h)

  turn-beyond : (position x : ℕ) (S : Plain) (v : ℕ) → G.size ≤ v → (turn G position x S).anchors v ≡ S.anchors v
  turn-beyond position x S v h = split (eqb (status_of G S.anchors x) 0)
      (λ e.
      let s = eqb→eq (status_of G S.anchors x) 0 e in
      let b = ((status-free G S.anchors x).0 s).0 in
      rw (turn-accepted G S x position s, ne_eqb x v (λ q. absurd (omega arith))) (or-false (S.anchors v)))
      (λ e. rw (turn-refused G S x position (neqb (status_of G S.anchors x) 0 e)))

  -- past the vertices the anchors are those of the start
  pub after-beyond : (xs : List ℕ) (i v : ℕ) → G.size ≤ v → (after G A xs i).anchors v ≡ A v
  unfolding after
  after-beyond xs zero v h = refl
  after-beyond xs (suc i) v h = turn-beyond (suc i) (get_or xs i 0) (after G A xs i) v h ∙ after-beyond xs i v h

-- ---- levels by marks

module _ (G : Graph) (A : ℕ → Bool) (x : ℕ) where
  -- mark 2 means a follower
  pub mark_two : (v : ℕ) → eqb (mark G A x v) 2 ≡ follows G A x v
  unfolding mark
  mark_two v = by_case (follows G A x v) (has (candidates G A x) v)
    where
      by_case : (a b : Bool) → eqb (cond a 2 (cond b 1 0)) 2 ≡ a
      by_case true b = refl
      by_case false true = refl
      by_case false false = refl

  -- the followers are counted by their marks
  pub followers-marks : followers G A x ≡ count (λ v. eqb (mark G A x v) 2) (below G.size)
  unfolding followers
  followers-marks = count_cong (follows G A x) (λ v. eqb (mark G A x v) 2) (below G.size) (λ v i. sym (mark_two v))

-- an accepted request reports the number of marks 2
pub lifted-marks : (G : Graph) (S : Plain) (x : ℕ) → status_of G S.anchors x ≡ 0 → (row_of G S x).lifted ≡ count (λ v. eqb (mark G S.anchors x v) 2) (below G.size)
lifted-marks G S x e = ap (λ r. r.lifted) (row-accepted G S x e) ∙ followers-marks G S.anchors x

-- with x anchored too, every other vertex has its old level, or one more if its mark is 2
pub level-lifted : (G : Graph) → Simple G → (A : ℕ → Bool) (x v : ℕ) → v < G.size → (v ≡ x → ⊥) → level G (adding A x) v ≡ level G A v + bit (eqb (mark G A x v) 2)
unfolding follows
level-lifted G L A x v b n = rw (mark_two G A x v) (split (A v)
    (λ a. let t = or_l (A v) (eqb x v) a in
    rw (true_of (adding A x v) t) (omega (arith, level-anchored G L (adding A x) v t, level-anchored G L A v a)))
    (λ a. let t = free-adding A x v a (λ e. n (sym e)) in
    let up = level-rises G L A x v b t in
    let one = level_by_one G L A x v b t in
    rw (false_of (adding A x v) t) (split (ltb (level G A v) (level G (adding A x) v))
    (λ q. omega (arith, bit_yes (ltb (level G A v) (level G (adding A x) v)) q, ltb→lt (level G A v) (level G (adding A x) v) q))
    (λ q. omega (arith, bit_no (ltb (level G A v) (level G (adding A x) v)) q, nltb→le (level G A v) (level G (adding A x) v) q)))))

-- ---- a session that keeps the rows it need not recompute

-- what it keeps: the anchors, and for each vertex its level, layer, component, the counts and the net yield of its row, and its stamp
pub record Kept : Type 0 where
  pub anchors : ℕ → Bool
  pub levels : ℕ → ℕ
  pub layers : ℕ → ℕ
  pub components : ℕ → ℕ
  pub counts : ℕ → ℕ
  pub nets : ℕ → ℤ
  pub reaches : ℕ → ℕ
  pub stamps : ℕ → ℕ

-- a number of a row: a fixed one for an anchored vertex
abbrev pub row_number : {X : Type 0} → X → (ℕ → Bool) → (ℕ → X) → ℕ → X
row_number top A number v = cond (A v) top (number v)

module _ (G : Graph) where
  -- everything as defined at the anchors of the plain session, and its stamps
  abbrev pub fresh : Plain → Kept
  fresh S = let A = S.anchors in record {
    anchors = A;
    levels = level G A;
    layers = layer G A;
    components = component G A;
    counts = follower_count G A;
    nets = net_yield G A;
    reaches = reached_count G A;
    stamps = S.stamps;
  }

  -- a number of a row after x is accepted: the fixed one for x, worked out anew where recomputed, else kept
  abbrev pub renewed : {X : Type 0} → X → (ℕ → Bool) → ℕ → (ℕ → X) → (ℕ → X) → ℕ → X
  renewed top A x anew old v = cond (eqb x v) top (cond (stale G A x v) (anew v) (old v))

  -- what request x leaves when it is accepted
  unfoldable pub keep_accepted : ℕ → ℕ → Kept → Kept
  keep_accepted position x K = let A = K.anchors in record {
    anchors = adding A x;
    levels = λ v. cond (eqb x v) 65535 (K.levels v + bit (eqb (mark G A x v) 2));
    layers = layer G (adding A x);
    components = component G (adding A x);
    counts = renewed 65535 A x (followers G (adding A x)) K.counts;
    nets = renewed least A x (net G (adding A x)) K.nets;
    reaches = renewed 65535 A x (reached G (adding A x)) K.reaches;
    stamps = λ v. cond (eqb x v || stale G A x v) position (K.stamps v);
  }

  unfoldable pub keep_turn : ℕ → ℕ → Kept → Kept
  keep_turn position x K = cond (eqb (status_of G K.anchors x) 0) (keep_accepted position x K) K

  -- the keeping session after the first i requests
  unfoldable pub keeping : (ℕ → Bool) → List ℕ → ℕ → Kept
  keeping A requests zero = fresh (after G A requests zero)
  keeping A requests (suc i) = keep_turn (suc i) (get_or requests i 0) (keeping A requests i)

-- the two hold the same: the anchors, and at every vertex each number
pub record Agrees (G : Graph) (K J : Kept) : Type 0 where
  pub anchors : K.anchors ≡ J.anchors
  pub levels : (v : ℕ) → v < G.size → K.levels v ≡ J.levels v
  pub layers : (v : ℕ) → v < G.size → K.layers v ≡ J.layers v
  pub components : (v : ℕ) → v < G.size → K.components v ≡ J.components v
  pub counts : (v : ℕ) → v < G.size → K.counts v ≡ J.counts v
  pub nets : (v : ℕ) → v < G.size → K.nets v ≡ J.nets v
  pub reaches : (v : ℕ) → v < G.size → K.reaches v ≡ J.reaches v
  pub stamps : (v : ℕ) → v < G.size → K.stamps v ≡ J.stamps v

module _ {X : Type 0} (top : X) (G : Graph) (A : ℕ → Bool) (x : ℕ) where
  -- where the rows that are not recomputed keep their number, a renewed number is the fresh one
  pub renewed-fresh : (number : (ℕ → Bool) → ℕ → X) (v : ℕ) → (T (not (adding A x v)) → T (not (stale G A x v)) → number A v ≡ number (adding A x) v)
      → renewed G top A x (number (adding A x)) (row_number top A (number A)) v ≡ row_number top (adding A x) (number (adding A x)) v
  unfolding recomputed
  renewed-fresh number v same = split (adding A x v)
      (λ t. rw (true_of (adding A x v) t) (split (eqb x v)
      (λ e. rw (true_of (eqb x v) e))
      (λ e. or-e (A v) _ t (λ a. rw (false_of (eqb x v) e, true_of (A v) a)) (λ q. absurd (T_not (eqb x v) e q)))))
      (λ t.
      let other = ne_eqb x v (other_of A x v t) in
      split (stale G A x v)
      (λ r. rw (true_of (stale G A x v) r, false_of (adding A x v) t, other))
      (λ r. rw (false_of (stale G A x v) r, false_of (adding A x v) t, other, false_of (A v) (free_of A x v t)) (same t r)))

-- the row of a free vertex that x does not make stale keeps its followers, its reached count and its net yield
module _ (G : Graph) (L : Simple G) (A : ℕ → Bool) (x v : ℕ) (b : v < G.size) (t : T (not (adding A x v))) (r : T (not (stale G A x v))) where
  pub anchor-followers : followers G A v ≡ followers G (adding A x) v
  anchor-followers = kept-followers G G L L refl A (adding A x) nobody v b (free_of A x v t) t refl r

  pub anchor-reached : reached G A v ≡ reached G (adding A x) v
  anchor-reached = kept_reached G G L L refl A (adding A x) nobody v b (free_of A x v t) t refl r

  pub anchor-net : net G A v ≡ net G (adding A x) v
  anchor-net = kept-net G G L L refl A (adding A x) nobody v b (free_of A x v t) t refl r

module _ (G : Graph) (L : Simple G) where
  lifted-fresh : (A : ℕ → Bool) (x v : ℕ) → v < G.size → cond (eqb x v) 65535 (level G A v + bit (eqb (mark G A x v) 2)) ≡ level G (adding A x) v
  lifted-fresh A x v b = split (eqb x v)
      (λ e. rw (true_of (eqb x v) e) (sym (level-anchored G L (adding A x) v (or_r (A v) _ e))))
      (λ e. rw (false_of (eqb x v) e) (sym (level-lifted G L A x v b (λ q. neqb x v e (sym q)))))

  pub accepted_agrees : (position x : ℕ) (K : Kept) (S : Plain) → Agrees G K (fresh G S) → status_of G S.anchors x ≡ 0 → Agrees G (keep_accepted G position x K) (fresh G (turn G position x S))
  unfolding keep_accepted follower_count net_yield reached_count
  accepted_agrees position x K S H e =
      let same : K.anchors ≡ S.anchors = H.anchors in
      let A = S.anchors in
      subst (λ z. Agrees G (keep_accepted G position x K) (fresh G z)) (sym (turn-accepted G S x position e)) record {
        anchors = ap (λ a. adding a x) same;
        levels = λ v b. rw (same, H.levels v b) (lifted-fresh A x v b);
        layers = λ v b. rw same;
        components = λ v b. rw same;
        counts = λ v b. rw (same, H.counts v b) (renewed-fresh 65535 G A x (followers G) v (anchor-followers G L A x v b));
        nets = λ v b. rw (same, H.nets v b) (renewed-fresh least G A x (net G) v (anchor-net G L A x v b));
        reaches = λ v b. rw (same, H.reaches v b) (renewed-fresh 65535 G A x (reached G) v (anchor-reached G L A x v b));
        stamps = λ v b. rw (same, H.stamps v b);
      }

  turn_agrees : (position x : ℕ) (K : Kept) (S : Plain) → Agrees G K (fresh G S) → Agrees G (keep_turn G position x K) (fresh G (turn G position x S))
  unfolding keep_turn
  turn_agrees position x K S H =
      let same : status_of G K.anchors x ≡ status_of G S.anchors x = ap (λ a. status_of G a x) H.anchors in
      rw same (split (eqb (status_of G S.anchors x) 0)
      (λ e. rw (true_of (eqb (status_of G S.anchors x) 0) e) (accepted_agrees position x K S H (eqb→eq (status_of G S.anchors x) 0 e)))
      (λ e. rw (false_of (eqb (status_of G S.anchors x) 0) e, turn-refused G S x position (neqb (status_of G S.anchors x) 0 e)) H))

  -- the keeping session is the plain session, with everything as defined, after every request
  pub keeping_plain : (A : ℕ → Bool) (xs : List ℕ) (i : ℕ) → Agrees G (keeping G A xs i) (fresh G (after G A xs i))
  unfolding keeping after
  keeping_plain A xs zero = record {
    anchors = refl;
    levels = λ v b. refl;
    layers = λ v b. refl;
    components = λ v b. refl;
    counts = λ v b. refl;
    nets = λ v b. refl;
    reaches = λ v b. refl;
    stamps = λ v b. refl;
  }
  keeping_plain A xs (suc i) = turn_agrees (suc i) (get_or xs i 0) (keeping G A xs i) (after G A xs i) (keeping_plain A xs i)

-- ---- the order of requests

-- every request is accepted
abbrev pub Accepted : Graph → (ℕ → Bool) → List ℕ → Type 0
Accepted G A xs = (i : ℕ) → i < length xs → status_of G (after G A xs i).anchors (get_or xs i 0) ≡ 0

-- the same level, layer, component, counts and net yield at v
pub record SameAt (G : Graph) (B C : ℕ → Bool) (v : ℕ) : Type 0 where
  pub levels : level G B v ≡ level G C v
  pub layers : layer G B v ≡ layer G C v
  pub components : component G B v ≡ component G C v
  pub counts : follower_count G B v ≡ follower_count G C v
  pub nets : net_yield G B v ≡ net_yield G C v
  pub reaches : reached G B v ≡ reached G C v

module _ (G : Graph) (A : ℕ → Bool) where
  anchors-upto : (xs : List ℕ) → Accepted G A xs → (v i : ℕ) → i ≤ length xs → (after G A xs i).anchors v ≡ (A v || member v (take i xs))
  unfolding after any
  anchors-upto xs ok v zero h = sym (or-false (A v))
  anchors-upto xs ok v (suc i) h =
      let x = get_or xs i 0 in
      ap (λ S. S.anchors v) (turn-accepted G (after G A xs i) x (suc i) (ok i (omega arith)))
      ∙ ap₂ ◌||◌ (anchors-upto xs ok v i (omega arith)) (eqb_sym x v)
      ∙ or_assoc (A v) (member v (take i xs)) (eqb v x)
      ∙ ap (λ z. A v || z) (sym (rw add-one at (any-more (eqb v) xs i (omega arith))))

  -- in the end exactly the start's anchors and the requests are anchored
  pub anchors-end : (xs : List ℕ) → Accepted G A xs → (v : ℕ) → (after G A xs (length xs)).anchors v ≡ (A v || member v xs)
  anchors-end xs ok v = anchors-upto xs ok v (length xs) (omega arith) ∙ ap (λ l. A v || member v l) (take-length xs)

  -- so the order of accepted requests does not matter to the anchors
  pub order-free : (xs ys : List ℕ) → Accepted G A xs → Accepted G A ys → ((v : ℕ) → member v xs ≡ member v ys)
      → (after G A xs (length xs)).anchors ≡ (after G A ys (length ys)).anchors
  order-free xs ys okx oky e = fun_ext (λ v. anchors-end xs okx v ∙ ap (λ z. A v || z) (e v) ∙ sym (anchors-end ys oky v))

  -- nor to any level, layer, component or count
  pub end_same : (xs ys : List ℕ) → Accepted G A xs → Accepted G A ys → ((v : ℕ) → member v xs ≡ member v ys)
      → (v : ℕ) → SameAt G (after G A xs (length xs)).anchors (after G A ys (length ys)).anchors v
  end_same xs ys okx oky e v = let q = order-free xs ys okx oky e in record {
    levels = ap (λ B. level G B v) q;
    layers = ap (λ B. layer G B v) q;
    components = ap (λ B. component G B v) q;
    counts = ap (λ B. follower_count G B v) q;
    nets = ap (λ B. net_yield G B v) q;
    reaches = ap (λ B. reached G B v) q;
  }
