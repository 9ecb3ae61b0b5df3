-- Candidates: the ends of upstair walks; every follower is one (theorem 4.14 of source document 000). Assumes nothing.
use Prim.Native.Nat.{ℕ, zero, suc, ◌≤◌, ◌<◌}
use mathlib.Core.Path.{◌≡◌, refl, sym, ap, subst}
use mathlib.Core.Logic.{◌↔◌}
use mathlib.Core.Bool.{Bool, true, false, not, cond, ◌&&◌}
use mathlib.Core.List.{List}
use lib.Dec.{T, eqb, ltb, leb→le, le→leb, T_not, not_T, eqb→eq, eqb_refl}
use native.Mathlib.Omega.{arith}
use Rattle.finite.specs.Count.{In, count, below}
use Rattle.finite.specs.Search.{member}
use Rattle.finite.specs.Sets.{has, having, rounds, grow}
use Rattle.finite.specs.Pairs.{pair_le}
use Rattle.finite.proofs.Tests.{and_i, and_l, and_r, or_l, or_r, or-e, split, true_of, same, eqb_of}
use Rattle.finite.proofs.Count.{count_cong, count_witness, in_below}
use Rattle.finite.proofs.Search.{any_i, any-e, member_i}
use Rattle.finite.proofs.Sets.{rounds-suc, having_i, having-e, having-lt, length-having, grow_i, grow-e, grow_keeps, grow-rest}
use Rattle.finite.proofs.Pairs.{strong, pair_no, pair-e, pair_lt, pair_eq}
use Rattle.anchored.specs.Graph.{Graph, Simple}
use Rattle.anchored.specs.Core.{core, level, layer, greater}
use Rattle.anchored.specs.Component.{Joined, stay, hop}
use Rattle.anchored.specs.Sheet.{at_least}
use Rattle.anchored.specs.Followers.{adding, follows, first_step, Walk, start, step, onward, candidates, reached, mark}
use Rattle.anchored.proofs.Core.{core_solid, level-max, in_core}
use Rattle.anchored.proofs.Sheet.{defined_local}
use Rattle.anchored.proofs.Anchor.{free_of, free-adding, level_by_one}

module _ (G : Graph) (L : Simple G) (A : ℕ → Bool) (x : ℕ) where
  abbrev lev : ℕ → ℕ
  lev = level G A

  abbrev lay : ℕ → ℕ
  lay = layer G A

  pub walk_free : {v : ℕ} → Walk G A x v → T (not (A v))
  unfolding first_step
  walk_free (start {v} b t) = and_l (not (A v)) _ (and_l (not (A v) && member v (G.neighbors x)) _ t)
  walk_free (step w b a i e h) = a

  pub walk_lt : {v : ℕ} → Walk G A x v → v < G.size
  walk_lt (start b t) = b
  walk_lt (step w b a i e h) = b

  candidates-rest : grow G.size (onward G A) (candidates G A x) ≡ candidates G A x
  unfolding candidates
  candidates-rest = grow-rest G.size (onward G A) G.size _ (length-having _ G.size) (omega arith)

  pub walk_candidate : (v : ℕ) → Walk G A x v → T (has (candidates G A x) v)
  unfolding candidates onward
  walk_candidate v (start b t) = grow_keeps G.size (onward G A) G.size _ v b (having_i _ G.size v b t)
  walk_candidate v (step {w = w} k b a i e h) =
      let C = candidates G A x in
      subst (λ s. T (has s v)) candidates-rest (grow_i G.size (onward G A) C v b (or_r (has C v) _ (and_i (not (A v)) _ a
      (any_i (λ u. has C u && eqb (lev u) (lev v) && ltb (lay u) (lay v)) (G.neighbors v) w i
      (and_i (has C w && eqb (lev w) (lev v)) _ (and_i (has C w) _ (walk_candidate w k) (eqb_of (lev w) (lev v) e)) (le→leb (suc (lay w)) (lay v) h))))))

  after : ℕ → List Bool
  after m = rounds (grow G.size (onward G A)) m (having (first_step G A x) G.size)

  after_walk : (m v : ℕ) → T (has (after m) v) → Walk G A x v
  unfolding after rounds onward
  after_walk zero v h = start (having-lt _ G.size v h) (having-e _ G.size v h)
  after_walk (suc m) v h =
      let g : T (has (grow G.size (onward G A) (after m)) v) = rw rounds-suc at h in
      let d = grow-e G.size (onward G A) (after m) v g in
      or-e (has (after m) v) _ d.1 (after_walk m v) (λ t.
      let r = any-e (λ u. has (after m) u && eqb (lev u) (lev v) && ltb (lay u) (lay v)) (G.neighbors v) (and_r (not (A v)) _ t) in
      let w = r.0 in
      let p = and_l (has (after m) w && eqb (lev w) (lev v)) _ r.2 in
      step (after_walk m w (and_l (has (after m) w) _ p)) d.0 (and_l (not (A v)) _ t) r.1 (eqb→eq (lev w) (lev v) (and_r (has (after m) w) _ p))
      (leb→le (suc (lay w)) (lay v) (and_r (has (after m) w && eqb (lev w) (lev v)) _ r.2)))

  pub candidate_walk : (v : ℕ) → T (has (candidates G A x) v) → Walk G A x v
  unfolding candidates after
  candidate_walk v h = after_walk G.size v h

  -- the candidates are exactly the ends of upstair walks
  pub candidate_iff : (v : ℕ) → T (has (candidates G A x) v) ↔ Walk G A x v
  candidate_iff v = (candidate_walk v, walk_candidate v)

  -- marks that hold every first step, are closed under further steps, and are ends of walks, are the candidates: any order of search will do
  pub candidates_unique : (M : ℕ → Bool) → ((v : ℕ) → T (M v) → Walk G A x v) → ((v : ℕ) → v < G.size → T (first_step G A x v) → T (M v))
      → ((w v : ℕ) → T (M w) → v < G.size → T (not (A v)) → In w (G.neighbors v) → lev w ≡ lev v → lay w < lay v → T (M v))
      → (v : ℕ) → M v ≡ has (candidates G A x) v
  candidates_unique M f g c v = same (M v) (has (candidates G A x) v) (λ h. walk_candidate v (f v h)) (λ h. go v (candidate_walk v h))
    where
      go : (w : ℕ) → Walk G A x w → T (M w)
      go w (start b t) = g w b t
      go w (step {w = z} k b a i e h) = c z w (go z k) b a i e h

  -- ---- every follower is a candidate: by induction on its layer

  Reaches : ℕ → Type 0
  Reaches l = (v : ℕ) → v < G.size → lay v ≡ l → T (follows G A x v) → Walk G A x v

  reaches : (l : ℕ) → ((j : ℕ) → j < l → Reaches j) → Reaches l
  unfolding Reaches follows first_step greater
  reaches l ih v b d h =
      let a' = and_l (not (adding A x v)) (ltb (level G A v) (level G (adding A x) v)) h in
      let a = free_of A x v a' in
      let rise : level G A v < level G (adding A x) v = leb→le (suc (level G A v)) (level G (adding A x) v) (and_r (not (adding A x v)) _ h) in
      let C = has (core G (adding A x) (suc (level G A v))) in
      let many = core_solid G L (adding A x) (suc (level G A v)) v b (in_core G L (adding A x) v (suc (level G A v)) b a' rise) a' in
      let few = ((defined_local G L A).free v b a).few in
      let r = count_witness C (at_least A lev lay (lev v) (lay v)) (G.neighbors v) (omega arith) in
      let p = r.0 in
      let bp = L.range v p b r.1 in
      let ap = not_T (A p) (λ t. T_not (at_least A lev lay (lev v) (lay v) p) r.3 (or_l (A p) _ t)) in
      let low : T (not (pair_le (lev v) (lay v) (lev p) (lay p))) = not_T (pair_le (lev v) (lay v) (lev p) (lay p)) (λ t. T_not (at_least A lev lay (lev v) (lay v) p) r.3 (or_r (A p) _ t)) in
      split (eqb x p)
      (λ t.
      let q : x ≡ p = eqb→eq x p t in
      start b (and_i (not (A v) && member v (G.neighbors x)) _ (and_i (not (A v)) _ a (member_i v (G.neighbors x) (subst (λ z. In v (G.neighbors z)) (sym q) (L.symmetric v p b r.1))))
      (subst (λ z. T (not (pair_le (lev v) (lay v) (lev z) (lay z)))) (sym q) low)))
      (λ t.
      let ap' = free-adding A x p ap (λ q. T_not (eqb x p) t (subst (λ z. T (eqb x z)) q (eqb_refl x))) in
      let hi : suc (level G A v) ≤ level G (adding A x) p = level-max G L (adding A x) p (suc (level G A v)) ap' r.2 in
      let one = level_by_one G L A x p bp ap' in
      pair_no (lev v) (lay v) (lev p) (lay p) low
      (λ g. absurd (omega arith))
      (λ g f. step (ih (lay p) (omega arith) p bp refl (and_i (not (adding A x p)) _ ap' (le→leb (suc (level G A p)) (level G (adding A x) p) (omega arith)))) b a r.1 g f))

  pub follower_walk : (v : ℕ) → v < G.size → T (follows G A x v) → Walk G A x v
  unfolding Reaches
  follower_walk v b h = strong Reaches reaches (lay v) v b refl h

  pub follower_candidate : (v : ℕ) → v < G.size → T (follows G A x v) → T (has (candidates G A x) v)
  follower_candidate v b h = walk_candidate v (follower_walk v b h)

  -- a candidate's mark is 1 or 2, every other vertex has mark 0
  pub candidate_mark : (v : ℕ) → v < G.size → has (candidates G A x) v ≡ not (eqb (mark G A x v) 0)
  unfolding mark
  candidate_mark v b = by_case (follows G A x v) (has (candidates G A x) v) (follower_candidate v b)
    where
      by_case : (f c : Bool) → (T f → T c) → c ≡ not (eqb (cond f 2 (cond c 1 0)) 0)
      by_case true c h = true_of c (h tt)
      by_case false true h = refl
      by_case false false h = refl

  -- the reached count is that of the marks 1 and 2 together
  pub reached-marks : reached G A x ≡ count (λ v. not (eqb (mark G A x v) 0)) (below G.size)
  unfolding reached
  reached-marks = count_cong (has (candidates G A x)) _ (below G.size) (λ v i. candidate_mark v ((in_below G.size v).0 i))

  -- a candidate stands above x in the order of pairs, so x is none
  walk_greater : (v : ℕ) → Walk G A x v → T (not (pair_le (lev v) (lay v) (lev x) (lay x)))
  unfolding first_step greater
  walk_greater v (start b t) = and_r (not (A v) && _) _ t
  walk_greater v (step {w = w} k b a i e h) = not_T (pair_le (lev v) (lay v) (lev x) (lay x)) (λ t. T_not (pair_le (lev w) (lay w) (lev x) (lay x)) (walk_greater w k)
      (pair-e (lev v) (lay v) (lev x) (lay x) t (λ g. pair_lt (lev w) (lay w) (lev x) (lay x) (omega arith)) (λ g f. pair_eq (lev w) (lay w) (lev x) (lay x) (omega arith) (omega arith))))

  pub candidate_other : (v : ℕ) → T (has (candidates G A x) v) → x ≡ v → ⊥
  candidate_other v h e =
      T_not (pair_le (lev v) (lay v) (lev x) (lay x)) (walk_greater v (candidate_walk v h))
      (pair_eq (lev v) (lay v) (lev x) (lay x) (ap lev (sym e)) (subst (λ z. lay v ≤ lay z) (sym e) (omega arith)))

  pub candidate_free : (v : ℕ) → T (has (candidates G A x) v) → T (not (adding A x v))
  candidate_free v h = free-adding A x v (walk_free (candidate_walk v h)) (candidate_other v h)

  pub candidate_lt : (v : ℕ) → T (has (candidates G A x) v) → v < G.size
  candidate_lt v h = walk_lt (candidate_walk v h)

  -- ---- a walk enters the component of its end by its first step

  pub walk_enters : (v : ℕ) → Walk G A x v → (f : ℕ) × (f < G.size) × T (first_step G A x f) × Joined G A f v
  walk_enters v (start b t) = (v, b, t, stay refl)
  walk_enters v (step {w = w} k b a i e h) = let r = walk_enters w k in (r.0, r.1, r.2, hop r.3 b a i e)
