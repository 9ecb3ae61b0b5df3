-- A vertex collapsed: no level rises and none falls by more than one; what the levels then mean. Assumes nothing.
use Prim.Native.Nat.{ℕ, zero, suc, ◌≤◌, ◌<◌, zero-le}
use mathlib.Core.Path.{◌≡◌, refl, sym, ◌∙◌, subst}
use mathlib.Core.Logic.{◌↔◌}
use mathlib.Core.Bool.{Bool, false, not, ◌&&◌, ◌||◌}
use lib.Dec.{T, eqb, T_not, not_T, eqb→eq}
use native.Mathlib.Omega.{arith}
use native.Mathlib.Nat.{le_trans}
use Rattle.finite.specs.Count.{count, In}
use Rattle.finite.specs.Sets.{has}
use Rattle.finite.proofs.Tests.{and_i, and_l, and_r, not-or, or-not, false_of, neqb}
use Rattle.finite.proofs.Count.{count_mono, count_off}
use Rattle.finite.proofs.Falling.{in_select, distinct-select, count-select}
use Rattle.anchored.specs.Graph.{Graph, Simple}
use Rattle.anchored.specs.Core.{Solid, core, level}
use Rattle.anchored.specs.Followers.{adding}
use Rattle.anchored.specs.Collapse.{collapse}
use Rattle.anchored.proofs.Core.{core-lt, core_solid, core-largest, level_in, level-max, level_means}
use Rattle.anchored.proofs.Anchor.{free_of, other_of}

module _ (G : Graph) (L : Simple G) (x : ℕ) where
  abbrev gone : Graph
  gone = collapse G x

  pub in_gone : (v w : ℕ) → In w (gone.neighbors v) ↔ (In w (G.neighbors v) × (x ≡ v → ⊥) × (x ≡ w → ⊥))
  in_gone v w = let r = in_select (λ u. not (eqb x v || eqb x u)) (G.neighbors v) w in (
    λ i. let h = r.0 i in let n = not-or (eqb x v) (eqb x w) h.1 in (h.0, neqb x v n.0, neqb x w n.1),
    λ h. r.1 (h.0, or-not (eqb x v) (eqb x w) (apart v h.1) (apart w h.2)),
  )
    where
      apart : (u : ℕ) → (x ≡ u → ⊥) → T (not (eqb x u))
      apart u f = not_T (eqb x u) (λ t. f (eqb→eq x u t))

  -- the graph stays simple
  pub collapse-simple : Simple gone
  collapse-simple = record {
    range = λ v w b i. L.range v w b ((in_gone v w).0 i).0;
    loopless = λ v b i. L.loopless v b ((in_gone v v).0 i).0;
    distinct = λ v b. distinct-select (λ w. not (eqb x v || eqb x w)) (G.neighbors v) (L.distinct v b);
    symmetric = λ v w b i. let h = (in_gone v w).0 i in (in_gone w v).1 (L.symmetric v w b h.0, h.2, h.1);
  }

  -- counted among the neighbors left: all that pass but x
  pub count-gone : (p : ℕ → Bool) (v : ℕ) → (x ≡ v → ⊥) → count p (gone.neighbors v) ≡ count (λ w. not (eqb x w) && p w) (G.neighbors v)
  count-gone p v f =
      let other : eqb x v ≡ false = false_of (eqb x v) (not_T (eqb x v) (λ t. f (eqb→eq x v t))) in
      count-select (λ w. not (eqb x v || eqb x w)) p (G.neighbors v) ∙ rw other

  -- a set without x is as solid with x collapsed as before
  abbrev others : (ℕ → Bool) → ℕ → Bool
  others S w = not (eqb x w) && S w

  other-e : (S : ℕ → Bool) (w : ℕ) → T (others S w) → (x ≡ w → ⊥) × T (S w)
  other-e S w h = (neqb x w (and_l (not (eqb x w)) _ h), and_r (not (eqb x w)) _ h)

  pub other_i : (S : ℕ → Bool) (w : ℕ) → (x ≡ w → ⊥) → T (S w) → T (others S w)
  other_i S w f h = and_i (not (eqb x w)) _ (not_T (eqb x w) (λ t. f (eqb→eq x w t))) h

  others_solid : (A B : ℕ → Bool) → ((w : ℕ) → (x ≡ w → ⊥) → A w ≡ B w) → (k : ℕ) → Solid gone B k (others (has (core gone A k)))
  others_solid A B e k w b h a =
      let o = other-e (has (core gone A k)) w h in
      le_trans (core_solid gone collapse-simple A k w b o.1 (subst (λ z. T (not z)) (sym (e w o.0)) a))
      (count_mono (has (core gone A k)) (others (has (core gone A k))) (gone.neighbors w) (λ p i. other_i (has (core gone A k)) p ((in_gone w p).0 i).2))

  module _ (A : ℕ → Bool) where
    solid_before : (k : ℕ) (S : ℕ → Bool) → Solid gone A k S → Solid G A k (others S)
    solid_before k S s w b h a = let o = other-e S w h in subst (λ z. k ≤ z) (count-gone S w o.0) (s w b o.1 a)

    solid_after : (k : ℕ) (S : ℕ → Bool) → Solid G A k S → T (not (S x)) → Solid gone A k S
    solid_after k S s none w b h a =
        let apart : x ≡ w → ⊥ = λ e. T_not (S x) none (subst (λ z. T (S z)) (sym e) h) in
        subst (λ z. k ≤ z) (sym (count-gone S w apart)) (le_trans (s w b h a) (count_mono S (others S) (G.neighbors w) (λ p i t.
        other_i S p (λ e. T_not (S x) none (subst (λ z. T (S z)) (sym e) t)) t)))

    -- the core with x collapsed lies in the core before
    pub core-before : (k v : ℕ) → T (has (core gone A k) v) → (x ≡ v → ⊥) → T (has (core G A k) v)
    core-before k v h f =
        core-largest G L A k (others (has (core gone A k))) (solid_before k (has (core gone A k)) (core_solid gone collapse-simple A k)) v
        (core-lt gone collapse-simple A k v h) (other_i (has (core gone A k)) v f h)

    -- the next core before, without x, lies in the core with x collapsed
    next_solid : (k : ℕ) → Solid gone A k (others (has (core G A (suc k))))
    next_solid k w b h a =
        let o = other-e (has (core G A (suc k))) w h in
        let c = core_solid G L A (suc k) w b o.1 a in
        let d = count_off (has (core G A (suc k))) (λ p. not (eqb x p) && others (has (core G A (suc k))) p) x (G.neighbors w) (L.distinct w b) (λ p i g t.
        let apart : x ≡ p → ⊥ = λ e. g (sym e) in other_i (others (has (core G A (suc k)))) p apart (other_i (has (core G A (suc k))) p apart t)) in
        subst (λ z. k ≤ z) (sym (count-gone (others (has (core G A (suc k)))) w o.0)) (omega arith)

    pub core-after : (k v : ℕ) → T (has (core G A (suc k)) v) → (x ≡ v → ⊥) → T (has (core gone A k) v)
    core-after k v h f = core-largest gone collapse-simple A k (others (has (core G A (suc k)))) (next_solid k) v (core-lt G L A (suc k) v h) (other_i (has (core G A (suc k))) v f h)

    -- no level rises
    pub level_sinks : (v : ℕ) → v < G.size → T (not (adding A x v)) → level gone A v ≤ level G A v
    level_sinks v b a =
        let free = free_of A x v a in
        level-max G L A v (level gone A v) free (core-before (level gone A v) v (level_in gone collapse-simple A v b free) (other_of A x v a))

    -- no fall exceeds one
    pub fall_by_one : (v : ℕ) → v < G.size → T (not (adding A x v)) → level G A v ≤ suc (level gone A v)
    fall_by_one v b a = go (level G A v) (level_in G L A v b (free_of A x v a))
      where
        go : (k : ℕ) → T (has (core G A k) v) → k ≤ suc (level gone A v)
        go zero h = zero-le
        go (suc k) h = omega (arith, level-max gone collapse-simple A v k (free_of A x v a) (core-after k v h (other_of A x v a)))

    -- what the level with x collapsed is: the largest k for which a solid set without x holds v
    pub collapse_means : (v k : ℕ) → v < G.size → T (not (adding A x v))
        → (level gone A v ≡ k) ↔ (((S : ℕ → Bool) × Solid G A k S × T (not (S x)) × T (S v)) × ((S : ℕ → Bool) → Solid G A (suc k) S → T (not (S x)) → T (S v) → ⊥))
    collapse_means v k b a =
        let free = free_of A x v a in
        let m = level_means gone collapse-simple A v k b free in
        let without : (S : ℕ → Bool) → T (not (others S x)) = λ S. not_T (others S x) (λ t. (other-e S x t).0 refl) in (
          λ e. let r = m.0 e in (
            (others r.0.0, solid_before k r.0.0 r.0.1, without r.0.0, other_i r.0.0 v (other_of A x v a) r.0.2),
            λ S s none h. r.1 S (solid_after (suc k) S s none) h,
          ),
          λ r. m.1 (
            (r.0.0, solid_after k r.0.0 r.0.1 r.0.2, r.0.3),
            λ S s h. r.1 (others S) (solid_before (suc k) S s) (without S) (other_i S v (other_of A x v a) h),
          ),
        )

    -- whether x stays anchored makes no difference
    pub collapse-anchor : (B : ℕ → Bool) → ((w : ℕ) → (x ≡ w → ⊥) → A w ≡ B w) → (v : ℕ) → v < G.size → T (not (adding A x v)) → level gone A v ≡ level gone B v
    collapse-anchor B e v b a =
        let apart = other_of A x v a in
        let free = free_of A x v a in
        let other = subst (λ z. T (not z)) (e v apart) free in
        let to : level gone A v ≤ level gone B v = level-max gone collapse-simple B v (level gone A v) other
        (core-largest gone collapse-simple B (level gone A v) (others (has (core gone A (level gone A v)))) (others_solid A B e (level gone A v)) v b (other_i (has (core gone A (level gone A v))) v apart (level_in gone collapse-simple A v b free))) in
        let from : level gone B v ≤ level gone A v = level-max gone collapse-simple A v (level gone B v) free
        (core-largest gone collapse-simple A (level gone B v) (others (has (core gone B (level gone B v)))) (others_solid B A (λ w f. sym (e w f)) (level gone B v)) v b (other_i (has (core gone B (level gone B v))) v apart (level_in gone collapse-simple B v b other))) in
        omega arith
