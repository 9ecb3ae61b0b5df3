-- The local sheet: a sheet passes the local test at every vertex exactly when it is the defined one; (a) alone overstates
-- nobody, (b) alone understates nobody. Assumes nothing.
use Prim.Native.Nat.{ℕ, zero, suc, ◌-◌, ◌≤◌, ◌<◌}
use mathlib.Core.Path.{◌≡◌, refl, sym, ◌∙◌, subst}
use mathlib.Core.Logic.{◌↔◌}
use mathlib.Core.Bool.{Bool, not, ◌&&◌, ◌||◌}
use lib.Dec.{T, leb, ltb, eqb, leb→le, le→leb, nleb→lt, T_not, not_T, eqb→eq}
use native.Mathlib.Omega.{arith}
use native.Mathlib.Nat.{le_trans}
use Rattle.finite.specs.Count.{count}
use Rattle.finite.specs.Sets.{has, rounds}
use Rattle.finite.specs.Pairs.{pair_le}
use Rattle.finite.proofs.Tests.{and_i, and_l, and_r, or_l, or_r, or-e, split, true_of, false_of, same, not-or, or-not, nand, nand_i, not-not, eqb_of, neqb}
use Rattle.finite.proofs.Count.{count_mono, count_cong}
use Rattle.finite.proofs.Search.{all-below-e, all-below_i}
use Rattle.finite.proofs.Pairs.{pair_ind, pair_lt, pair_eq, pair-e, pair_no, pair-zero_i, pair-zero-e}
use Rattle.anchored.specs.Graph.{Graph, Simple}
use Rattle.anchored.specs.Core.{Solid, core, level, shell, layer}
use Rattle.anchored.specs.Sheet.{at_least, is_defined, support, misplaced, too_high, too_low, too_late, fits, Fits, is_local}
use Rattle.anchored.proofs.Core.{batch_in, batch-sub, batch_full, core-lt, core_solid, core-largest, core-anchored, level_in, level-max, in_core, shell-suc, shell-core, core-shell, layer-out, layer_in, shell-layer, level-anchored, layer-anchored, layer-positive}

pub record Local (G : Graph) (A : ℕ → Bool) (lev lay : ℕ → ℕ) : Type 0 where
  pub anchored : (v : ℕ) → v < G.size → T (A v) → (lev v ≡ 65535) × (lay v ≡ 0)
  pub free : (v : ℕ) → v < G.size → T (not (A v)) → Fits G A lev lay v

-- ---- (a) alone overstates nobody's level

module _ (G : Graph) (L : Simple G) (A : ℕ → Bool) (lev lay : ℕ → ℕ)
    (enough : (v : ℕ) → v < G.size → T (not (A v)) → lev v ≤ support G A lev lay v (lev v) 0)
  where
    at_least_solid : (k : ℕ) → Solid G A k (at_least A lev lay k 0)
    at_least_solid k v b h a = or-e (A v) _ h (λ t. absurd (T_not (A v) a t)) (λ t.
        le_trans (pair-zero-e k (lev v) (lay v) t) (le_trans (enough v b a) (count_mono _ _ (G.neighbors v) (λ w i u.
        or-e (A w) _ u (or_l (A w) _) (λ d. or_r (A w) _ (pair-zero_i k (lev w) (lay w) (omega (arith, pair-zero-e k (lev v) (lay v) t, pair-zero-e (lev v) (lev w) (lay w) d))))))))

    pub at_least-core : (k v : ℕ) → v < G.size → T (at_least A lev lay k 0 v) → T (has (core G A k) v)
    at_least-core k = core-largest G L A k (at_least A lev lay k 0) (at_least_solid k)

    pub not_overstated : (v : ℕ) → v < G.size → T (not (A v)) → lev v ≤ level G A v
    not_overstated v b a = level-max G L A v (lev v) a (at_least-core (lev v) v b (or_r (A v) _ (pair-zero_i (lev v) (lev v) (lay v) (omega arith))))

-- ---- (b) alone understates nobody's level

module _ (G : Graph) (L : Simple G) (A : ℕ → Bool) (lev lay : ℕ → ℕ)
    (few : (v : ℕ) → v < G.size → T (not (A v)) → support G A lev lay v (lev v) (lay v) ≤ lev v)
  where
    -- a vertex of the K-core has at least level K in the sheet: by induction on its pair
    Bounded : ℕ → ℕ → ℕ → Type 0
    Bounded K k l = (v : ℕ) → lev v ≡ k → lay v ≡ l → T (has (core G A K) v) → T (not (A v)) → K ≤ k

    core-step : (K k l : ℕ) → ((i j : ℕ) → i < k → Bounded K i j) → ((j : ℕ) → j < l → Bounded K k j) → Bounded K k l
    unfolding Bounded
    core-step K k l r s v e d h a = split (leb K k) (leb→le K k) (λ t.
        let b = core-lt G L A K v h in
        let small : k < K = nleb→lt K k t in
        let within : count (has (core G A K)) (G.neighbors v) ≤ support G A lev lay v (lev v) (lay v)
        = count_mono _ _ (G.neighbors v) (λ w i c. split (A w) (or_l (A w) _) (λ u. or_r (A w) _ (split (pair_le (lev v) (lay v) (lev w) (lay w)) (λ m. m) (λ m.
        absurd (pair_no {C = ⊥} (lev v) (lay v) (lev w) (lay w) m
        (λ g. omega (arith, r (lev w) (lay w) (omega arith) w refl refl c u))
        (λ g f. omega (arith, s (lay w) (omega arith) w (g ∙ e) refl c u))))))) in
        absurd (omega (arith, few v b a, core_solid G L A K v b h a)))

    pub core-at_least : (k v : ℕ) → T (has (core G A k) v) → T (at_least A lev lay k 0 v)
    unfolding Bounded
    core-at_least k v h = split (A v) (or_l (A v) _) (λ a. or_r (A v) _ (pair-zero_i k (lev v) (lay v) (pair_ind (Bounded k) (core-step k) (lev v) (lay v) v refl refl h a)))

    pub not_understated : (v : ℕ) → v < G.size → T (not (A v)) → level G A v ≤ lev v
    not_understated v b a = or-e (A v) _ (core-at_least (level G A v) v (level_in G L A v b a)) (λ t. absurd (T_not (A v) a t)) (pair-zero-e (level G A v) (lev v) (lay v))

-- ---- a sheet that passes the test is the defined one

module _ (G : Graph) (L : Simple G) (A : ℕ → Bool) (lev lay : ℕ → ℕ) (F : Local G A lev lay) where
  lev_is : (v : ℕ) → v < G.size → T (not (A v)) → lev v ≡ level G A v
  lev_is v b a =
      let x = not_overstated G L A lev lay (λ w c d. (F.free w c d).enough) v b a in
      let y = not_understated G L A lev lay (λ w c d. (F.free w c d).few) v b a in
      omega arith

  core-above : (k v : ℕ) → T (has (core G A k) v) → T (at_least A lev lay k 0 v)
  core-above = core-at_least G L A lev lay (λ w c d. (F.free w c d).few)

  above-core : (k v : ℕ) → v < G.size → T (at_least A lev lay k 0 v) → T (has (core G A k) v)
  above-core = at_least-core G L A lev lay (λ w c d. (F.free w c d).enough)

  -- after j batches of shell k those are left that stand above (k, j)
  Here : ℕ → ℕ → Type 0
  Here k j = (v : ℕ) → v < G.size → T (has (shell G A k j) v) ↔ T (at_least A lev lay k (suc j) v)

  here-zero : (k : ℕ) → Here k 0
  unfolding Here shell rounds
  here-zero k v b = (
    λ h. or-e (A v) _ (core-above k v h) (or_l (A v) _) (λ t. split (A v) (or_l (A v) _) (λ a. or_r (A v) _ (split (leb (lev v) k)
        (λ u. pair_eq k 1 (lev v) (lay v) (omega (arith, pair-zero-e k (lev v) (lay v) t, leb→le (lev v) k u)) (F.free v b a).positive)
        (λ u. pair_lt k 1 (lev v) (lay v) (nleb→lt (lev v) k u))))),
    λ h. above-core k v b (or-e (A v) _ h (or_l (A v) _) (λ t. or_r (A v) _ (pair-zero_i k (lev v) (lay v) (pair-e k 1 (lev v) (lay v) t (λ g. omega arith) (λ e g. omega arith))))),
  )

  here-suc : (k j : ℕ) → Here k j → Here k (suc j)
  unfolding Here
  here-suc k j r v b = (
    λ h.
        let m = rw (shell-suc G L A k j) at h in
        split (A v) (or_l (A v) _) (λ a.
        let c : k < count (at_least A lev lay k (suc j)) (G.neighbors v)
        = le_trans (batch_full G L A (suc k) (shell G A k j) v m a) (count_mono _ _ (G.neighbors v) (λ w i. (r w (L.range v w b i)).0)) in
        or_r (A v) _ (or-e (A v) _ ((r v b).0 (batch-sub G L A (suc k) (shell G A k j) v m)) (λ t. absurd (T_not (A v) a t)) (λ t.
        pair-e k (suc j) (lev v) (lay v) t (pair_lt k (suc (suc j)) (lev v) (lay v)) (λ e g.
        split (leb (lay v) (suc j))
        (λ u.
        let d : lay v ≡ suc j = omega (arith, leb→le (lay v) (suc j) u) in
        absurd (omega (arith, rw (sym e, d) at (F.free v b a).few)))
        (λ u. pair_eq k (suc (suc j)) (lev v) (lay v) e (nleb→lt (lay v) (suc j) u)))))),
    λ h. let H = at_least A lev lay k (suc j) in rw (shell-suc G L A k j) (batch_in G L A (suc k) (shell G A k j) v ((r v b).1 (weaker v h)) (λ a.
        le_trans (or-e (A v) _ h (λ t. absurd (T_not (A v) a t)) (λ t. pair-e k (suc (suc j)) (lev v) (lay v) t
        (λ g. le_trans g (le_trans (F.free v b a).enough (count_mono _ H (G.neighbors v) (λ w i u. or-e (A w) _ u (or_l (A w) _) (λ d.
        or_r (A w) _ (pair_lt k (suc j) (lev w) (lay w) (omega (arith, pair-zero-e (lev v) (lev w) (lay w) d))))))))
        (λ e g. le_trans (omega arith) (le_trans ((F.free v b a).later (omega arith)) (count_mono _ H (G.neighbors v) (λ w i u. or-e (A w) _ u (or_l (A w) _) (λ d.
        or_r (A w) _ (pair-e (lev v) (lay v - 1) (lev w) (lay w) d (λ f. pair_lt k (suc j) (lev w) (lay w) (omega arith)) (λ f q. pair_eq k (suc j) (lev w) (lay w) (omega arith) (omega arith))))))))))
        (count_mono H _ (G.neighbors v) (λ w i. (r w (L.range v w b i)).1)))),
  )
    where
      weaker : (w : ℕ) → T (at_least A lev lay k (suc (suc j)) w) → T (at_least A lev lay k (suc j) w)
      weaker w h = or-e (A w) _ h (or_l (A w) _) (λ t. or_r (A w) _ (pair-e k (suc (suc j)) (lev w) (lay w) t (pair_lt k (suc j) (lev w) (lay w)) (λ e g. pair_eq k (suc j) (lev w) (lay w) e (omega arith))))

  here : (k j : ℕ) → Here k j
  here k zero = here-zero k
  here k (suc j) = here-suc k j (here k j)

  lay_is : (v : ℕ) → v < G.size → T (not (A v)) → lay v ≡ layer G A v
  unfolding Here
  lay_is v b a =
      let e = lev_is v b a in
      let x : lay v ≤ layer G A v = split (leb (lay v) (layer G A v)) (leb→le _ _) (λ t.
      absurd (T_not (has (shell G A (level G A v) (layer G A v)) v) (layer-out G L A v a) ((here (level G A v) (layer G A v) v b).1 (or_r (A v) _ (pair_eq _ _ (lev v) (lay v) (sym e) (nleb→lt (lay v) (layer G A v) t)))))) in
      let y : layer G A v ≤ lay v = split (leb (layer G A v) (lay v)) (leb→le _ _) (λ t.
      let g = nleb→lt (layer G A v) (lay v) t in
      or-e (A v) _ ((here (level G A v) (lay v) v b).0 (layer_in G L A v (lay v) a g)) (λ u. absurd (T_not (A v) a u)) (λ u.
      absurd (pair-e {C = ⊥} (level G A v) (suc (lay v)) (lev v) (lay v) u (λ q. omega arith) (λ q f. omega arith)))) in
      omega arith

-- ---- the defined sheet passes the test

module _ (G : Graph) (L : Simple G) (A : ℕ → Bool) where
  abbrev AtLeast : ℕ → ℕ → ℕ → Bool
  AtLeast = at_least A (level G A) (layer G A)

  pub core_is : (k v : ℕ) → v < G.size → T (has (core G A k) v) ↔ T (AtLeast k 0 v)
  core_is k v b = (
    λ h. split (A v) (or_l (A v) _) (λ a. or_r (A v) _ (pair-zero_i k (level G A v) (layer G A v) (level-max G L A v k a h))),
    λ h. split (A v) (core-anchored G L A k v b) (λ a. or-e (A v) _ h (core-anchored G L A k v b) (λ t. in_core G L A v k b a (pair-zero-e k (level G A v) (layer G A v) t))),
  )

  shell-anchored : (k j v : ℕ) → v < G.size → T (A v) → T (has (shell G A k j) v)
  shell-anchored k j v b a = core-shell G L A k j v (core-anchored G L A (suc k) v b a)

  pub shell_is : (k j v : ℕ) → v < G.size → T (has (shell G A k j) v) ↔ T (AtLeast k (suc j) v)
  shell_is k j v b = (
    λ h. split (A v) (or_l (A v) _) (λ a. or_r (A v) _ (
        let g = level-max G L A v k a (shell-core G L A k j v h) in
        split (leb (level G A v) k)
        (λ t.
        let e : k ≡ level G A v = omega (arith, leb→le (level G A v) k t) in
        pair_eq k (suc j) (level G A v) (layer G A v) e (shell-layer G L A v j a (subst (λ z. T (has (shell G A z j) v)) e h)))
        (λ t. pair_lt k (suc j) (level G A v) (layer G A v) (nleb→lt (level G A v) k t)))),
    λ h. split (A v) (shell-anchored k j v b) (λ a. or-e (A v) _ h (shell-anchored k j v b) (λ t. pair-e k (suc j) (level G A v) (layer G A v) t
        (λ g. core-shell G L A k j v (in_core G L A v (suc k) b a g))
        (λ e g. subst (λ z. T (has (shell G A z j) v)) (sym e) (layer_in G L A v j a g)))),
  )

  defined-enough : (v : ℕ) → v < G.size → T (not (A v)) → level G A v ≤ count (AtLeast (level G A v) 0) (G.neighbors v)
  defined-enough v b a = le_trans (core_solid G L A (level G A v) v b (level_in G L A v b a) a) (count_mono _ (AtLeast (level G A v) 0) (G.neighbors v) (λ w i. (core_is (level G A v) w (L.range v w b i)).0))

  -- a vertex of layer j + 1 is present after j batches, and has too few neighbors there
  defined-few : (v j : ℕ) → v < G.size → T (not (A v)) → suc j ≡ layer G A v → count (AtLeast (level G A v) (suc j)) (G.neighbors v) ≤ level G A v
  defined-few v j b a e =
      le_trans (count_mono (AtLeast (level G A v) (suc j)) (has (shell G A (level G A v) j)) (G.neighbors v) (λ w i. (shell_is (level G A v) j w (L.range v w b i)).1))
      (split (leb (suc (level G A v)) (count (has (shell G A (level G A v) j)) (G.neighbors v)))
      (λ t. absurd (T_not (has (shell G A (level G A v) (suc j)) v) (subst (λ z. T (not (has (shell G A (level G A v) z) v))) (sym e) (layer-out G L A v a))
      (rw (shell-suc G L A (level G A v) j) (batch_in G L A _ _ v (layer_in G L A v j a (omega arith)) (λ c. leb→le _ _ t)))))
      (λ t. omega (arith, nleb→lt (suc (level G A v)) (count (has (shell G A (level G A v) j)) (G.neighbors v)) t)))

  defined-later : (v j : ℕ) → v < G.size → T (not (A v)) → suc j < layer G A v → level G A v < count (AtLeast (level G A v) (suc j)) (G.neighbors v)
  defined-later v j b a h =
      le_trans (batch_full G L A (suc (level G A v)) (shell G A (level G A v) j) v (rw (shell-suc G L A (level G A v) j) at (layer_in G L A v (suc j) a h)) a)
      (count_mono _ (AtLeast (level G A v) (suc j)) (G.neighbors v) (λ w i. (shell_is (level G A v) j w (L.range v w b i)).0))

  pub defined_local : Local G A (level G A) (layer G A)
  defined_local = record {
    anchored = λ v b a. (level-anchored G L A v a, layer-anchored G L A v a);
    free = λ v b a. record {
      positive = layer-positive G L A v b a;
      enough = defined-enough v b a;
      few = let f = layer-positive G L A v b a in subst (λ z. count (AtLeast (level G A v) z) (G.neighbors v) ≤ level G A v) (omega arith) (defined-few v (layer G A v - 1) b a (omega arith));
      later = λ h. subst (λ z. level G A v < count (AtLeast (level G A v) z) (G.neighbors v)) (omega arith) (defined-later v (layer G A v - 2) b a (omega arith));
    };
  }

-- ---- a local sheet is the defined one, and no other is local

Agree : Graph → (ℕ → Bool) → (ℕ → ℕ) → (ℕ → ℕ) → Type 0
Agree G A lev lay = (v : ℕ) → v < G.size → (lev v ≡ level G A v) × (lay v ≡ layer G A v)

-- a sheet that agrees with the defined one passes as it does
agree_local : (G : Graph) → Simple G → (A : ℕ → Bool) (lev lay : ℕ → ℕ) → Agree G A lev lay → Local G A lev lay
unfolding Agree
agree_local G L A lev lay e =
    let D = defined_local G L A in
    let agree : (v : ℕ) → v < G.size → (k l : ℕ) → support G A (level G A) (layer G A) v k l ≡ support G A lev lay v k l
    = λ v b k l. count_cong _ _ (G.neighbors v) (λ w i. let r = e w (L.range v w b i) in rw (r.0, r.1)) in
    record {
      anchored = λ v b a. ((e v b).0 ∙ (D.anchored v b a).0, (e v b).1 ∙ (D.anchored v b a).1);
      free = λ v b a. let d = D.free v b a in record {
        positive = omega (arith, d.positive, (e v b).1);
        enough = rw (e v b).0 (subst (λ z. level G A v ≤ z) (agree v b (level G A v) 0) d.enough);
        few = rw ((e v b).0, (e v b).1) (subst (λ z. z ≤ level G A v) (agree v b (level G A v) (layer G A v)) d.few);
        later = λ h. rw ((e v b).0, (e v b).1) (subst (λ z. level G A v < z) (agree v b (level G A v) (layer G A v - 1)) (d.later (omega (arith, (e v b).1))));
      };
    }

pub local_agree : (G : Graph) → Simple G → (A : ℕ → Bool) (lev lay : ℕ → ℕ) → Local G A lev lay ↔ ((v : ℕ) → v < G.size → (lev v ≡ level G A v) × (lay v ≡ layer G A v))
unfolding Agree
local_agree G L A lev lay = (
  λ F v b. split (A v)
      (λ a. ((F.anchored v b a).0 ∙ sym (level-anchored G L A v a), (F.anchored v b a).1 ∙ sym (layer-anchored G L A v a)))
      (λ a. (lev_is G L A lev lay F v b a, lay_is G L A lev lay F v b a)),
  agree_local G L A lev lay,
)

-- ---- the test, computed

module _ (G : Graph) (A : ℕ → Bool) (lev lay : ℕ → ℕ) where
  abbrev counted : ℕ → ℕ → ℕ → ℕ
  counted = support G A lev lay

  -- an entry of an anchored vertex that is in place is 65,535 and 0
  placed-anchored : (v : ℕ) → T (A v) → T (not (misplaced G A lev lay v)) → (lev v ≡ 65535) × (lay v ≡ 0)
  unfolding misplaced
  placed-anchored v a placed =
      let m = not-not (eqb (lev v) 65535 && eqb (lay v) 0) (rw (true_of (A v) a) at placed) in
      (eqb→eq (lev v) 65535 (and_l (eqb (lev v) 65535) _ m), eqb→eq (lay v) 0 (and_r (eqb (lev v) 65535) _ m))

  -- an entry fits exactly when it passes each of the four tests
  pub fits_each : (v : ℕ) → T (fits G A lev lay v) → T (not (misplaced G A lev lay v)) × T (not (too_high G A lev lay v)) × T (not (too_low G A lev lay v)) × T (not (too_late G A lev lay v))
  unfolding fits
  fits_each v t =
      let late = not-or (misplaced G A lev lay v || too_high G A lev lay v || too_low G A lev lay v) _ t in
      let low = not-or (misplaced G A lev lay v || too_high G A lev lay v) _ late.0 in
      let high = not-or (misplaced G A lev lay v) _ low.0 in
      (high.0, high.1, low.1, late.1)

  pub fits_all : (v : ℕ) → T (not (misplaced G A lev lay v)) → T (not (too_high G A lev lay v)) → T (not (too_low G A lev lay v)) → T (not (too_late G A lev lay v)) → T (fits G A lev lay v)
  unfolding fits
  fits_all v out high low late =
      or-not (misplaced G A lev lay v || too_high G A lev lay v || too_low G A lev lay v) _
      (or-not (misplaced G A lev lay v || too_high G A lev lay v) _ (or-not (misplaced G A lev lay v) _ out high) low) late

  pub fits-free : (v : ℕ) → T (not (A v)) → T (fits G A lev lay v) → Fits G A lev lay v
  unfolding misplaced too_high too_low too_late
  fits-free v a t =
      let each = fits_each v t in
      record {
        positive = let ne = neqb (lay v) 0 (rw (false_of (A v) a) at each.0) in omega arith;
        enough = omega (arith, nleb→lt (suc (counted v (lev v) 0)) (lev v) (nand (not (A v)) _ each.1 a));
        few = omega (arith, nleb→lt (suc (lev v)) (counted v (lev v) (lay v)) (nand (not (A v)) _ each.2 a));
        later = λ h. nleb→lt (counted v (lev v) (lay v - 1)) (lev v) (nand (not (A v) && ltb 1 (lay v)) _ each.3 (and_i (not (A v)) _ a (le→leb 2 (lay v) h)));
      }

  pub fits-anchored : (v : ℕ) → T (A v) → T (fits G A lev lay v) → (lev v ≡ 65535) × (lay v ≡ 0)
  fits-anchored v a t = placed-anchored v a (fits_each v t).0

  pub local_fits : Local G A lev lay → (v : ℕ) → v < G.size → T (fits G A lev lay v)
  unfolding misplaced too_high too_low too_late
  local_fits F v b = fits_all v
      (split (A v)
      (λ a. let k = F.anchored v b a in rw (true_of (A v) a) (not_T (not (eqb (lev v) 65535 && eqb (lay v) 0)) (λ n. T_not (eqb (lev v) 65535 && eqb (lay v) 0) n (and_i (eqb (lev v) 65535) _ (eqb_of (lev v) 65535 k.0) (eqb_of (lay v) 0 k.1)))))
      (λ a. rw (false_of (A v) a) (not_T (eqb (lay v) 0) (λ n. absurd (omega (arith, eqb→eq (lay v) 0 n, (F.free v b a).positive))))))
      (nand_i (not (A v)) _ (λ a. not_T (ltb (counted v (lev v) 0) (lev v)) (λ n. absurd (omega (arith, leb→le (suc (counted v (lev v) 0)) (lev v) n, (F.free v b a).enough)))))
      (nand_i (not (A v)) _ (λ a. not_T (ltb (lev v) (counted v (lev v) (lay v))) (λ n. absurd (omega (arith, leb→le (suc (lev v)) (counted v (lev v) (lay v)) n, (F.free v b a).few)))))
      (nand_i (not (A v) && ltb 1 (lay v)) _ (λ a. not_T (leb (counted v (lev v) (lay v - 1)) (lev v)) (λ n.
      let one = leb→le 2 (lay v) (and_r (not (A v)) _ a) in
      absurd (omega (arith, leb→le (counted v (lev v) (lay v - 1)) (lev v) n, (F.free v b (and_l (not (A v)) _ a)).later one)))))

  pub fits_local : ((v : ℕ) → v < G.size → T (fits G A lev lay v)) → Local G A lev lay
  fits_local each = record {
    anchored = λ v b a. fits-anchored v a (each v b);
    free = λ v b a. fits-free v a (each v b);
  }

  pub passes_local : T (is_local G A lev lay) → Local G A lev lay
  unfolding is_local
  passes_local t = fits_local (all-below-e (fits G A lev lay) G.size t)

  pub local_passes : Local G A lev lay → T (is_local G A lev lay)
  unfolding is_local
  local_passes F = all-below_i (fits G A lev lay) G.size (local_fits F)

-- the local test accepts exactly the defined sheet
pub local_iff : (G : Graph) → Simple G → (A : ℕ → Bool) (lev lay : ℕ → ℕ) → is_local G A lev lay ≡ is_defined G A lev lay
unfolding is_defined
local_iff G L A lev lay = same (is_local G A lev lay) (is_defined G A lev lay)
    (λ t.
    let f = (local_agree G L A lev lay).0 (passes_local G A lev lay t) in
    all-below_i _ G.size (λ v b. and_i (eqb (lev v) (level G A v)) _ (eqb_of (lev v) (level G A v) (f v b).0) (eqb_of (lay v) (layer G A v) (f v b).1)))
    (λ t.
    let each = all-below-e (λ v. eqb (lev v) (level G A v) && eqb (lay v) (layer G A v)) G.size t in
    local_passes G A lev lay ((local_agree G L A lev lay).1 (λ v b.
    (eqb→eq (lev v) (level G A v) (and_l (eqb (lev v) (level G A v)) _ (each v b)), eqb→eq (lay v) (layer G A v) (and_r (eqb (lev v) (level G A v)) _ (each v b))))))

-- a sheet of which no entry is misplaced and no level too high overstates nobody's level, anchored vertices included
pub nowhere_overstated :
    (G : Graph) → Simple G → (A : ℕ → Bool) (lev lay : ℕ → ℕ) → ((v : ℕ) → v < G.size → T (not (misplaced G A lev lay v)))
    → ((v : ℕ) → v < G.size → T (not (too_high G A lev lay v))) → (v : ℕ) → v < G.size → lev v ≤ level G A v
unfolding too_high
nowhere_overstated G L A lev lay placed low v b = split (A v)
    (λ a. omega (arith, (placed-anchored G A lev lay v a (placed v b)).0, level-anchored G L A v a))
    (not_overstated G L A lev lay (λ w c a. omega (arith, nleb→lt (suc (support G A lev lay w (lev w) 0)) (lev w) (nand (not (A w)) _ (low w c) a))) v b)
