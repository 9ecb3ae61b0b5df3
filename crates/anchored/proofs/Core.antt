-- Cores, levels and layers: the core is the largest solid set, and what that says of levels and layers. Assumes nothing.
use Prim.Native.Nat.{ℕ, zero, suc, ◌+◌, ◌-◌, ◌≤◌, ◌<◌, zero-le}
use mathlib.Core.Path.{◌≡◌, refl, sym, ◌∙◌, subst}
use mathlib.Core.Logic.{◌↔◌}
use mathlib.Core.Bool.{Bool, true, not, ◌&&◌, ◌||◌}
use mathlib.Core.List.{List}
use lib.ListN.{length, get_or, replicate, length-replicate}
use lib.Dec.{T, leb, ltb, leb→le, le→leb, nleb→lt, ltb→lt, lt→ltb, nltb→le, T_not, not_T}
use native.Mathlib.Omega.{arith}
use native.Mathlib.Nat.{zero-add, add-zero, add-suc, le_trans}
use Rattle.finite.specs.Count.{count}
use Rattle.finite.specs.Search.{first, largest}
use Rattle.finite.specs.Sets.{has, size, rounds}
use Rattle.finite.proofs.Tests.{and_i, and_l, and_r, or_l, or_r, or-e, split, true_of, false_of, not-not}
use Rattle.finite.proofs.Count.{in_at, at_in, count-length, count-some, count_mono, distinct-other}
use Rattle.finite.proofs.Search.{largest-holds, largest-max, first-le, first-before, first_ends}
use Rattle.finite.proofs.Sets.{has_all, has-lt, has-keep, length-keep, keep_same, size-length, rounds-suc, shrink_rest}
use Rattle.anchored.specs.Graph.{Graph, Simple}
use Rattle.anchored.specs.Core.{Solid, batch, core, level, shell, layer}
-- the computed cases come before the theorems, so that a wrong definition is refused at a figure
use Rattle.anchored.specs.Cases.{cases}

-- ---- cores

module _ (G : Graph) (L : Simple G) (A : ℕ → Bool) where
  has-batch : (t : ℕ) (s : List Bool) (v : ℕ) → has (batch G A t s) v ≡ has s v && (A v || leb t (count (has s) (G.neighbors v)))
  unfolding batch
  has-batch t s v = has-keep s 0 (λ w. A w || leb t (count (has s) (G.neighbors w))) v ∙ rw zero-add

  pub batch_in : (t : ℕ) (s : List Bool) (v : ℕ) → T (has s v) → (T (not (A v)) → t ≤ count (has s) (G.neighbors v)) → T (has (batch G A t s) v)
  batch_in t s v h f = rw has-batch (and_i (has s v) _ h (split (A v) (or_l (A v) _) (λ a. or_r (A v) _ (le→leb t _ (f a)))))

  pub batch-sub : (t : ℕ) (s : List Bool) (v : ℕ) → T (has (batch G A t s) v) → T (has s v)
  batch-sub t s v h = and_l (has s v) _ (rw has-batch at h)

  pub batch_full : (t : ℕ) (s : List Bool) (v : ℕ) → T (has (batch G A t s) v) → T (not (A v)) → t ≤ count (has s) (G.neighbors v)
  batch_full t s v h a = or-e (A v) _ (and_r (has s v) _ (rw has-batch at h)) (λ b. absurd (T_not (A v) a b)) (leb→le t _)

  pub batch-rest : (t : ℕ) (s : List Bool) → size s ≤ size (batch G A t s) → batch G A t s ≡ s
  unfolding batch
  batch-rest t s h = keep_same s 0 _ h

  pub batches_length : (t m : ℕ) (s : List Bool) → length (rounds (batch G A t) m s) ≡ length s
  unfolding rounds batch
  batches_length t zero s = refl
  batches_length t (suc m) s = batches_length t m (batch G A t s) ∙ length-keep s 0 _

  pub batches_sub : (t m : ℕ) (s : List Bool) (v : ℕ) → T (has (rounds (batch G A t) m s) v) → T (has s v)
  unfolding rounds
  batches_sub t zero s v h = h
  batches_sub t (suc m) s v h = batch-sub t s v (batches_sub t m (batch G A t s) v h)

  -- a solid set stays through every batch
  pub batches_solid : (t : ℕ) (S : ℕ → Bool) → Solid G A t S → (m : ℕ) (s : List Bool) → ((v : ℕ) → v < G.size → T (S v) → T (has s v))
      → (v : ℕ) → v < G.size → T (S v) → T (has (rounds (batch G A t) m s) v)
  unfolding rounds
  batches_solid t S c zero s f = f
  batches_solid t S c (suc m) s f =
      batches_solid t S c m (batch G A t s) (λ v b h. batch_in t s v (f v b h) (λ a.
      le_trans (c v b h a) (count_mono S (has s) (G.neighbors v) (λ w i. f w (L.range v w b i)))))

  pub core-length : (k : ℕ) → length (core G A k) ≡ G.size
  unfolding core
  core-length k = batches_length k G.size _ ∙ length-replicate G.size true

  pub core-lt : (k v : ℕ) → T (has (core G A k) v) → v < G.size
  core-lt k v h = subst (λ z. v < z) (core-length k) (has-lt (core G A k) v h)

  core-rest : (k : ℕ) → batch G A k (core G A k) ≡ core G A k
  unfolding core
  core-rest k = shrink_rest (batch G A k) (batch-rest k) G.size _ (omega (arith, size-length (replicate G.size true), length-replicate G.size true))

  -- demand 2: the core is solid, and holds every solid set
  pub core_solid : (k : ℕ) → Solid G A k (has (core G A k))
  core_solid k v b h a = batch_full k (core G A k) v (rw core-rest h) a

  pub core-largest : (k : ℕ) (S : ℕ → Bool) → Solid G A k S → (v : ℕ) → v < G.size → T (S v) → T (has (core G A k) v)
  unfolding core
  core-largest k S c = batches_solid k S c G.size _ (λ v b h. has_all G.size v b)

  pub core-zero : (v : ℕ) → v < G.size → T (has (core G A 0) v)
  core-zero v b = core-largest 0 (λ w. true) (λ w c h a. zero-le) v b tt

  pub core_anti : (j k : ℕ) → j ≤ k → (v : ℕ) → T (has (core G A k) v) → T (has (core G A j) v)
  core_anti j k h v t = core-largest j (has (core G A k)) (λ w b i a. le_trans h (core_solid k w b i a)) v (core-lt k v t) t

  pub core-anchored : (k v : ℕ) → v < G.size → T (A v) → T (has (core G A k) v)
  core-anchored k v b t = core-largest k A (λ w c h a. absurd (T_not (A w) a h)) v b t

  -- ---- levels

  level-eq : (v : ℕ) → T (not (A v)) → level G A v ≡ largest (λ k. has (core G A k) v) (length (G.neighbors v))
  unfolding level
  level-eq v a = rw (false_of (A v) a)

  pub level_in : (v : ℕ) → v < G.size → T (not (A v)) → T (has (core G A (level G A v)) v)
  level_in v b a = rw (level-eq v a) (largest-holds (λ k. has (core G A k) v) (length (G.neighbors v)) (core-zero v b))

  pub level-max : (v k : ℕ) → T (not (A v)) → T (has (core G A k) v) → k ≤ level G A v
  level-max v k a h =
      rw (level-eq v a) (largest-max (λ j. has (core G A j) v) (length (G.neighbors v)) k (le_trans (core_solid k v (core-lt k v h) h a) (count-length _ (G.neighbors v))) h)

  pub in_core : (v k : ℕ) → v < G.size → T (not (A v)) → k ≤ level G A v → T (has (core G A k) v)
  in_core v k b a h = core_anti k (level G A v) h v (level_in v b a)

  -- demand 2: the level is k exactly when some solid set for k holds v, and none for k + 1 does
  pub level_means : (v k : ℕ) → v < G.size → T (not (A v))
      → (level G A v ≡ k) ↔ (((S : ℕ → Bool) × Solid G A k S × T (S v)) × ((S : ℕ → Bool) → Solid G A (suc k) S → T (S v) → ⊥))
  level_means v k b a = (
    λ e. ((has (core G A k), core_solid k, in_core v k b a (omega arith)), λ S c h. absurd (omega (arith, level-max v (suc k) a (core-largest (suc k) S c v b h)))),
    λ m. (
        let low : k ≤ level G A v = level-max v k a (core-largest k m.0.0 m.0.1 v b m.0.2) in
        split (leb (suc k) (level G A v))
        (λ t. absurd (m.1 (has (core G A (suc k))) (core_solid (suc k)) (in_core v (suc k) b a (leb→le (suc k) _ t))))
        (λ t. omega (arith, nleb→lt (suc k) (level G A v) t))
        ),
  )

  pub level-degree : (v : ℕ) → v < G.size → T (not (A v)) → level G A v ≤ length (G.neighbors v)
  level-degree v b a = le_trans (core_solid (level G A v) v b (level_in v b a) a) (count-length _ (G.neighbors v))

  -- the vertices that have a neighbor are a solid set for 1: each is its neighbor's neighbor
  some_solid : Solid G A 1 (λ v. ltb 0 (length (G.neighbors v)))
  some_solid v b h a =
      let w = get_or (G.neighbors v) 0 0 in
      let i = in_at (G.neighbors v) 0 0 (ltb→lt 0 (length (G.neighbors v)) h) in
      count-some _ (G.neighbors v) w i (lt→ltb 0 (length (G.neighbors w)) (omega (arith, (at_in (G.neighbors w) v 0 (L.symmetric v w b i)).1)))

  -- a vertex that is not anchored has level 0 exactly when it has no neighbors
  pub level-zero : (v : ℕ) → v < G.size → T (not (A v)) → (level G A v ≡ 0) ↔ (length (G.neighbors v) ≡ 0)
  level-zero v b a = (
    λ e. split (ltb 0 (length (G.neighbors v)))
        (λ t. absurd (omega (arith, level-max v 1 a (core-largest 1 _ some_solid v b t))))
        (λ t. omega (arith, nltb→le 0 (length (G.neighbors v)) t)),
    λ e. omega (arith, level-degree v b a),
  )

  -- ---- shells and layers

  pub shell-suc : (k j : ℕ) → shell G A k (suc j) ≡ batch G A (suc k) (shell G A k j)
  unfolding shell
  shell-suc k j = rounds-suc (batch G A (suc k)) j (core G A k)

  pub shell-core : (k j v : ℕ) → T (has (shell G A k j) v) → T (has (core G A k) v)
  unfolding shell
  shell-core k j v h = batches_sub (suc k) j (core G A k) v h

  pub shell-lt : (k j v : ℕ) → T (has (shell G A k j) v) → v < G.size
  shell-lt k j v h = core-lt k v (shell-core k j v h)

  shell-down : (k i d v : ℕ) → T (has (shell G A k (i + d)) v) → T (has (shell G A k i) v)
  shell-down k i zero v h = rw add-zero at h
  shell-down k i (suc d) v h = shell-down k i d v (batch-sub (suc k) (shell G A k (i + d)) v (rw (add-suc, shell-suc) at h))

  pub shell_anti : (k i j v : ℕ) → i ≤ j → T (has (shell G A k j) v) → T (has (shell G A k i) v)
  shell_anti k i j v h t = shell-down k i (j - i) v (subst (λ z. T (has (shell G A k z) v)) (omega arith) t)

  -- the next core stays through every batch, and is what is left in the end
  pub core-shell : (k j v : ℕ) → T (has (core G A (suc k)) v) → T (has (shell G A k j) v)
  unfolding shell
  core-shell k j v h = batches_solid (suc k) (has (core G A (suc k))) (core_solid (suc k)) j (core G A k) (λ w b. core_anti k (suc k) (omega arith) w) v (core-lt (suc k) v h) h

  shell-rest : (k : ℕ) → batch G A (suc k) (shell G A k G.size) ≡ shell G A k G.size
  unfolding shell
  shell-rest k = shrink_rest (batch G A (suc k)) (batch-rest (suc k)) G.size (core G A k) (omega (arith, size-length (core G A k), core-length k))

  pub shell-end : (k v : ℕ) → T (has (shell G A k G.size) v) → T (has (core G A (suc k)) v)
  shell-end k v h =
      core-largest (suc k) (has (shell G A k G.size)) (λ w b i a. batch_full (suc k) (shell G A k G.size) w (rw shell-rest i) a) v (shell-lt k G.size v h) h

  layer-eq : (v : ℕ) → T (not (A v)) → layer G A v ≡ first (λ j. not (has (shell G A (level G A v) j) v)) G.size
  unfolding layer
  layer-eq v a = rw (false_of (A v) a)

  pub layer-out : (v : ℕ) → T (not (A v)) → T (not (has (shell G A (level G A v) (layer G A v)) v))
  layer-out v a = rw (layer-eq v a) (first_ends (λ j. not (has (shell G A (level G A v) j) v)) G.size
      (not_T (has (shell G A (level G A v) G.size) v) (λ h. absurd (omega (arith, level-max v (suc (level G A v)) a (shell-end (level G A v) v h))))))

  pub layer_in : (v j : ℕ) → T (not (A v)) → j < layer G A v → T (has (shell G A (level G A v) j) v)
  layer_in v j a h = not-not (has (shell G A (level G A v) j) v) (first-before (λ i. not (has (shell G A (level G A v) i) v)) G.size j (subst (λ z. j < z) (layer-eq v a) h))

  pub layer-le : (v : ℕ) → T (not (A v)) → layer G A v ≤ G.size
  layer-le v a = subst (λ z. z ≤ G.size) (sym (layer-eq v a)) (first-le (λ j. not (has (shell G A (level G A v) j) v)) G.size)

  pub shell-layer : (v j : ℕ) → T (not (A v)) → T (has (shell G A (level G A v) j) v) → j < layer G A v
  shell-layer v j a h = split (leb (layer G A v) j)
      (λ t. absurd (T_not (has (shell G A (level G A v) (layer G A v)) v) (layer-out v a) (shell_anti (level G A v) (layer G A v) j v (leb→le _ j t) h)))
      (nleb→lt (layer G A v) j)

  pub level-anchored : (v : ℕ) → T (A v) → level G A v ≡ 65535
  unfolding level
  level-anchored v a = rw (true_of (A v) a)

  pub layer-anchored : (v : ℕ) → T (A v) → layer G A v ≡ 0
  unfolding layer
  layer-anchored v a = rw (true_of (A v) a)

  -- ---- bounds: every level and layer fits

  pub degree-lt : (v : ℕ) → v < G.size → length (G.neighbors v) < G.size
  degree-lt v b = distinct-other (G.neighbors v) G.size (L.distinct v b) (λ w i. L.range v w b i) v b (L.loopless v b)

  pub level-lt : (v : ℕ) → v < G.size → T (not (A v)) → level G A v < G.size
  level-lt v b a = omega (arith, level-degree v b a, degree-lt v b)

  pub layer-positive : (v : ℕ) → v < G.size → T (not (A v)) → 1 ≤ layer G A v
  unfolding shell rounds
  layer-positive v b a = shell-layer v 0 a (level_in v b a)
