-- One more anchor: nobody falls, and nobody but x rises by more than one level. Assumes nothing.
use Prim.Native.Nat.{ℕ, zero, suc, ◌≤◌, ◌<◌, zero-le}
use mathlib.Core.Path.{◌≡◌, sym, subst}
use mathlib.Core.Bool.{Bool, not, ◌&&◌}
use lib.Dec.{T, eqb, T_not, not_T, eqb→eq, eqb_refl}
use native.Mathlib.Omega.{arith}
use Rattle.finite.specs.Sets.{has}
use Rattle.finite.proofs.Tests.{and_i, and_l, and_r, or_l, or_r, or-e}
use Rattle.finite.proofs.Count.{count_off}
use Rattle.anchored.specs.Graph.{Graph, Simple}
use Rattle.anchored.specs.Core.{Solid, core, level}
use Rattle.anchored.specs.Followers.{adding}
use Rattle.anchored.proofs.Core.{core-lt, core_solid, core-largest, level_in, level-max}

pub free_of : (A : ℕ → Bool) (x v : ℕ) → T (not (adding A x v)) → T (not (A v))
free_of A x v h = not_T (A v) (λ a. T_not (adding A x v) h (or_l (A v) _ a))

pub other_of : (A : ℕ → Bool) (x v : ℕ) → T (not (adding A x v)) → x ≡ v → ⊥
other_of A x v h e = T_not (adding A x v) h (or_r (A v) _ (subst (λ z. T (eqb x z)) e (eqb_refl x)))

pub free-adding : (A : ℕ → Bool) (x v : ℕ) → T (not (A v)) → (x ≡ v → ⊥) → T (not (adding A x v))
free-adding A x v a f = not_T (adding A x v) (λ t. or-e (A v) _ t (T_not (A v) a) (λ u. f (eqb→eq x v u)))

-- a larger set of anchors gives no lower level to a vertex in neither
module _ (G : Graph) (L : Simple G) (A B : ℕ → Bool) (f : (v : ℕ) → T (A v) → T (B v)) where
  pub core_mono : (k v : ℕ) → T (has (core G A k) v) → T (has (core G B k) v)
  core_mono k v h = core-largest G L B k (has (core G A k)) (λ w b i a. core_solid G L A k w b i (not_T (A w) (λ t. T_not (B w) a (f w t)))) v (core-lt G L A k v h) h

  pub level_mono : (v : ℕ) → v < G.size → T (not (B v)) → level G A v ≤ level G B v
  level_mono v b a = level-max G L B v (level G A v) a (core_mono (level G A v) v (level_in G L A v b (not_T (A v) (λ t. T_not (B v) a (f v t)))))

module _ (G : Graph) (L : Simple G) (A : ℕ → Bool) (x : ℕ) where
  pub core-adding : (k v : ℕ) → T (has (core G A k) v) → T (has (core G (adding A x) k) v)
  core-adding = core_mono G L A (adding A x) (λ v. or_l (A v) _)

  pub level-rises : (v : ℕ) → v < G.size → T (not (adding A x v)) → level G A v ≤ level G (adding A x) v
  level-rises = level_mono G L A (adding A x) (λ v. or_l (A v) _)

  -- the next core without x is solid without x as an anchor
  less : ℕ → ℕ → Bool
  less k w = has (core G (adding A x) (suc k)) w && not (eqb x w)

  less_solid : (k : ℕ) → Solid G A k (less k)
  unfolding less
  less_solid k w b h a =
      let other : x ≡ w → ⊥ = λ e. T_not (eqb x w) (and_r (has (core G (adding A x) (suc k)) w) _ h) (subst (λ z. T (eqb x z)) e (eqb_refl x)) in
      let c = core_solid G L (adding A x) (suc k) w b (and_l (has (core G (adding A x) (suc k)) w) _ h) (free-adding A x w a other) in
      let d = count_off (has (core G (adding A x) (suc k))) (less k) x (G.neighbors w) (L.distinct w b) (λ u i f t.
      and_i (has (core G (adding A x) (suc k)) u) _ t (not_T (eqb x u) (λ m. f (sym (eqb→eq x u m))))) in
      omega arith

  pub core-less : (k v : ℕ) → T (has (core G (adding A x) (suc k)) v) → (x ≡ v → ⊥) → T (has (core G A k) v)
  unfolding less
  core-less k v h f = core-largest G L A k (less k) (less_solid k) v (core-lt G L (adding A x) (suc k) v h)
      (and_i (has (core G (adding A x) (suc k)) v) _ h (not_T (eqb x v) (λ m. f (eqb→eq x v m))))

  -- theorem 4.6 of source document 000
  pub level_by_one : (v : ℕ) → v < G.size → T (not (adding A x v)) → level G (adding A x) v ≤ suc (level G A v)
  level_by_one v b a = go (level G (adding A x) v) (level_in G L (adding A x) v b a)
    where
      go : (k : ℕ) → T (has (core G (adding A x) k) v) → k ≤ suc (level G A v)
      go zero h = zero-le
      go (suc k) h = omega (arith, level-max G L A v k (free_of A x v a) (core-less k v h (other_of A x v a)))
