-- The choice by net yields: a vertex of the greatest one among those that pass a test, the lowest such, if there is one; a round's is among
-- those not anchored. Assumes nothing.
use Prim.Native.Nat.{ℕ, ◌≤◌, ◌<◌}
use mathlib.Core.Path.{◌≡◌, sym, subst}
use mathlib.Core.Bool.{Bool, not, ◌&&◌}
use lib.Signed.{le_z}
use lib.Dec.{T, T_not, not_T}
use native.Mathlib.Omega.{arith}
use Rattle.finite.specs.Best.{best_in}
use Rattle.finite.proofs.Best.{Comparing, best_i, best_passes, best_most, choice_in_best, choice_in-lowest, choice_in-le, choice_in-none, choice_in_some, choice_in_cong, choice_in_skips}
use Rattle.finite.proofs.Signed.{le_z_total, le_z_chains}
use Rattle.anchored.specs.Graph.{Graph, Simple}
use Rattle.anchored.specs.Yield.{climb, net, no_more, choice_of, choice}
use Rattle.anchored.proofs.Core.{level-lt}

module _ (G : Graph) (A : ℕ → Bool) where
  net-order : Comparing (no_more G A)
  net-order = record {
    total = λ v w t. le_z_total (net G A v) (net G A w) t;
    chains = λ u v w s t. le_z_chains (net G A u) (net G A v) (net G A w) s t;
  }

  module _ (p : ℕ → Bool) where
    -- a choice passes
    pub choice_of_passes : choice_of G A p < G.size → T (p (choice_of G A p))
    unfolding choice_of
    choice_of_passes h = best_passes p (no_more G A) G.size (choice_of G A p) (choice_in_best p (no_more G A) G.size h)

    -- no vertex that passes has a greater net yield
    pub choice_of_greatest : (w : ℕ) → w < G.size → T (p w) → choice_of G A p < G.size → T (le_z (net G A w) (net G A (choice_of G A p)))
    unfolding choice_of
    choice_of_greatest w b t h = best_most p (no_more G A) G.size (choice_of G A p) (choice_in_best p (no_more G A) G.size h) w b t

    -- of those with as great a one it is the lowest
    pub choice_of-lowest : (w : ℕ) → w < G.size → T (p w) → net G A w ≡ net G A (choice_of G A p) → choice_of G A p < G.size → choice_of G A p ≤ w
    unfolding choice_of
    choice_of-lowest w b t e h = choice_in-lowest p (no_more G A) G.size w
        (best_i p (no_more G A) G.size w t (λ u bu tu. subst (λ z. T (le_z (net G A u) z)) (sym e) (choice_of_greatest u bu tu h)))

    pub choice_of-le : choice_of G A p ≤ G.size
    unfolding choice_of
    choice_of-le = choice_in-le p (no_more G A) G.size

    -- none passes: there is none
    pub choice_of-none : ((v : ℕ) → v < G.size → T (not (p v))) → choice_of G A p ≡ G.size
    unfolding choice_of
    choice_of-none f = choice_in-none p (no_more G A) G.size f

    -- one passes: there is a choice
    pub choice_of-some : (v : ℕ) → v < G.size → T (p v) → choice_of G A p < G.size
    unfolding choice_of
    choice_of-some v b t = choice_in_some p (no_more G A) net-order G.size v b t

    -- leaving out vertices that have a smaller net yield than one that passes changes no choice
    pub choice_of-skips : (skip : ℕ → Bool) → ((w : ℕ) → w < G.size → T (p w) → T (skip w) → (v : ℕ) × (v < G.size) × T (p v) × T (not (le_z (net G A v) (net G A w))))
        → choice_of G A (λ v. p v && not (skip v)) ≡ choice_of G A p
    unfolding choice_of
    choice_of-skips skip f = choice_in_skips p (no_more G A) net-order skip G.size (λ w b s t.
        let r = f w b s t in
        not_T (best_in p (no_more G A) G.size w) (λ q. T_not (no_more G A r.0 w) r.3 (best_most p (no_more G A) G.size w q r.0 r.1 r.2)))

  -- tests that agree on the vertices give the same choice
  pub choice_of_cong : (p q : ℕ → Bool) → ((v : ℕ) → v < G.size → p v ≡ q v) → choice_of G A p ≡ choice_of G A q
  unfolding choice_of
  choice_of_cong p q e = choice_in_cong p q (no_more G A) G.size e

  -- ---- the choice of a round

  pub choice-free : choice G A < G.size → T (not (A (choice G A)))
  unfolding choice
  choice-free h = choice_of_passes (λ v. not (A v)) h

  pub choice_greatest : (w : ℕ) → w < G.size → T (not (A w)) → choice G A < G.size → T (le_z (net G A w) (net G A (choice G A)))
  unfolding choice
  choice_greatest w b a h = choice_of_greatest (λ v. not (A v)) w b a h

  pub choice-lowest : (w : ℕ) → w < G.size → T (not (A w)) → net G A w ≡ net G A (choice G A) → choice G A < G.size → choice G A ≤ w
  unfolding choice
  choice-lowest w b a e h = choice_of-lowest (λ v. not (A v)) w b a e h

  pub choice-le : choice G A ≤ G.size
  unfolding choice
  choice-le = choice_of-le (λ v. not (A v))

  -- all are anchored: there is none
  pub choice-none : ((v : ℕ) → v < G.size → T (A v)) → choice G A ≡ G.size
  unfolding choice
  choice-none f = choice_of-none (λ v. not (A v)) (λ v b. not_T (not (A v)) (λ t. T_not (A v) t (f v b)))

  -- one vertex is not anchored: there is a choice
  pub choice-some : (v : ℕ) → v < G.size → T (not (A v)) → choice G A < G.size
  unfolding choice
  choice-some v b a = choice_of-some (λ v. not (A v)) v b a

-- no climb exceeds the number of vertices
pub climb-le : (G : Graph) → Simple G → (A : ℕ → Bool) (v : ℕ) → v < G.size → T (not (A v)) → climb G A v ≤ G.size
unfolding climb
climb-le G L A v b a = omega (arith, level-lt G L A v b a)
