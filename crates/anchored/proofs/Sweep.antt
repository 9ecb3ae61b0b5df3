-- One sweep of batches, the threshold rising when none goes, gives every level and layer: what a program that peels needs. Assumes nothing.
use Prim.Native.Nat.{ℕ, suc, ◌≤◌, ◌<◌}
use mathlib.Core.Path.{◌≡◌, sym, ◌∙◌, subst}
use mathlib.Core.Bool.{Bool, true, not}
use lib.ListN.{length, replicate, length-replicate}
use lib.Dec.{T, leb, leb→le, nleb→lt, T_not}
use native.Mathlib.Omega.{arith}
use Rattle.finite.specs.Sets.{has}
use Rattle.finite.proofs.Tests.{split, same}
use Rattle.finite.proofs.Sets.{has_all, sets_ext}
use Rattle.anchored.specs.Graph.{Graph, Simple}
use Rattle.anchored.specs.Core.{batch, core, shell, level, layer}
use Rattle.anchored.proofs.Core.{batch_full, batches_length, core-length, core-zero, core-largest, shell-core, shell-lt, core-shell, shell-suc, level-max, layer_in, shell-layer, in_core}

module _ (G : Graph) (L : Simple G) (A : ℕ → Bool) where
  -- the 0-core is every vertex
  pub core-everyone : core G A 0 ≡ replicate G.size true
  core-everyone = sets_ext _ _ (core-length G L A 0 ∙ sym (length-replicate G.size true)) (λ v h.
      let b : v < G.size = subst (λ z. v < z) (core-length G L A 0) h in
      same _ _ (λ t. has_all G.size v b) (λ t. core-zero G L A v b))

  shell-length : (k j : ℕ) → length (shell G A k j) ≡ G.size
  unfolding shell
  shell-length k j = batches_length G L A (suc k) j (core G A k) ∙ core-length G L A k

  -- a batch in which none goes ends the shell: the next core is left
  pub shell-next : (k j : ℕ) → batch G A (suc k) (shell G A k j) ≡ shell G A k j → shell G A k j ≡ core G A (suc k)
  shell-next k j e = sets_ext _ _ (shell-length k j ∙ sym (core-length G L A (suc k))) (λ v h.
      same (has (shell G A k j) v) (has (core G A (suc k)) v)
      (λ t. core-largest G L A (suc k) (has (shell G A k j)) (λ w b i a. batch_full G L A (suc k) (shell G A k j) w (subst (λ s. T (has s w)) (sym e) i) a) v (shell-lt G L A k j v t) t)
      (core-shell G L A k j v))

  -- a vertex that goes in batch j + 1 of shell k has level k and layer j + 1
  pub gone : (k j v : ℕ) → T (not (A v)) → T (has (shell G A k j) v) → T (not (has (batch G A (suc k) (shell G A k j)) v)) → (level G A v ≡ k) × (layer G A v ≡ suc j)
  gone k j v a h n =
      let out : T (not (has (shell G A k (suc j)) v)) = rw (shell-suc G L A k j) n in
      let lo = level-max G L A v k a (shell-core G L A k j v h) in
      let e : level G A v ≡ k = split (leb (suc k) (level G A v))
      (λ t. absurd (T_not (has (shell G A k (suc j)) v) out (core-shell G L A k (suc j) v (in_core G L A v (suc k) (shell-lt G L A k j v h) a (leb→le (suc k) (level G A v) t)))))
      (λ t. omega (arith, nleb→lt (suc k) (level G A v) t)) in
      let x = shell-layer G L A v j a (subst (λ z. T (has (shell G A z j) v)) (sym e) h) in
      let y : layer G A v ≤ suc j = split (leb (layer G A v) (suc j)) (leb→le (layer G A v) (suc j)) (λ t.
      absurd (T_not (has (shell G A k (suc j)) v) out (subst (λ z. T (has (shell G A z (suc j)) v)) e (layer_in G L A v (suc j) a (nleb→lt (layer G A v) (suc j) t))))) in
      (e, omega arith)
