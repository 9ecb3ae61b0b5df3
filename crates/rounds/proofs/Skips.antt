-- Searches left out of vertices that another of their house outdoes: the rounds are the same. Assumes nothing.
use mathlib.Core.Path.{◌≡◌, ap, ◌∙◌}
use mathlib.Core.Bool.{Bool}
use Prim.Native.Nat.{ℕ, ◌≤◌, ◌<◌}
use lib.Dec.{T}
use Rattle.finite.proofs.Count.{tabulate_cong}
use Rattle.anchored.specs.Graph.{Graph, Simple}
use Rattle.anchored.specs.Houses.{Houses, free_in, named, house_choice}
use Rattle.anchored.specs.Ceiling.{outdone}
use Rattle.anchored.proofs.Houses.{named-same, lines_same}
use Rattle.anchored.proofs.Ceiling.{skipping_same}
use Rattle.rounds.specs.Rounds.{round_for}
use Rattle.rounds.specs.Shared.{shared_after, shared_rounds, skipping_choice, skipping_rounds}

module _ (G : Graph) (L : Simple G) (small : G.size ≤ 65535) (H : Houses) (skip : (ℕ → Bool) → ℕ → ℕ → Bool)
    (others : (A : ℕ → Bool) (c w : ℕ) → w < G.size → T (free_in H A c w) → T (skip A c w) → (v : ℕ) × (v < G.size) × T (free_in H A c v) × T (outdone G A v w)) where
  -- each house chooses the same
  choice-same : (i : ℕ) (A : ℕ → Bool) (c : ℕ) → skipping_choice G H skip i A c ≡ house_choice G H i A c
  unfolding skipping_choice house_choice
  choice-same i A c = skipping_same G L A small (free_in H A c) (skip A c) (others A c)

  -- the rounds with every such search left out are the rounds
  pub skipping-rounds : (quota : ℕ → ℕ) (A : ℕ → Bool) (m : ℕ) → skipping_rounds G H skip quota A m ≡ shared_rounds G H quota A m
  unfolding skipping_rounds shared_rounds named house_choice
  skipping-rounds quota A m = tabulate_cong _ _ m (λ i b.
      let S = shared_after G H quota A i in
      let e = lines_same G H (skipping_choice G H skip) (house_choice G H) choice-same quota A i in
      ap (λ P. round_for G P.session (named G H (skipping_choice G H skip) i P)) e
      ∙ ap (round_for G S.session) (named-same G H (skipping_choice G H skip) (house_choice G H) choice-same i S))
