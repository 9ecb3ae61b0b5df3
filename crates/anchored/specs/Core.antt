-- Document 01, "Level, layer, patch": the core, levels and layers. A is the set of anchored vertices (riders retained).
use Rattle.std.specs.Prelude.{Bool, true, not, cond, ◌||◌, List, ℕ, suc, ◌≤◌, ◌<◌, length, replicate, T, leb, ltb}
use Rattle.finite.specs.Count.{count}
use Rattle.finite.specs.Search.{first, largest}
use Rattle.finite.specs.Sets.{has, keep, rounds}
use Rattle.finite.specs.Pairs.{pair_le}
use Rattle.anchored.specs.Graph.{Graph}

module _ (G : Graph) (A : ℕ → Bool) where
  -- each member of S that is not anchored has at least k neighbors in S
  abbrev pub Solid : ℕ → (ℕ → Bool) → Type 0
  Solid k S = (v : ℕ) → v < G.size → T (S v) → T (not (A v)) → k ≤ count S (G.neighbors v)

  -- one batch: of the set s, every vertex not anchored with fewer than t neighbors in s goes, all together
  unfoldable pub batch : ℕ → List Bool → List Bool
  batch t s = keep s 0 (λ v. A v || leb t (count (has s) (G.neighbors v)))

  -- the k-core: what batches leave of all vertices. Theorem `core-largest`: it is the largest solid set
  unfoldable pub core : ℕ → List Bool
  core k = rounds (batch k) G.size (replicate G.size true)

  -- the level: the largest k whose core holds v, 65,535 if v is anchored. Theorem `level_means`
  unfoldable pub level : ℕ → ℕ
  level v = cond (A v) 65535 (largest (λ k. has (core k) v) (length (G.neighbors v)))

  -- shell k after j batches: those of the k-core still present
  unfoldable pub shell : ℕ → ℕ → List Bool
  shell k j = rounds (batch (suc k)) j (core k)

  -- the layer: the batch, from 1, in which v goes from the shell of its level; 0 if v is anchored
  unfoldable pub layer : ℕ → ℕ
  layer v = cond (A v) 0 (first (λ j. not (has (shell (level v) j) v)) G.size)

  -- the pair (level, layer) of v is greater than that of w
  unfoldable pub greater : ℕ → ℕ → Bool
  greater v w = not (pair_le (level v) (layer v) (level w) (layer w))

  -- anchored, or of level above k
  unfoldable pub higher : ℕ → ℕ → Bool
  higher k w = A w || ltb k (level w)
