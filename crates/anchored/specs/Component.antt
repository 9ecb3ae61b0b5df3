-- Document 01, "Level, layer, patch": components (patches).
use Rattle.std.specs.Prelude.{◌≡◌, Bool, not, cond, ◌&&◌, List, ℕ, ◌<◌, T, eqb}
use Rattle.finite.specs.Count.{In, count, below}
use Rattle.finite.specs.Search.{any, first}
use Rattle.finite.specs.Falling.{falling}
use Rattle.finite.specs.Sets.{has, having, rounds, grow}
use Rattle.anchored.specs.Graph.{Graph}
use Rattle.anchored.specs.Core.{level}

module _ (G : Graph) (A : ℕ → Bool) where
  -- an edge inside a component: two neighbors, not anchored, of one level; Joined: a walk of such edges
  pub data Joined (v : ℕ) : ℕ → Type 0 where
    stay : {w : ℕ} → v ≡ w → Joined v w
    hop : {w z : ℕ} → Joined v w → z < G.size → T (not (A z)) → In w (G.neighbors z) → level G A w ≡ level G A z → Joined v z

  -- v joins s: it is not anchored and has a neighbor of its level in s
  unfoldable pub joins : List Bool → ℕ → Bool
  joins s v = not (A v) && any (λ w. has s w && eqb (level G A w) (level G A v)) (G.neighbors v)

  -- the component of v, grown from v. Theorem `component_iff`: two vertices have one number exactly when joined
  unfoldable pub around : ℕ → List Bool
  around v = rounds (grow G.size joins) G.size (having (λ w. eqb v w && not (A w)) G.size)

  -- its number: the lowest vertex in it; 65,535 if v is anchored
  unfoldable pub component : ℕ → ℕ
  component v = cond (A v) 65535 (first (has (around v)) G.size)

  -- w is in the component of v
  unfoldable pub together : ℕ → ℕ → Bool
  together v w = not (A w) && eqb (component v) (component w)

  -- v is its component's number
  unfoldable pub heads : ℕ → Bool
  heads v = eqb (component v) v

  unfoldable pub component_size : ℕ → ℕ
  component_size v = count (together v) (below G.size)

  -- the component list (patch list) in document 02's order: by falling level, then by rising number. Every level is below the size
  unfoldable pub ranked : List ℕ
  ranked = falling (level G A) heads G.size G.size
