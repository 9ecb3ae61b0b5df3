-- Document 02, card 7: the size of a table (pool), which is how many edges (pairs) it has and the greatest degree (the most partners anyone has).
use Rattle.std.specs.Prelude.{◌≡◌, Bool, ◌&&◌, List, ℕ, ◌+◌, ◌≤◌, ◌<◌, length, ltb}
use Rattle.finite.specs.Count.{below, count, sum}
use Rattle.finite.specs.Search.{member, greatest_of}
use Rattle.table.specs.Table.{vertices, neighbors}
use Rattle.table.specs.declared.size.Size.{Size}

-- u, the lower one, and v list each other
abbrev pub edge : List ℕ → List ℕ → ℕ → ℕ → Bool
edge s l u v = ltb u v && (member v (neighbors s l u) && member u (neighbors s l v))

-- how many such pairs of vertices there are
unfoldable pub edges_of : List ℕ → List ℕ → ℕ
edges_of s l = sum (λ u. count (edge s l u) (below (vertices s))) (below (vertices s))

-- how many neighbors v has
abbrev pub degree_of : List ℕ → List ℕ → ℕ → ℕ
degree_of s l v = length (neighbors s l v)

-- both; the greatest of no degrees is 0
unfoldable pub size_of : List ℕ → List ℕ → Size
size_of s l = record { edges = edges_of s l; max_degree = greatest_of (degree_of s l) (vertices s) }

-- what the size of a table that passes the check says of it (law `measured`)
pub record Measures (s l : List ℕ) (size : Size) : Type 0 where
  -- each edge stands twice among the links: the edges are half as many
  pub twice : size.edges + size.edges ≡ length l
  -- some vertex has the greatest degree, and none exceeds it
  pub attained : 0 < vertices s → (v : ℕ) × (v < vertices s) × (degree_of s l v ≡ size.max_degree)
  pub bounds : (v : ℕ) → v < vertices s → degree_of s l v ≤ size.max_degree
  -- both are 0 for no vertices, and never above 8,192 and 1,023
  pub no_edges : vertices s ≡ 0 → size.edges ≡ 0
  pub no_degree : vertices s ≡ 0 → size.max_degree ≡ 0
  pub few : size.edges ≤ 8192
  pub small : size.max_degree ≤ 1023
