-- Document 02, card 6: an edge (pair) added to a graph, or dropped from it.
use Rattle.std.specs.Prelude.{◌≡◌, Bool, cond, ◌||◌, List, ℕ, ◌<◌, length, eqb}
use Rattle.finite.specs.Count.{sum, below}
use Rattle.finite.specs.Search.{member}
use Rattle.finite.specs.Edits.{insert, remove}
use Rattle.anchored.specs.Graph.{Graph}

-- v is one of the two
abbrev pub either : ℕ → ℕ → ℕ → Bool
either a b v = eqb a v || eqb b v

-- b put into, or taken out of, the neighbors of a, and a those of b
abbrev pub edited : (ℕ → List ℕ → List ℕ) → Graph → ℕ → ℕ → Graph
edited edit G a b = record {
  size = G.size;
  neighbors = λ v. cond (eqb a v) (edit b (G.neighbors v)) (cond (eqb b v) (edit a (G.neighbors v)) (G.neighbors v));
}

abbrev pub with_edge : Graph → ℕ → ℕ → Graph
with_edge = edited insert

abbrev pub without_edge : Graph → ℕ → ℕ → Graph
without_edge = edited remove

-- the number of links of its table: two for each edge
unfoldable pub link_count : Graph → ℕ
link_count G = sum (λ v. length (G.neighbors v)) (below G.size)

-- the graphs differ in the edge (a, b), and in no other
pub record Parted (G H : Graph) (a b : ℕ) : Type 0 where
  pub first : a < G.size
  pub second : b < G.size
  pub parted : member b (G.neighbors a) ≡ member b (H.neighbors a) → ⊥
  pub others : (v w : ℕ) → v < G.size → ((a ≡ v) × (b ≡ w) → ⊥) → ((b ≡ v) × (a ≡ w) → ⊥) → member w (G.neighbors v) ≡ member w (H.neighbors v)
