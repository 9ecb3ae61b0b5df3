-- The pool as a graph: vertices (riders) 0 to size - 1, each with its neighbors (partners).
use Rattle.std.specs.Prelude.{List, ℕ, ◌<◌}
use Rattle.finite.specs.Count.{In, Distinct}

pub record Graph : Type 0 where
  pub size : ℕ
  pub neighbors : ℕ → List ℕ

-- what the table check promises: pairs are mutual and nobody is his own partner
pub record Simple (G : Graph) : Type 0 where
  pub range : (v w : ℕ) → v < G.size → In w (G.neighbors v) → w < G.size
  pub loopless : (v : ℕ) → v < G.size → In v (G.neighbors v) → ⊥
  pub distinct : (v : ℕ) → v < G.size → Distinct (G.neighbors v)
  pub symmetric : (v w : ℕ) → v < G.size → In w (G.neighbors v) → In v (G.neighbors w)
