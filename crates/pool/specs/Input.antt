-- What the operations on levels are handed: a table and a byte for each vertex, and refusals 1 to 10.
use Rattle.std.specs.Prelude.{Bool, not, cond, List, ℕ, ◌≤◌, ◌<◌, length, get_or, ltb, eqb}
use Rattle.table.specs.Table.{vertices, neighbors, check_of, SoundTable}
use Rattle.table.specs.Guard.{refused, refuse, past}
use Rattle.table.specs.Guard.{Guard}
use Rattle.table.specs.Guard.{clear}
use Rattle.anchored.specs.Graph.{Graph}

-- the graph of a table
abbrev pub graph_of : List ℕ → List ℕ → Graph
graph_of s l = record { size = vertices s; neighbors = neighbors s l }

-- the anchored vertices: those whose byte is 1
abbrev pub anchored_by : List ℕ → ℕ → Bool
anchored_by a v = eqb (get_or a v 0) 1

-- refusals 1 to 8 of the table, 9 for bytes not n, 10 for a byte above 1
unfoldable pub admit_of : List ℕ → List ℕ → List ℕ → Guard
admit_of s l a = past (check_of s l) (cond (not (eqb (length a) (vertices s))) (refused 9 0) (refuse 10 (λ v. ltb 1 (get_or a v 0)) (vertices s) clear))

-- what admission promises
pub record Admitted (s l a : List ℕ) : Type 0 where
  pub table : SoundTable s l
  pub long : vertices s ≤ length a
  pub bytes : (v : ℕ) → v < vertices s → get_or a v 0 ≤ 1
