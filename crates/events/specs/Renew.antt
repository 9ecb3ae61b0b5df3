-- The record worked on for a table in which one edge is new or gone.
use Rattle.std.specs.Prelude.{◌≡◌, not, List, ℕ, ◌<◌, T}
use Rattle.table.specs.Table.{vertices, neighbors}
use Rattle.anchored.specs.Graph.{Graph, Simple}
use Rattle.anchored.specs.Edge.{either, Parted}
use Rattle.anchored.specs.Yield.{bare_level}
use Rattle.anchored.specs.Step.{recomputed}
use Rattle.pool.specs.Input.{graph_of, anchored_by}
use Rattle.pool.specs.Arrays.{Holds}
use Rattle.stale.specs.Columns.{ColumnsOf}
use Rattle.stale.specs.declared.Columns.{Columns}
use Rattle.records.specs.declared.Record.{Record}
use Rattle.step.specs.Rows.{stale_by, rows_of, Redone}
use Rattle.step.specs.declared.Stepped.{Stepped}

-- the record was worked out for G, in which the edge (a, b) alone is other than in the table
pub record Before (s l : List ℕ) (a b : ℕ) (kept : Record) (G : Graph) : Type 0 where
  pub simple : Simple G
  pub size : G.size ≡ vertices s
  pub parted : Parted G (graph_of s l) a b
  pub lists : (u : ℕ) → u < vertices s → T (not (either a b u)) → G.neighbors u ≡ neighbors s l u
  pub columns : ColumnsOf G (anchored_by kept.anchored) kept.columns
  pub bares : Holds kept.bare (vertices s) (bare_level G)

-- the marks find the rows that the edge makes stale, by the columns and bare levels of the table
abbrev pub Finds : List ℕ → List ℕ → ℕ → ℕ → Record → Columns → List ℕ → List ℕ → Type 0
Finds s l a b kept columns bare marks = let A = anchored_by kept.anchored in ColumnsOf (graph_of s l) A columns → Holds bare (vertices s) (bare_level (graph_of s l))
    → (G : Graph) → Before s l a b kept G → (u : ℕ) → u < vertices s → recomputed G (graph_of s l) A A (either a b) u ≡ stale_by kept.anchored marks u

-- what is worked: the columns and bare levels of the table, and of whatever graph the record was worked out for, the rows that the edge
-- makes stale, counted afresh and stamped
pub record Renews (s l : List ℕ) (a b position : ℕ) (kept : Record) (left : Stepped) : Type 0 where
  pub bytes : left.kept.anchored ≡ kept.anchored
  pub reaching : left.kept.reaching ≡ kept.reaching
  pub columns : ColumnsOf (graph_of s l) (anchored_by kept.anchored) left.kept.columns
  pub bares : Holds left.kept.bare (vertices s) (bare_level (graph_of s l))
  pub status : left.row.status ≡ 0
  pub lifted : left.row.lifted ≡ 0
  pub rows : (G : Graph) → Before s l a b kept G → let A = anchored_by kept.anchored in
      Redone s l kept.anchored kept.reaching (recomputed G (graph_of s l) A A (either a b)) position (rows_of kept) (rows_of left.kept) left.row.redone (vertices s)
