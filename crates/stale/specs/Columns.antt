-- The columns of a record that tell which rows an event makes stale.
use Rattle.std.specs.Prelude.{◌≡◌, Bool, not, ◌&&◌, ◌||◌, List, ℕ, ◌<◌, length, get_or, T, ltb, eqb}
use Rattle.finite.specs.Count.{count}
use Rattle.table.specs.Table.{vertices, neighbors}
use Rattle.anchored.specs.Graph.{Graph, Simple}
use Rattle.anchored.specs.Core.{level, layer}
use Rattle.anchored.specs.Component.{component}
use Rattle.anchored.specs.Yield.{bare_level}
use Rattle.anchored.specs.Step.{above, recomputed}
use Rattle.anchored.specs.Changed.{Tells}
use Rattle.pool.specs.Input.{graph_of}
use Rattle.pool.specs.Arrays.{Holds}
use Rattle.stale.specs.Marks.{marked, differs, inside_by}
use Rattle.stale.specs.declared.Columns.{Columns}

-- by the column of levels: w has a higher level than v, and how many neighbors of v do
abbrev pub higher_by : List ℕ → ℕ → ℕ → Bool
higher_by lev v w = ltb (get_or lev v 0) (get_or lev w 0)

abbrev pub above_by : List ℕ → List ℕ → List ℕ → ℕ → ℕ
above_by s l lev v = count (higher_by lev v) (neighbors s l v)

-- the columns are the defined ones for the anchors A; the number above an anchored vertex is left open
pub record ColumnsOf (G : Graph) (A : ℕ → Bool) (columns : Columns) : Type 0 where
  pub levels : Holds columns.level G.size (level G A)
  pub layers : Holds columns.layer G.size (layer G A)
  pub components : Holds columns.component G.size (component G A)
  pub aboves : (v : ℕ) → v < G.size → T (not (A v)) → get_or columns.above v 0 ≡ above G A v

-- what is known of an event from the graph G and the anchors A to the table's graph and B: the columns are the defined ones, a vertex that is no
-- end keeps its neighbors, the bound vertices tell of edges inside components, and the marks that the event brings are the changed bare levels
-- and the ends. Laws `anchor_known` and `edge_known`
pub record Known (s l : List ℕ) (old new : Columns) (bound marks : List ℕ) (G : Graph) (A B ends : ℕ → Bool) : Type 0 where
  pub simple : Simple G
  pub size : G.size ≡ vertices s
  pub before : ColumnsOf G A old
  pub later : ColumnsOf (graph_of s l) B new
  pub lists : (u : ℕ) → u < vertices s → T (not (ends u)) → G.neighbors u ≡ neighbors s l u
  pub tells : Tells G (graph_of s l) A B (marked bound)
  pub brought : (u : ℕ) → u < vertices s → marked marks u ≡ not (eqb (bare_level G u) (bare_level (graph_of s l) u)) || ends u

-- the marks find the rows of an event: of whatever event this is known, a row is recomputed exactly when it is marked and not anchored
abbrev pub Finds : List ℕ → List ℕ → Columns → Columns → List ℕ → List ℕ → List ℕ → Type 0
Finds s l before later bound brought marks = (G : Graph) (A B ends : ℕ → Bool) → Known s l before later bound brought G A B ends
    → (u : ℕ) → u < vertices s → recomputed G (graph_of s l) A B ends u ≡ not (B u) && marked marks u

-- what the edge between a and b brings, by the columns and the bare levels before and after
pub record Brought (n : ℕ) (before later : Columns) (bare fresh : List ℕ) (a b : ℕ) (bound marks : List ℕ) : Type 0 where
  pub bounds_long : length bound ≡ 1024
  pub marks_long : length marks ≡ 1024
  pub inside : (v : ℕ) → marked bound v ≡ inside_by before.component a b v || inside_by later.component a b v
  pub rows : (v : ℕ) → v < n → marked marks v ≡ differs bare fresh v || eqb a v || eqb b v
