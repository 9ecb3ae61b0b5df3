-- What is handed on with an admitted input: its defined levels, and its defined layers, in arrays or slices of at least n places.
use Rattle.std.specs.Prelude.{List, ℕ, ◌≤◌, length}
use Rattle.table.specs.Table.{vertices}
use Rattle.anchored.specs.Core.{level, layer}
use Rattle.pool.specs.Input.{graph_of, anchored_by, Admitted}
use Rattle.pool.specs.Arrays.{Holds}

-- an admitted input with its levels
pub record Leveled (s l a lev : List ℕ) : Type 0 where
  pub admitted : Admitted s l a
  pub long : vertices s ≤ length lev
  pub hold : Holds lev (vertices s) (level (graph_of s l) (anchored_by a))

-- and with its layers: the level sheet
pub record Sheet (s l a lev lay : List ℕ) : Type 0 where
  pub leveled : Leveled s l a lev
  pub layers_long : vertices s ≤ length lay
  pub layers_hold : Holds lay (vertices s) (layer (graph_of s l) (anchored_by a))
