-- The component list (patch list): its answer, and its three lists.
use Rattle.std.specs.Prelude.{List, map, ℕ, Result, Ok, Err}
use Rattle.finite.specs.Count.{count, below}
use Rattle.table.specs.Table.{vertices}
use Rattle.table.specs.Size.{size_of}
use Rattle.table.specs.Guard.{answer}
use Rattle.anchored.specs.Core.{level}
use Rattle.anchored.specs.Component.{heads, component_size, ranked}
use Rattle.pool.specs.Input.{graph_of, anchored_by}
use Rattle.pool.specs.Lengths.{slices_of}
use Rattle.table.specs.Rule.{Refusal}
use Rattle.table.specs.declared.size.Size.{Size}

-- refused as the working of the sheet is; else how many components there are, and the size of the table
unfoldable pub list_of : List ℕ → List ℕ → List ℕ → List ℕ → Result (ℕ × Size) Refusal
list_of s l a lengths = answer (slices_of s l a lengths) (Ok (count (heads (graph_of s l) (anchored_by a)) (below (vertices s)), size_of s l)) Err

module _ (s l a : List ℕ) where
  -- the numbers of the component list
  abbrev pub numbers_of : List ℕ
  numbers_of = ranked (graph_of s l) (anchored_by a)

  -- its levels
  abbrev pub levels_of : List ℕ
  levels_of = map (level (graph_of s l) (anchored_by a)) numbers_of

  -- its sizes
  abbrev pub sizes_of : List ℕ
  sizes_of = map (component_size (graph_of s l) (anchored_by a)) numbers_of
