-- What a collapse leaves in the lent marks; its refusals are `marking_of`, those of every operation that marks for a sheet and a vertex.
use Rattle.std.specs.Prelude.{List, ℕ}
use Rattle.finite.specs.Count.{tabulate}
use Rattle.table.specs.Table.{vertices}
use Rattle.anchored.specs.Collapse.{fall_mark}
use Rattle.pool.specs.Input.{graph_of, anchored_by}

-- 1 for those whose level falls with x collapsed, 0 for all others
abbrev pub fall_marks_of : List ℕ → List ℕ → List ℕ → ℕ → List ℕ
fall_marks_of s l a x = tabulate (fall_mark (graph_of s l) (anchored_by a) x) (vertices s)
