-- The shells below k are done.
use Rattle.std.proofs.Common.{◌-◌, ◌≤◌}
use Rattle.table.specs.Table.{vertices}
use Rattle.pool.specs.Input.{graph_of}
use Rattle.peel.specs.Worksheet.{SameSheet, IsLong, PeelsTo}
use Rattle.peel.proofs.peel.Given as goal

abbrev pub invariant-loop-sheet : goal.invariant-loop-sheet
invariant-loop-sheet l = record {
  same_sheet : SameSheet l.initial.sheet l.sheet;
  bound : l.k ≤ vertices l.starts;
  long : IsLong l.sheet;
  peels : PeelsTo (graph_of l.starts l.links) l.anchored l.sheet l.k;
}

abbrev pub decreases-loop-sheet : goal.decreases-loop-sheet
decreases-loop-sheet l = vertices l.starts - l.k
