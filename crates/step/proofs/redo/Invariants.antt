-- The rows below u are done.
use Rattle.std.proofs.Common.{◌≤◌}
use Rattle.step.specs.Rows.{stale_by, rows_of, Redone, SameElsewhere}
use Rattle.step.proofs.redo.Given as goal

abbrev pub invariant-loop-u : goal.invariant-loop-u
invariant-loop-u l = record {
  few : l.redone ≤ l.u;
  rows : Redone l.starts l.links l.fn.kept.anchored l.fn.kept.reaching (stale_by l.fn.kept.anchored l.marks) l.position (rows_of l.fn.kept) (rows_of l.kept) l.redone l.u;
  rest : SameElsewhere l.fn.kept l.kept;
}
