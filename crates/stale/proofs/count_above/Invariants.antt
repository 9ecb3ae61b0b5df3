-- those above among the neighbors so far
use Rattle.std.proofs.Common.{◌≡◌, ◌≤◌, take}
use Rattle.finite.specs.Count.{count}
use Rattle.stale.specs.Columns.{higher_by}
use Rattle.stale.proofs.count_above.Given as goal

abbrev pub invariant-loop-w : goal.invariant-loop-w
invariant-loop-w l = record {
  few : l.count ≤ l.w-index;
  counted : l.count ≡ count (higher_by l.level l.v) (take l.w-index l.w-items);
}
