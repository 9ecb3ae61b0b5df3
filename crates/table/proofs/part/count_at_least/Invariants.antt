-- those at or above `least` among the numbers so far
use Rattle.std.proofs.Common.{◌≡◌, ◌≤◌, take}
use lib.Dec.{leb}
use Rattle.finite.specs.Count.{count}
use Rattle.table.proofs.part.count_at_least.Given as goal

abbrev pub invariant-loop-w : goal.invariant-loop-w
invariant-loop-w l = record {
  few : l.count ≤ l.w-index;
  counted : l.count ≡ count (leb l.least) (take l.w-index l.part);
}
