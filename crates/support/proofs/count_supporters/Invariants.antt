-- `total` counts the supporters among the neighbors seen so far.
use Rattle.std.proofs.Common.{◌≡◌, ◌≤◌, take}
use Rattle.finite.specs.Count.{count}
use Rattle.support.specs.Striking.{supports_of, marked}
use Rattle.support.proofs.count_supporters.Given as goal

abbrev pub invariant-loop-p : goal.invariant-loop-p
invariant-loop-p l = record {
  bound : l.total ≤ l.p-index;
  counted : l.total ≡ count (supports_of l.anchored l.levels (marked l.marks) l.x l.v) (take l.p-index l.p-items);
}
