-- `total` counts the holders among the neighbors seen so far.
use Rattle.std.proofs.Common.{◌≡◌, ◌≤◌, take}
use Rattle.finite.specs.Count.{count}
use Rattle.cascade.specs.Cascade.{upholds}
use Rattle.cascade.proofs.count_holders.Given as goal

abbrev pub invariant-loop-p : goal.invariant-loop-p
invariant-loop-p l = record {
  few : l.total ≤ l.p-index;
  counted : l.total ≡ count (upholds l.levels l.w) (take l.p-index l.p-items);
}
