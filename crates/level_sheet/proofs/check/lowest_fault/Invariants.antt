-- the fault is the lowest of the entries before v
use Rattle.level_sheet.specs.Faults.{fault_of, number_or_none, place_or_0, IsNumbered, Lowest}
use Rattle.level_sheet.proofs.check.lowest_fault.Given as goal

abbrev pub invariant-loop-v : goal.invariant-loop-v
invariant-loop-v l = record {
  numbered : IsNumbered l.lowest;
  low : Lowest (fault_of l.starts l.links l.anchored l.levels l.layers) l.v (number_or_none l.lowest) (place_or_0 l.lowest);
}
