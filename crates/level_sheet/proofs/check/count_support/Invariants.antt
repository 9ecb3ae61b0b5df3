-- each count is that of the neighbors looked at
use Rattle.finite.proofs.Count.{Counted}
use Rattle.level_sheet.specs.Faults.{stands_at}
use Rattle.level_sheet.proofs.check.count_support.Given as goal

abbrev pub invariant-loop-u : goal.invariant-loop-u
invariant-loop-u l = record {
  level : Counted (stands_at l.anchored l.levels l.layers l.lowest.level.0 l.lowest.layer.0) l.part l.u-index l.support.level;
  pair : Counted (stands_at l.anchored l.levels l.layers l.pair.level.0 l.pair.layer.0) l.part l.u-index l.support.pair;
  before : Counted (stands_at l.anchored l.levels l.layers l.before.level.0 l.before.layer.0) l.part l.u-index l.support.before;
}
