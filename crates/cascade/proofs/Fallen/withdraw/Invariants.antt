-- u, at `head`, is withdrawn from its neighbors before this one
use Rattle.std.proofs.Common.{◌≡◌}
use Rattle.cascade.proofs.Withdrawing.{Telling}
use Rattle.cascade.proofs.Fallen.withdraw.Given as goal

abbrev pub invariant-loop-w : goal.invariant-loop-w
invariant-loop-w l = record {
  same_reference : l.self.support.ghost_name ≡ l.initial.self.support.ghost_name;
  telling : Telling l.starts l.links l.anchored l.levels l.x l.head l.u l.w-index l.self.support.now l.self.list l.self.end;
}
