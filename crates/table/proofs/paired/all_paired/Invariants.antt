-- the links between the vertices below v are paired
use Rattle.table.specs.Paired.{Paired}
use Rattle.table.proofs.paired.all_paired.Given as goal

abbrev pub invariant-loop-v : goal.invariant-loop-v
invariant-loop-v l = Paired l.starts l.links l.v l.next
