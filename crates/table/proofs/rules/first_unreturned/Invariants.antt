-- every vertex below v is listed by its neighbors
use Rattle.finite.specs.Search.{NoneBelow}
use Rattle.table.specs.Table.{unreturned}
use Rattle.table.proofs.rules.first_unreturned.Given as goal

abbrev pub invariant-loop-v : goal.invariant-loop-v
invariant-loop-v l = NoneBelow (unreturned l.starts l.links) l.v
