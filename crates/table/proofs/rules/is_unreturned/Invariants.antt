-- the neighbors looked at list v
use Rattle.finite.specs.Search.{NoneBelow, member}
use Rattle.table.specs.Table.{neighbors}
use lib.ListN.{get_or}
use Rattle.std.proofs.Common.{not}
use Rattle.table.proofs.rules.is_unreturned.Given as goal

abbrev pub invariant-loop-u : goal.invariant-loop-u
invariant-loop-u l = NoneBelow (λ i. not (member l.v (neighbors l.starts l.links (get_or (neighbors l.starts l.links l.v) i 0)))) l.u-index
