-- The candidates seen so far are weighed.
use Rattle.table.specs.Table.{vertices}
use Rattle.support.specs.Striking.{state_of}
use Rattle.support.proofs.Striking.{Weighing, support_in}
use Rattle.support.proofs.weigh.Given as goal

abbrev pub invariant-loop-next : goal.invariant-loop-next
invariant-loop-next l =
    Weighing (vertices l.starts) l.levels (support_in l.starts l.links l.anchored l.levels l.x l.next-items) l.next-items l.next-index (state_of l.marks l.support)
