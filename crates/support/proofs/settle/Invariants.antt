-- Those struck out before `head`, and the one there from its neighbors seen so far, are counted off.
use Rattle.std.proofs.Common.{◌≡◌, ◌≤◌, ◌<◌, ◌+◌, ◌-◌, take, get_or}
use Rattle.table.specs.Table.{vertices, neighbors as neighbors_of}
use Rattle.support.specs.Striking.{marked, state_of, loss_of}
use Rattle.support.proofs.Striking.{Striking, lost_to}
use Rattle.support.proofs.settle.Given as goal

abbrev pub invariant-loop-head : goal.invariant-loop-head
invariant-loop-head l = record {
  bound : l.head ≤ l.support.struck.tail;
  striking : Striking l.starts l.links l.levels (λ v. get_or l.fn.support.counts v 0) (marked l.fn.marks)
      (loss_of l.starts l.links l.levels (take l.head l.support.struck.places)) (state_of l.marks l.support);
}

abbrev pub decreases-loop-head : goal.decreases-loop-head
decreases-loop-head l = vertices l.starts - l.head

abbrev pub invariant-loop-w : goal.invariant-loop-w
invariant-loop-w l = record {
  waits : l.head < l.support.struck.tail;
  front : take (l.head + 1) l.support.struck.places ≡ take (l.head + 1) l.initial.support.struck.places;
  striking : Striking l.starts l.links l.levels (λ v. get_or l.fn.support.counts v 0) (marked l.fn.marks)
      (lost_to l.starts l.links l.levels (take l.head l.initial.support.struck.places) l.u (take l.w-index (neighbors_of l.starts l.links l.u))) (state_of l.marks l.support);
}
