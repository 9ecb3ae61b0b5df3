-- The queue is that of the visit of the neighbors seen so far.
use Rattle.std.proofs.Common.{◌≡◌, take}
use Rattle.table.specs.Table.{vertices}
use Rattle.candidates.specs.Reaching.{is_first, steps_of, visit_all, Queued}
use Rattle.candidates.proofs.expand.Given as goal

abbrev pub invariant-loop-next : goal.invariant-loop-next
invariant-loop-next l = record {
  queued : Queued (vertices l.starts) l.marks l.queue.places l.queue.tail;
  visited : take l.queue.tail l.queue.places
      ≡ visit_all (steps_of l.anchored l.levels l.layers (is_first l.step) l.u) (take l.initial.queue.tail l.initial.queue.places) (take l.next-index l.next-items);
}
