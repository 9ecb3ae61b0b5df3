-- The vertices before `head` are expanded.
use Rattle.std.proofs.Common.{◌≤◌, ◌-◌, take}
use Rattle.table.specs.Table.{vertices}
use Rattle.pool.specs.Input.{graph_of, anchored_by}
use Rattle.candidates.specs.Reaching.{Queued}
use Rattle.candidates.proofs.Reaching.{Reaching}
use Rattle.candidates.proofs.reach.Given as goal

abbrev pub invariant-loop-head : goal.invariant-loop-head
invariant-loop-head l = record {
  bound : l.head ≤ l.queue.tail;
  queued : Queued (vertices l.starts) l.marks l.queue.places l.queue.tail;
  reaching : Reaching (graph_of l.starts l.links) (anchored_by l.anchored) l.x (take l.queue.tail l.queue.places) l.head;
}

abbrev pub decreases-loop-head : goal.decreases-loop-head
decreases-loop-head l = vertices l.starts - l.head
