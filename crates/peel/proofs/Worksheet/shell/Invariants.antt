-- The batch of the turn waits from head on; no turn is without a vertex, so turns are at most as many as vertices.
use Rattle.std.proofs.Common.{◌+◌, ◌-◌, ◌≤◌, []}
use Rattle.std.proofs.Math.Seq.{slice}
use Rattle.table.specs.Table.{vertices}
use Rattle.pool.specs.Input.{graph_of}
use Rattle.peel.specs.Peeling.{Peels}
use Rattle.peel.specs.Worksheet.{SameSheet, IsLong}
use Rattle.peel.proofs.Worksheet.shell.Given as goal

abbrev pub invariant-loop-head : goal.invariant-loop-head
invariant-loop-head l =
    let w = l.self in
    record {
      same_sheet : SameSheet l.fn.self w;
      ordered : l.head ≤ w.tail;
      within : w.tail ≤ 1024;
      turns : l.turn ≤ l.head + 1;
      long : IsLong w;
      peels : Peels (graph_of l.starts l.links) l.anchored w.degree w.level.now w.layer.now l.k l.turn (slice l.head w.tail w.queue) [] [] (vertices l.starts) w.tail;
    }

abbrev pub decreases-loop-head : goal.decreases-loop-head
decreases-loop-head l = 1024 - l.head
