-- The batch waits from place i on, and the next batch stands after it.
use Rattle.std.proofs.Common.{◌≤◌, [], List, ℕ}
use Rattle.std.proofs.Math.Seq.{slice}
use Rattle.table.specs.Table.{vertices}
use Rattle.pool.specs.Input.{graph_of, Admitted}
use Rattle.peel.specs.Peeling.{Peels}
use Rattle.peel.specs.Worksheet.{SameSheet, IsLong}
use Rattle.peel.proofs.Worksheet.batch.Given as goal

abbrev pub invariant-loop-i : goal.invariant-loop-i
invariant-loop-i l =
    let old = l.fn.self in
    let now = l.self in
    record {
      same_sheet : SameSheet old now;
      grows : old.tail ≤ now.tail;
      long : IsLong now;
      moves : (a : List ℕ) → Admitted l.starts l.links a
          → Peels (graph_of l.starts l.links) a old.degree old.level.now old.layer.now l.k l.turn (slice l.head old.tail old.queue) [] [] (vertices l.starts) old.tail
          → Peels (graph_of l.starts l.links) a now.degree now.level.now now.layer.now l.k l.turn (slice l.i old.tail now.queue) (slice old.tail now.tail now.queue) [] (vertices l.starts) now.tail;
    }
