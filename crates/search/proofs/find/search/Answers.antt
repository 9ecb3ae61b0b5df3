use Rattle.std.proofs.Common.{arith}
use Rattle.table.specs.Table.{vertices}
use Rattle.candidates.proofs.Reaching.{queue_start}
use Rattle.search.proofs.Parts.{reached_is, found-marks, found-counts}
use Rattle.search.proofs.find.search.Goals as goal

pub reach-requires-clause-queued : goal.reach-requires-clause-queued
reach-requires-clause-queued c = rw c.new-queue.ensures.places (queue_start (vertices c.args.starts.now) 1024 c.requires.sheet.leveled.admitted.table.small)

-- the candidates are the followers and those struck out
pub overflow_sub-lifted : goal.overflow_sub-lifted
overflow_sub-lifted c = omega (arith, found-counts c.requires.sheet.leveled c.reach.ensures c.weigh.ensures.candidates c.weigh.ensures.counted c.settle.ensures)

pub returns : goal.returns
returns c =
    let leveled = c.requires.sheet.leveled in
    let all = c.weigh.ensures.candidates in
    let counted = c.weigh.ensures.counted in
    record {
      marks = found-marks leveled c.reach.ensures all counted c.settle.ensures;
      lifted = omega (arith, found-counts leveled c.reach.ensures all counted c.settle.ensures);
      reached = reached_is c.reach.ensures;
    }
