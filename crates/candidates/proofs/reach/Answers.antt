use Rattle.std.proofs.Common.{get_or, arith, false}
use lib.Seq.{get_or-take}
use Rattle.table.specs.Table.{neighbors as neighbors_of}
use Rattle.candidates.specs.Reaching.{steps_of}
use Rattle.candidates.proofs.Reaching.{queue_length, queue_within, queue_vertex, queue_grows, reach_first, reach_next, reach_end}
use Rattle.candidates.proofs.reach.Goals as goal

pub loop-head-init : goal.loop-head-init
loop-head-init c = record {
  bound = omega arith;
  queued = c.expand.ensures.queued;
  reaching = let e = c.expand.ensures.pushed in rw e (reach_first c.requires.sheet c.args.x c.requires.x_bound);
}

pub offset_bounds-queue-head : goal.offset_bounds-queue-head
offset_bounds-queue-head c = omega (arith, queue_within c.loop-head.invariant.queued, c.requires.sheet.leveled.admitted.table.small)

pub expand-requires-in-loop-head-clause-u_bound : goal.expand-requires-in-loop-head-clause-u_bound
expand-requires-in-loop-head-clause-u_bound c = queue_vertex c.loop-head.invariant.queued c.loop-head.head c.loop-head-test.true

pub loop-head-smaller : goal.loop-head-smaller
loop-head-smaller c = omega (arith, queue_within c.loop-head.invariant.queued)

pub loop-head-preserved : goal.loop-head-preserved
loop-head-preserved c =
    let at = c.loop-head in
    let args = c.args in
    let queued = c.expand-in-loop-head.ensures.queued in
    let e = c.expand-in-loop-head.ensures.pushed in
    let u = get_or at.queue.places at.head 0 in
    let test = steps_of args.anchored.now args.levels.now args.layers.now false u in
    let part = neighbors_of args.starts.now args.links.now u in
    record {
      bound = omega (arith, queue_grows at.invariant.queued queued test part e);
      queued = queued;
      reaching = rw e (reach_next c.requires.sheet args.x c.requires.x_bound at.invariant.reaching (omega (arith, queue_length at.invariant.queued)) u (get_or-take at.queue.tail at.queue.places at.head 0 c.loop-head-test.true));
    }

pub returns : goal.returns
returns c =
    let at = c.loop-head in
    record {
      queued = at.invariant.queued;
      all = reach_end c.requires.sheet c.args.x c.requires.x_bound at.invariant.reaching (omega (arith, queue_length at.invariant.queued));
    }
