use Rattle.std.proofs.Common.{arith}
use Rattle.finite.proofs.Count.{in_at, counted-none, counted_more, counted-all}
use Rattle.level_sheet.specs.Faults.{stands_at}
use Rattle.level_sheet.proofs.check.count_support.Goals as goal

pub loop-u-init : goal.loop-u-init
loop-u-init c = record { level = counted-none _ c.args.part.now; pair = counted-none _ c.args.part.now; before = counted-none _ c.args.part.now }

pub stands_at-requires : goal.stands_at-requires
stands_at-requires c = c.requires.by_index _ (in_at c.args.part.now c.loop-u.u-index 0 (omega arith))

pub stands_at-requires-in-loop-u : goal.stands_at-requires-in-loop-u
stands_at-requires-in-loop-u c = c.requires.by_index _ (in_at c.args.part.now c.loop-u.u-index 0 (omega arith))

pub stands_at-requires-in-loop-u-2 : goal.stands_at-requires-in-loop-u-2
stands_at-requires-in-loop-u-2 c = c.requires.by_index _ (in_at c.args.part.now c.loop-u.u-index 0 (omega arith))

pub loop-u-preserved : goal.loop-u-preserved
loop-u-preserved c =
    let part = c.args.part.now in
    let i = c.loop-u.u-index in
    record {
      level = counted_more _ part i _ c.stands_at.result (omega arith) c.stands_at.ensures c.loop-u.invariant.level;
      pair = counted_more _ part i _ c.stands_at-in-loop-u.result (omega arith) c.stands_at-in-loop-u.ensures c.loop-u.invariant.pair;
      before = counted_more _ part i _ c.stands_at-in-loop-u-2.result (omega arith) c.stands_at-in-loop-u-2.ensures c.loop-u.invariant.before;
    }

pub returns : goal.returns
returns c =
    let part = c.args.part.now in
    let i = c.loop-u.u-index in
    let stands = stands_at c.args.anchored.now c.args.levels.now c.args.layers.now in
    record {
      level = rw (← c.new-lowest.ensures.level) (rw c.new-lowest.ensures.layer at (counted-all (stands c.new-lowest.result.level.0 c.new-lowest.result.layer.0) part i _ (omega arith) c.loop-u.invariant.level));
      pair = counted-all _ part i _ (omega arith) c.loop-u.invariant.pair;
      before = rw (← c.new-before.ensures.level) (rw c.new-before.ensures.layer at (counted-all (stands c.new-before.result.level.0 c.new-before.result.layer.0) part i _ (omega arith) c.loop-u.invariant.before));
    }
