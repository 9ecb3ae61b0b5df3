use Rattle.std.proofs.Common.{ap, ◌∙◌, arith}
use Rattle.finite.specs.Count.{bit, count}
use Rattle.finite.proofs.Count.{bit_le, count-start, count-more, count-end}
use Rattle.stale.specs.Columns.{higher_by}
use Rattle.stale.proofs.Stale.{near_part}
use Rattle.stale.proofs.count_above.Goals as goal

pub loop-w-init : goal.loop-w-init
loop-w-init c = omega (arith, count-start (higher_by c.args.level.now c.args.v) c.neighbors-w-items.result.now)

pub is_higher-requires-clause-p_in_bounds : goal.is_higher-requires-clause-p_in_bounds
is_higher-requires-clause-p_in_bounds c =
    let part = c.neighbors-w-items in
    omega (arith, near_part c.requires.sound_table c.args.v c.requires.v_bound part.result.now part.ensures c.loop-w.w-index 0 (omega arith))

pub overflow_add-count : goal.overflow_add-count
overflow_add-count c = omega (arith, bit_le c.is_higher.result)

pub loop-w-preserved : goal.loop-w-preserved
loop-w-preserved c =
    let step = count-more (higher_by c.args.level.now c.args.v) c.neighbors-w-items.result.now c.loop-w.w-index (omega arith) in
    omega (arith, step, ap bit (rw c.from.ensures at c.is_higher.ensures), bit_le c.is_higher.result)

pub returns : goal.returns
returns c =
    let test = higher_by c.args.level.now c.args.v in
    let part = c.neighbors-w-items in
    c.loop-w.invariant.counted ∙ count-end test part.result.now c.loop-w.w-index (omega arith) ∙ ap (count test) part.ensures
