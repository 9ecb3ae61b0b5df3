use Rattle.std.proofs.Common.{length, ap, arith}
use Rattle.finite.specs.Count.{bit}
use Rattle.finite.proofs.Count.{bit_le, count-start, count-more}
use Rattle.table.proofs.Laws.{neighbors-few}
use Rattle.candidates.proofs.Reaching.{neighbor_at}
use Rattle.support.specs.Striking.{supports_of, marked}
use Rattle.support.proofs.count_supporters.Goals as goal

pub loop-p-init : goal.loop-p-init
loop-p-init c =
    let args = c.args in
    record {
      bound = omega arith;
      counted = omega (arith, count-start (supports_of args.anchored.now args.levels.now (marked args.marks.now) args.x args.v) c.neighbors-p-items.result.now);
    }

pub supports-requires : goal.supports-requires
supports-requires c =
    let leveled = c.requires.leveled in
    let table = leveled.admitted.table in
    omega (arith, leveled.admitted.long, neighbor_at table c.args.v c.requires.v_bound c.neighbors-p-items.ensures c.loop-p.p-index c.loop-p-test.true)

pub overflow_add-total : goal.overflow_add-total
overflow_add-total c =
    let table = c.requires.leveled.admitted.table in
    let few = ap length c.neighbors-p-items.ensures in
    omega (arith, bit_le c.supports.result, few, neighbors-few c.args.starts.now c.args.links.now table c.args.v c.requires.v_bound)

pub loop-p-preserved : goal.loop-p-preserved
loop-p-preserved c =
    let args = c.args in
    let test = supports_of args.anchored.now args.levels.now (marked args.marks.now) args.x args.v in
    let bit_is = ap bit c.supports.ensures in
    record {
      bound = omega (arith, bit_le c.supports.result);
      counted = omega (arith, count-more test c.neighbors-p-items.result.now c.loop-p.p-index c.loop-p-test.true);
    }
