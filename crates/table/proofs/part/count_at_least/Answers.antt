use Rattle.std.proofs.Common.{leb, get_or, arith}
use Rattle.finite.proofs.Count.{bit_le, count-start, count-more}
use Rattle.table.proofs.part.count_at_least.Goals as goal

pub loop-w-init : goal.loop-w-init
loop-w-init c = omega (arith, count-start (leb c.args.least) c.args.part.now)

pub loop-w-preserved : goal.loop-w-preserved
loop-w-preserved c =
    let args = c.args in
    let i = c.loop-w.w-index in
    omega (arith, count-more (leb args.least) args.part.now i c.loop-w-test.true, bit_le (leb args.least (get_or args.part.now i 0)))
