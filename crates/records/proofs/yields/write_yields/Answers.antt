use Rattle.std.proofs.Common.{arith, rules, w16}
use Rattle.std.proofs.lemmas.Int.{to_z-of_z}
use Rattle.finite.proofs.Count.{fill_none, fill_more}
use Rattle.records.specs.Yield.{yield_at}
use Rattle.records.proofs.yields.write_yields.Goals as goal

pub loop-v-init : goal.loop-v-init
loop-v-init c = fill_none _ _

pub loop-v-preserved : goal.loop-v-preserved
loop-v-preserved c =
    let at = c.loop-v in
    let yields = yield_at c.args.kept.now in
    rw (to_z-of_z w16 c.net_yield.result (search rules), c.net_yield.ensures) (fill_more yields c.args.yields.now at.yields at.v at.invariant (omega arith))
