use Rattle.std.proofs.Common.{get_or, arith}
use Rattle.components.proofs.Entries.{gather_more}
use Rattle.components.proofs.gather.Goals as goal

pub loop-i-preserved : goal.loop-i-preserved
loop-i-preserved c = gather_more (λ v. get_or c.args.value.now v 0) c.args.numbers.now _ _ _ (omega arith) (omega arith) c.loop-i.invariant
