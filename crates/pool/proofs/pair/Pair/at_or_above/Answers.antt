use Rattle.std.proofs.Common.{◌∙◌}
use Rattle.finite.proofs.Pairs.{pair_le-compared}
use Rattle.pool.proofs.pair.Pair.at_or_above.Goals as goal

pub returns : goal.returns
returns c = c.le.ensures ∙ pair_le-compared c.args.other.level.0 c.args.other.layer.0 c.args.self.level.0 c.args.self.layer.0
