use Rattle.std.proofs.Common.{◌≡◌, ◌∙◌, ap, not}
use Rattle.finite.specs.Pairs.{pair_le}
use Rattle.finite.proofs.Pairs.{pair-zero-not}
use Rattle.pool.proofs.pair.is_lower.Goals as goal

pub returns : goal.returns
returns c =
    let args = c.args in
    let bound = c.new-bound.ensures in
    let own = c.new-own.ensures in
    let e : c.at_or_above.result ≡ pair_le args.other 0 args.level 0 = c.at_or_above.ensures ∙ rw (bound.level, bound.layer, own.level, own.layer) in
    ap not e ∙ pair-zero-not args.other args.level 0
