use Rattle.std.proofs.Common.{arith, ◌≡◌, ◌+◌, get_or}
use Rattle.table.proofs.Pairing.{walk_more, walk_end}
use Rattle.table.proofs.paired.pair_lower.Goals as goal

pub loop-at-preserved : goal.loop-at-preserved
loop-at-preserved c =
    let a = c.args in
    walk_more a.starts.now a.links.now c.requires.framed a.v c.requires.v_bound.0 c.loop-at.next c.loop-at.at c.loop-at.least c.loop-at.invariant (omega arith) (omega arith) (omega arith) (omega arith) (omega arith)

pub returns : goal.returns
returns c = λ e.
    let a = c.args in
    let done : get_or a.starts.now (a.v + 1) 0 ≡ c.loop-at.at = omega (arith, c.requires.framed.step a.v c.requires.v_bound.0) in
    rw done (walk_end a.starts.now a.links.now c.requires.framed a.v c.requires.v_bound.0 c.loop-at.next c.loop-at.at c.loop-at.least c.loop-at.invariant)
