-- The links are moved over the gap, and a zero is stored behind them.
use Rattle.edit.proofs.Shifts.{closed}
use Rattle.edit.proofs.link.close.Goals as goal

pub returns : goal.returns
returns c =
    let pre = c.requires in
    let moved = c.copy_within.ensures in
    closed c.args.links.now c.args.p c.copy_within.new.self c.args.last pre.p_lt_last pre.last_in_bounds pre.by_index moved.len moved.by_index
