-- The links are moved, and one is stored in the gap.
use Rattle.edit.proofs.Shifts.{opened}
use Rattle.edit.proofs.link.open.Goals as goal

pub returns : goal.returns
returns c =
    let pre = c.requires in
    let moved = c.copy_within.ensures in
    opened c.args.links.now c.args.p c.args.w c.copy_within.new.self c.args.last pre.p_le_last pre.last_in_bounds pre.by_index moved.len moved.by_index
