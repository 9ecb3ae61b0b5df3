-- The place is among the neighbors of v, and the starts leave room.
use Rattle.std.proofs.Common.{rules, arith}
use Rattle.edit.proofs.Places.{place-within, put_table}
use Rattle.edit.proofs.Shifts.{raised}
use Rattle.edit.proofs.link.put.Goals as goal

pub open-requires-clause-p_le_last : goal.open-requires-clause-p_le_last
open-requires-clause-p_le_last c =
    let r = place-within c.requires.padded c.args.v c.args.w c.requires.v_bound in
    omega (arith, c.find-p.ensures, r.0, r.1)

pub returns : goal.returns
returns c =
    let pre = c.requires in
    let h = c.change_behind.ensures in
    let starts = raised c.args.starts.now c.change_behind.new.starts c.args.v h.long h.before (λ i a b. search (rules, h.behind i a b)) in
    put_table pre.padded c.args.v c.args.w pre.v_bound pre.starts_in_bounds pre.fact starts (rw c.find-p.ensures at c.«open».ensures)
