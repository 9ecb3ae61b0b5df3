-- w stands at the place found, so the starts behind v are above 0.
use Rattle.std.proofs.Common.{rules, arith}
use Rattle.edit.proofs.Places.{place-within, place_inside, starts-positive, taken_table}
use Rattle.edit.proofs.Shifts.{lowered}
use Rattle.edit.proofs.link.take.Goals as goal

pub change_behind-requires-clause-callable : goal.change_behind-requires-clause-callable
change_behind-requires-clause-callable c i a b =
    let pre = c.requires in
    let some = starts-positive pre.padded c.args.v c.args.w pre.v_bound pre.t pre.fact i a b in
    search rules

pub close-requires-clause-p_lt_last : goal.close-requires-clause-p_lt_last
close-requires-clause-p_lt_last c =
    let pre = c.requires in
    let r = place-within pre.padded c.args.v c.args.w pre.v_bound in
    omega (arith, c.find-p.ensures, r.1, place_inside pre.padded c.args.v c.args.w pre.v_bound pre.t pre.fact)

pub returns : goal.returns
returns c =
    let pre = c.requires in
    let h = c.change_behind.ensures in
    let starts = lowered c.args.starts.now c.change_behind.new.starts c.args.v h.long h.before (λ i a b. search (rules, h.behind i a b)) in
    taken_table pre.padded c.args.v c.args.w pre.v_bound pre.t pre.fact starts (rw c.find-p.ensures at c.close.ensures)
