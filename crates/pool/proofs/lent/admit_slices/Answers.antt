use Rattle.std.proofs.Common.{arith, ◌∙◌, sym}
use Rattle.std.proofs.lemmas.Result.{err_from_is_err_and}
use Rattle.table.proofs.Guards.{exit, goes_on}
use Rattle.pool.specs.Lengths.{slices_of}
use Rattle.pool.proofs.Laws.{admitted}
use Rattle.pool.proofs.Lengths.{slices-lent}
use Rattle.pool.proofs.lent.admit_slices.Goals as goal

pub returns-in_err-admit : goal.returns-in_err-admit
unfolding slices_of
returns-in_err-admit c = exit _ _ _ c.admit.ensures c.in_err-admit.was (err_from_is_err_and c.from_residual.result c.from_residual.ensures.1)

pub overflow_sub-starts : goal.overflow_sub-starts
overflow_sub-starts c =
    let t = admitted c.args.starts.now c.args.links.now c.args.anchored.now (goes_on c.admit.ensures c.in_ok-admit.was) in
    omega (arith, t.table.framed.some)

pub returns-then-all_are : goal.returns-then-all_are
returns-then-all_are c = sym (slices-lent _ _ _ _ (goes_on c.admit.ensures c.in_ok-admit.was) (sym c.all_are.ensures ∙ c.if-all_are.true))

pub returns : goal.returns
returns c = rw c.new.ensures (sym (slices-lent _ _ _ _ (goes_on c.admit.ensures c.in_ok-admit.was) (sym c.all_are.ensures ∙ c.if-all_are.false)))
