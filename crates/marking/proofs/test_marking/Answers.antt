use Rattle.std.proofs.Common.{arith, ◌∙◌, sym}
use Rattle.std.proofs.lemmas.Result.{err_from_is_err_and}
use Rattle.table.proofs.Guards.{exit, goes_on}
use Rattle.pool.proofs.Laws.{admitted}
use Rattle.marking.specs.Marking.{marking_of}
use Rattle.marking.proofs.Marking.{marking-room, marking-vertex}
use Rattle.marking.proofs.test_marking.Goals as goal

pub returns-in_err-admit : goal.returns-in_err-admit
unfolding marking_of
returns-in_err-admit c = exit _ _ _ c.admit.ensures c.in_err-admit.was (err_from_is_err_and c.from_residual.result c.from_residual.ensures.1)

pub overflow_sub-starts : goal.overflow_sub-starts
overflow_sub-starts c = let given = admitted _ _ _ (goes_on c.admit.ensures c.in_ok-admit.was) in omega (arith, given.table.framed.some)

pub returns-then-room-starts : goal.returns-then-room-starts
returns-then-room-starts c = rw c.new.ensures (sym (marking-room _ _ _ _ _ _ _ (goes_on c.admit.ensures c.in_ok-admit.was) c.if-room-starts.true))

pub test_vertex-requires : goal.test_vertex-requires
test_vertex-requires c = admitted _ _ _ (goes_on c.admit.ensures c.in_ok-admit.was)

pub returns : goal.returns
returns c = c.test_vertex.ensures ∙ sym (marking-vertex _ _ _ _ _ _ _ (goes_on c.admit.ensures c.in_ok-admit.was) c.if-room-starts.false)
