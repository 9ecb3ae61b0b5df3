use Rattle.std.proofs.Common.{◌∙◌, sym}
use Rattle.std.proofs.lemmas.Result.{err_from_is_err_and}
use Rattle.table.proofs.Guards.{exit, goes_on, cleared}
use Rattle.pool.proofs.Laws.{admitted}
use Rattle.ceiling.specs.Answers.{ceiling_of}
use Rattle.ceiling.proofs.test_ceiling.Goals as goal

pub returns-in_err-admit : goal.returns-in_err-admit
unfolding ceiling_of
returns-in_err-admit c = exit _ _ _ c.admit.ensures c.in_err-admit.was (err_from_is_err_and c.from_residual.result c.from_residual.ensures.1)

pub test_start-requires : goal.test_start-requires
test_start-requires c = admitted _ _ _ (goes_on c.admit.ensures c.in_ok-admit.was)

pub returns : goal.returns
unfolding ceiling_of
returns c = c.test_start.ensures ∙ sym (cleared _ _ (goes_on c.admit.ensures c.in_ok-admit.was))
