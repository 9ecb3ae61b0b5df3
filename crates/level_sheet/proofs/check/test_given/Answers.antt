use Rattle.std.proofs.Common.{◌∙◌, sym}
use Rattle.std.proofs.lemmas.Result.{err_from_is_err_and}
use Rattle.table.proofs.Guards.{exit, goes_on, cleared}
use Rattle.pool.proofs.Laws.{admitted}
use Rattle.level_sheet.specs.SheetCheck.{check_sheet_of}
use Rattle.level_sheet.proofs.check.test_given.Goals as goal

pub returns-in_err-admit : goal.returns-in_err-admit
unfolding check_sheet_of
returns-in_err-admit c = exit _ _ _ c.admit.ensures c.in_err-admit.was (err_from_is_err_and c.from_residual.result c.from_residual.ensures.1)

pub test_sheet-requires : goal.test_sheet-requires
test_sheet-requires c = admitted _ _ _ (goes_on c.admit.ensures c.in_ok-admit.was)

pub returns : goal.returns
unfolding check_sheet_of
returns c = c.test_sheet.ensures ∙ sym (cleared _ _ (goes_on c.admit.ensures c.in_ok-admit.was))
