use Rattle.std.proofs.Common.{◌∙◌, sym, ap}
use Rattle.std.specs.Prelude.{Ok}
use Rattle.std.proofs.lemmas.Result.{err_from_is_err_and}
use Rattle.table.proofs.Guards.{exit, goes_on, cleared}
use Rattle.table.proofs.Laws.{sound}
use Rattle.table.proofs.check.Goals as goal

pub returns-in_err-test_table : goal.returns-in_err-test_table
returns-in_err-test_table c = exit _ _ _ c.test_table.ensures c.in_err-test_table.was (err_from_is_err_and c.from_residual.result c.from_residual.ensures.1)

pub measure-requires : goal.measure-requires
measure-requires c = sound _ _ (goes_on c.test_table.ensures c.in_ok-test_table.was)

pub returns : goal.returns
returns c = ap Ok c.measure.ensures ∙ sym (cleared _ _ (goes_on c.test_table.ensures c.in_ok-test_table.was))
