use Rattle.std.proofs.Common.{sym, ◌∙◌}
use Rattle.std.proofs.lemmas.Result.{err_from_is_err_and}
use Rattle.table.proofs.Guards.{exit, goes_on, cleared}
use Rattle.table.proofs.Laws.{sound}
use Rattle.first_day.specs.Answers.{first_day_of}
use Rattle.first_day.proofs.test_terms.Goals as goal

pub returns-in_err-test_table : goal.returns-in_err-test_table
unfolding first_day_of
returns-in_err-test_table c = exit _ _ _ c.test_table.ensures c.in_err-test_table.was (err_from_is_err_and c.from_residual.result c.from_residual.ensures.1)

pub overflow_sub-starts : goal.overflow_sub-starts
overflow_sub-starts c = (sound _ _ (goes_on c.test_table.ensures c.in_ok-test_table.was)).framed.some

pub returns : goal.returns
unfolding first_day_of
returns c = c.test_lists.ensures ∙ sym (cleared _ _ (goes_on c.test_table.ensures c.in_ok-test_table.was))
