use Rattle.std.proofs.Common.{sym, ◌∙◌}
use Rattle.std.proofs.lemmas.Result.{err_from_is_err_and}
use Rattle.table.proofs.Guards.{exit, goes_on, cleared}
use Rattle.table.proofs.Laws.{sound}
use Rattle.houses.specs.Answers.{houses_of}
use Rattle.houses.proofs.test_houses.Goals as goal

pub returns-in_err-test_table : goal.returns-in_err-test_table
unfolding houses_of
returns-in_err-test_table c = exit _ _ _ c.test_table.ensures c.in_err-test_table.was (err_from_is_err_and c.from_residual.result c.from_residual.ensures.1)

pub overflow_sub-starts : goal.overflow_sub-starts
overflow_sub-starts c = (sound _ _ (goes_on c.test_table.ensures c.in_ok-test_table.was)).framed.some

pub test_members-requires : goal.test_members-requires
test_members-requires c = (sound _ _ (goes_on c.test_table.ensures c.in_ok-test_table.was)).small

pub returns : goal.returns
unfolding houses_of
returns c = c.test_members.ensures ∙ sym (cleared _ _ (goes_on c.test_table.ensures c.in_ok-test_table.was))
