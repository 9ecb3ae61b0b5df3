use Rattle.std.proofs.Common.{arith, ◌∙◌, sym}
use Rattle.std.proofs.lemmas.Result.{err_from_is_err_and}
use Rattle.table.proofs.Guards.{exit, goes_on, cleared}
use Rattle.marking.proofs.Marking.{marking-sound}
use Rattle.search.specs.Answers.{search_of}
use Rattle.search.proofs.operation.test_search.Goals as goal

pub returns-in_err-test_marking : goal.returns-in_err-test_marking
unfolding search_of
returns-in_err-test_marking c = exit _ _ _ c.test_marking.ensures c.in_err-test_marking.was (err_from_is_err_and c.from_residual.result c.from_residual.ensures.1)

pub test_free-requires : goal.test_free-requires
test_free-requires c =
    let promised = marking-sound _ _ _ _ _ _ _ (goes_on c.test_marking.ensures c.in_ok-test_marking.was) in
    omega (arith, promised.2, promised.0.long)

pub returns : goal.returns
unfolding search_of
returns c = c.test_free.ensures ∙ sym (cleared _ _ (goes_on c.test_marking.ensures c.in_ok-test_marking.was))
