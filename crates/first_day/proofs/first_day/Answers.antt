use Rattle.std.proofs.Common.{sym, ap₂, ◌∙◌}
use Rattle.std.specs.Prelude.{Ok}
use Rattle.std.proofs.lemmas.Result.{err_from_is_err_and}
use Rattle.table.proofs.Guards.{exit, goes_on, cleared}
use Rattle.first_day.specs.Answers.{day_of}
use Rattle.first_day.proofs.Answers.{call_told}
use Rattle.first_day.proofs.first_day.Goals as goal

pub returns-in_err-test_terms : goal.returns-in_err-test_terms
returns-in_err-test_terms c = exit _ _ _ c.test_terms.ensures c.in_err-test_terms.was (err_from_is_err_and c.from_residual.result c.from_residual.ensures.1)

pub measure-size-requires : goal.measure-size-requires
measure-size-requires c = (call_told _ _ _ _ _ _ (goes_on c.test_terms.ensures c.in_ok-test_terms.was)).0

pub first_under-day-requires-clause-sound_table : goal.first_under-day-requires-clause-sound_table
first_under-day-requires-clause-sound_table c = (call_told _ _ _ _ _ _ (goes_on c.test_terms.ensures c.in_ok-test_terms.was)).0

pub first_under-day-requires-clause-terms_below : goal.first_under-day-requires-clause-terms_below
first_under-day-requires-clause-terms_below c = (call_told _ _ _ _ _ _ (goes_on c.test_terms.ensures c.in_ok-test_terms.was)).1

pub first_under-day-requires-clause-x_bound : goal.first_under-day-requires-clause-x_bound
first_under-day-requires-clause-x_bound c = (call_told _ _ _ _ _ _ (goes_on c.test_terms.ensures c.in_ok-test_terms.was)).2

pub returns : goal.returns
unfolding day_of
returns c =
    ap₂ (λ day size. Ok (day, size)) c.first_under-day.ensures c.measure-size.ensures ∙ sym (cleared _ _ (goes_on c.test_terms.ensures c.in_ok-test_terms.was))
