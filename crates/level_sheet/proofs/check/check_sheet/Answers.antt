use Rattle.std.proofs.Common.{◌∙◌, sym, ap, refl}
use Rattle.std.specs.Prelude.{Ok}
use Rattle.std.proofs.lemmas.Result.{err_from_is_err_and}
use Rattle.table.proofs.Guards.{exit, goes_on, cleared}
use Rattle.pool.proofs.Laws.{admitted}
use Rattle.level_sheet.proofs.Laws.{check_tells}
use Rattle.level_sheet.proofs.check.check_sheet.Goals as goal

pub returns-in_err-test_given-clause-answer : goal.returns-in_err-test_given-clause-answer
returns-in_err-test_given-clause-answer c = exit _ _ _ c.test_given.ensures c.in_err-test_given.was (err_from_is_err_and c.from_residual.result c.from_residual.ensures.1)

pub returns-in_err-test_given-clause-tells : goal.returns-in_err-test_given-clause-tells
returns-in_err-test_given-clause-tells c =
    let p = err_from_is_err_and c.from_residual.result c.from_residual.ensures.1 in
    rw (p.1, p.2) (check_tells _ _ _ _ _ (sym c.test_given.ensures ∙ c.in_err-test_given.was))

pub measure-requires : goal.measure-requires
measure-requires c = (admitted _ _ _ ((check_tells _ _ _ _ _ (goes_on c.test_given.ensures c.in_ok-test_given.was)).defined.0 refl).0).table

pub returns-clause-answer : goal.returns-clause-answer
returns-clause-answer c = ap Ok c.measure.ensures ∙ sym (cleared _ _ (goes_on c.test_given.ensures c.in_ok-test_given.was))

pub returns-clause-tells : goal.returns-clause-tells
returns-clause-tells c = check_tells _ _ _ _ _ (goes_on c.test_given.ensures c.in_ok-test_given.was)
