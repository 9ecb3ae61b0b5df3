use Rattle.std.proofs.Common.{◌≡◌, ◌∙◌, sym, ap, ap₂, ℕ}
use Rattle.std.specs.Prelude.{Ok}
use Rattle.std.proofs.lemmas.Result.{err_from_is_err_and}
use Rattle.table.proofs.Guards.{exit, goes_on, cleared}
use Rattle.level_sheet.proofs.Sheets.{accepted_sheet}
use Rattle.ceiling.proofs.Answers.{ceiling-sound}
use Rattle.ceiling.proofs.ceiling.Goals as goal

pub returns-in_err-test_ceiling : goal.returns-in_err-test_ceiling
returns-in_err-test_ceiling c = exit _ _ _ c.test_ceiling.ensures c.in_err-test_ceiling.was (err_from_is_err_and c.from_residual.result c.from_residual.ensures.1)

pub bound-bound-requires : goal.bound-bound-requires
bound-bound-requires c =
    let promised = ceiling-sound _ _ _ _ _ _ (goes_on c.test_ceiling.ensures c.in_ok-test_ceiling.was) in
    record { sheet = accepted_sheet promised.0 promised.1; x_bound = promised.2 }

pub measure-requires : goal.measure-requires
measure-requires c = (ceiling-sound _ _ _ _ _ _ (goes_on c.test_ceiling.ensures c.in_ok-test_ceiling.was)).0.table

pub returns : goal.returns
returns c =
    let bound = c.bound-bound.ensures in
    let size = c.measure.ensures in
    rw (bound, size) (sym (cleared _ _ (goes_on c.test_ceiling.ensures c.in_ok-test_ceiling.was)))
