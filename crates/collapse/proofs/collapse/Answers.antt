use Rattle.std.proofs.Common.{◌∙◌, sym, ap}
use Rattle.std.specs.Prelude.{Ok}
use Rattle.std.proofs.lemmas.Result.{err_from_is_err_and}
use Rattle.table.proofs.Guards.{exit, goes_on, cleared, handed}
use Rattle.level_sheet.proofs.Sheets.{accepted_sheet}
use Rattle.marking.proofs.Marking.{marking-sound}
use Rattle.collapse.proofs.collapse.Goals as goal

pub returns-in_err-test_marking : goal.returns-in_err-test_marking
returns-in_err-test_marking c = (
  exit _ _ _ c.test_marking.ensures c.in_err-test_marking.was (err_from_is_err_and c.from_residual.result c.from_residual.ensures.1),
  sym (handed _ _ (sym c.test_marking.ensures ∙ c.in_err-test_marking.was)),
)

pub write_falls-requires : goal.write_falls-requires
write_falls-requires c =
    let promised = marking-sound _ _ _ _ _ _ _ (goes_on c.test_marking.ensures c.in_ok-test_marking.was) in
    record { leveled = (accepted_sheet promised.0 promised.1).leveled; x_bound = promised.2; marks_len = promised.3 }

pub measure-requires : goal.measure-requires
measure-requires c = (marking-sound _ _ _ _ _ _ _ (goes_on c.test_marking.ensures c.in_ok-test_marking.was)).0.table

pub returns : goal.returns
returns c =
    let clear = goes_on c.test_marking.ensures c.in_ok-test_marking.was in
    (ap Ok c.measure.ensures ∙ sym (cleared _ _ clear), c.write_falls.ensures ∙ sym (cleared _ _ clear))
