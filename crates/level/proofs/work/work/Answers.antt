-- a refusal is handed on; without one the table is measured and the sheet is written
use Rattle.std.proofs.Common.{◌∙◌, sym, ap, refl, Ok}
use mathlib.Core.Logic.{inl, inr}
use Rattle.std.proofs.lemmas.Result.{err_from_is_err_and}
use Rattle.table.proofs.Guards.{exit, goes_on, handed, cleared}
use Rattle.pool.proofs.Lengths.{slices-sound}
use Rattle.level.proofs.work.work.Goals as goal

pub returns-in_err-admit_slices : goal.returns-in_err-admit_slices
returns-in_err-admit_slices c =
    let refused = sym c.admit_slices.ensures ∙ c.in_err-admit_slices.was in (
      exit _ _ _ c.admit_slices.ensures c.in_err-admit_slices.was (err_from_is_err_and c.from_residual.result c.from_residual.ensures.1),
      sym (handed _ _ refused),
      sym (handed _ _ refused),
      sym (handed _ _ refused),
    )

pub measure-size-requires : goal.measure-size-requires
measure-size-requires c = (slices-sound _ _ _ _ (goes_on c.admit_slices.ensures c.in_ok-admit_slices.was)).0.table

pub write_sheet-requires : goal.write_sheet-requires
write_sheet-requires c =
    let promised = slices-sound _ _ _ _ (goes_on c.admit_slices.ensures c.in_ok-admit_slices.was) in
    record { admitted = promised.0; levels_len = promised.1 _ (inl refl); layers_len = promised.1 _ (inr (inl refl)); components_len = promised.1 _ (inr (inr (inl refl))) }

pub returns : goal.returns
returns c =
    let passed = goes_on c.admit_slices.ensures c.in_ok-admit_slices.was in
    let written = c.write_sheet.ensures in (
      ap Ok c.measure-size.ensures ∙ sym (cleared _ _ passed),
      written.levels ∙ sym (cleared _ _ passed),
      written.layers ∙ sym (cleared _ _ passed),
      written.components ∙ sym (cleared _ _ passed),
    )
