-- a refusal is handed on; without one the table is measured and the list is written
use Rattle.std.proofs.Common.{◌∙◌, sym, ap, ap₂, refl, Ok}
use mathlib.Core.Logic.{inl, inr}
use Rattle.std.proofs.lemmas.Result.{err_from_is_err_and}
use Rattle.table.proofs.Guards.{exit, goes_on, handed, cleared}
use Rattle.pool.proofs.Lengths.{slices-sound}
use Rattle.components.specs.Answers.{list_of}
use Rattle.components.proofs.Answers.{list_count}
use Rattle.components.proofs.list_components.Goals as goal

pub returns-in_err-admit_slices : goal.returns-in_err-admit_slices
unfolding list_of
returns-in_err-admit_slices c =
    let refused = sym c.admit_slices.ensures ∙ c.in_err-admit_slices.was in (
      exit _ _ _ c.admit_slices.ensures c.in_err-admit_slices.was (err_from_is_err_and c.from_residual.result c.from_residual.ensures.1),
      sym (handed _ _ refused),
      sym (handed _ _ refused),
      sym (handed _ _ refused),
    )

pub measure-size-requires : goal.measure-size-requires
measure-size-requires c = (slices-sound _ _ _ _ (goes_on c.admit_slices.ensures c.in_ok-admit_slices.was)).0.table

pub write_list-count-requires : goal.write_list-count-requires
write_list-count-requires c =
    let promised = slices-sound _ _ _ _ (goes_on c.admit_slices.ensures c.in_ok-admit_slices.was) in
    record { admitted = promised.0; levels_len = (promised.1 _ (inl refl), promised.1 _ (inr (inl refl)), promised.1 _ (inr (inr (inl refl)))) }

pub returns : goal.returns
returns c =
    let passed = goes_on c.admit_slices.ensures c.in_ok-admit_slices.was in
    let written = c.write_list-count.ensures in (
      ap Ok (ap₂ (λ a b. (a, b)) written.count c.measure-size.ensures) ∙ sym (list_count _ _ _ _ passed),
      written.levels ∙ sym (cleared _ _ passed),
      written.sizes ∙ sym (cleared _ _ passed),
      written.numbers ∙ sym (cleared _ _ passed),
    )
