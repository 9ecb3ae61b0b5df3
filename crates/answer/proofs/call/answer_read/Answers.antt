use Rattle.std.proofs.Common.{arith, ◌+◌, ◌∙◌, refl, sym, ap}
use Rattle.std.specs.Prelude.{Ok}
use Rattle.std.proofs.lemmas.Result.{err_from_is_err_and}
use lib.Seq.{length-take-le}
use Rattle.table.proofs.Guards.{exit, goes_on, cleared, handed}
use Rattle.answer.proofs.Answers.{granted, ready, sheet_written}
use Rattle.answer.proofs.call.answer_read.Goals as goal

pub returns-in_err-admit : goal.returns-in_err-admit
returns-in_err-admit c =
    let refused = sym c.admit.ensures ∙ c.in_err-admit.was in (
      exit _ _ _ c.admit.ensures c.in_err-admit.was (err_from_is_err_and c.from_residual.result c.from_residual.ensures.1),
      sym (handed _ _ refused),
    )

pub slice_bounds-write_rounds-end : goal.slice_bounds-write_rounds-end
slice_bounds-write_rounds-end c =
    let grant = granted _ _ _ _ (goes_on c.admit.ensures c.in_ok-admit.was) in
    sym (length-take-le (c.args.asked.riders + 1) c.args.starts.now (omega (arith, c.requires.in_bounds, grant.small)))

pub slice_bounds-write_rounds-end-2 : goal.slice_bounds-write_rounds-end-2
slice_bounds-write_rounds-end-2 c =
    let grant = granted _ _ _ _ (goes_on c.admit.ensures c.in_ok-admit.was) in
    sym (length-take-le c.args.asked.links c.args.links.now (omega (arith, c.requires.in_bounds_2, grant.few)))

pub slice_bounds-write_rounds-end-3 : goal.slice_bounds-write_rounds-end-3
slice_bounds-write_rounds-end-3 c =
    let grant = granted _ _ _ _ (goes_on c.admit.ensures c.in_ok-admit.was) in
    sym (length-take-le c.args.asked.riders c.args.anchored.now (omega (arith, c.requires.in_bounds_3, grant.small)))

pub write_rounds-size-requires : goal.write_rounds-size-requires
write_rounds-size-requires c =
    let r = c.requires in
    let grant = granted _ _ _ _ (goes_on c.admit.ensures c.in_ok-admit.was) in
    let may = ready _ _ c.args.anchored.now r.in_bounds r.in_bounds_3 r.by_index grant in
    record { admitted = may.0; given_len = may.1; starts_in_bounds = may.2 }

pub returns : goal.returns
returns c =
    let r = c.requires in
    let clear = goes_on c.admit.ensures c.in_ok-admit.was in
    let written = sheet_written _ _ _ r.in_bounds r.in_bounds_3 r.by_index (granted _ _ _ _ clear) refl c.write_rounds-size.ensures in
    (ap Ok written.0 ∙ sym (cleared _ _ clear), written.1 ∙ sym (cleared _ _ clear))
