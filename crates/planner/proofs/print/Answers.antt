-- `print` meets its contract, by what each answer of the call prints. Assumes nothing.
use native.Mathlib.Omega.{arith}
use Rattle.planner.proofs.Prints.{sheet_printed, refusal_printed}
use Rattle.planner.proofs.print.Goals as goal

pub returns-in-Ok-clause-counts : goal.returns-in-Ok-clause-counts
returns-in-Ok-clause-counts c =
    let answered = c.text_to_sheet.ensures in
    (sheet_printed c.args.text.now c.args.out.now answered.answer answered.sheet c.in-Ok.is).0

pub returns-in-Ok-clause-printed : goal.returns-in-Ok-clause-printed
returns-in-Ok-clause-printed c =
    let answered = c.text_to_sheet.ensures in
    (sheet_printed c.args.text.now c.args.out.now answered.answer answered.sheet c.in-Ok.is).1

pub returns-in-Err-clause-counts : goal.returns-in-Err-clause-counts
returns-in-Err-clause-counts c =
    let answered = c.text_to_sheet.ensures in
    let line = rw (c.number.ensures, c.place.ensures) at c.put_refused.ensures in
    (refusal_printed c.args.text.now c.args.out.now answered.answer answered.sheet c.in-Err.is c.requires (omega (arith, c.number.ensures)) (omega (arith, c.place.ensures)) line).0

pub returns-in-Err-clause-printed : goal.returns-in-Err-clause-printed
returns-in-Err-clause-printed c =
    let answered = c.text_to_sheet.ensures in
    let line = rw (c.number.ensures, c.place.ensures) at c.put_refused.ensures in
    (refusal_printed c.args.text.now c.args.out.now answered.answer answered.sheet c.in-Err.is c.requires (omega (arith, c.number.ensures)) (omega (arith, c.place.ensures)) line).1
