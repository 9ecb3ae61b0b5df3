-- `read::read_text` meets its contract. Assumes nothing.
use Rattle.std.proofs.Common.{refl, sym, arith}
use Rattle.std.proofs.lemmas.Grind.{common_steps}
use Rattle.std.proofs.lemmas.Bool.Decides.{nat_tests}
use mathlib.Core.List.{flatten}
use Rattle.finite.specs.Bytes.{bytes}
use Rattle.reader.proofs.Forms.{form_in}
use Rattle.lines.specs.declared.line.Form.{Form}
use Rattle.lines.proofs.Lines.{form_kept}
use Rattle.text.specs.Text.{starts_from, reading_of, rider_lines_read, retained_line_read}
use Rattle.text.proofs.read.read_text.Goals as goal

pub returns-in_err-n-clause-value : goal.returns-in_err-n-clause-value
unfolding reading_of rider_lines_read retained_line_read
returns-in_err-n-clause-value c = grind (arith, common_steps, nat_tests)

pub returns-in_err-n-clause-starts_value : goal.returns-in_err-n-clause-starts_value
unfolding rider_lines_read starts_from flatten
returns-in_err-n-clause-starts_value c = grind (arith, common_steps, nat_tests)

pub returns-in_err-n-clause-links_value : goal.returns-in_err-n-clause-links_value
unfolding rider_lines_read starts_from flatten
returns-in_err-n-clause-links_value c = grind (arith, common_steps, nat_tests)

pub returns-in_err-n-clause-anchored_value : goal.returns-in_err-n-clause-anchored_value
unfolding reading_of rider_lines_read retained_line_read
returns-in_err-n-clause-anchored_value c = grind (arith, common_steps, nat_tests)

pub rider_lines-requires-clause-at_in_bounds : goal.rider_lines-requires-clause-at_in_bounds
rider_lines-requires-clause-at_in_bounds c =
    let line = c.in_ok-n.field-0-0 in
    let answer = rw c.in_ok-n.ensures.ok_part at (sym c.riders_line.ensures.value) in
    let read = form_kept 1 Form.Riders (λ v. refl) _ line c.in_ok-n.n c.riders_line.new.reader.at answer in
    rw c.riders_line.ensures.text (form_in _ _ 40 (bytes "riders ") 41 (bytes "\n") c.in_ok-n.n c.riders_line.new.reader.at read.0).1

pub returns-in_err-count-clause-value : goal.returns-in_err-count-clause-value
unfolding reading_of rider_lines_read retained_line_read
returns-in_err-count-clause-value c = grind (arith, common_steps, nat_tests)

pub returns-in_err-count-clause-starts_value : goal.returns-in_err-count-clause-starts_value
unfolding reading_of rider_lines_read retained_line_read
returns-in_err-count-clause-starts_value c = grind (arith, common_steps, nat_tests)

pub returns-in_err-count-clause-links_value : goal.returns-in_err-count-clause-links_value
unfolding reading_of rider_lines_read retained_line_read
returns-in_err-count-clause-links_value c = grind (arith, common_steps, nat_tests)

pub returns-in_err-count-clause-anchored_value : goal.returns-in_err-count-clause-anchored_value
unfolding reading_of rider_lines_read retained_line_read
returns-in_err-count-clause-anchored_value c = grind (arith, common_steps, nat_tests)

pub returns-clause-value : goal.returns-clause-value
unfolding reading_of rider_lines_read retained_line_read
returns-clause-value c = grind (arith, common_steps, nat_tests)

pub returns-clause-starts_value : goal.returns-clause-starts_value
unfolding reading_of rider_lines_read retained_line_read
returns-clause-starts_value c = grind (arith, common_steps, nat_tests)

pub returns-clause-links_value : goal.returns-clause-links_value
unfolding reading_of rider_lines_read retained_line_read
returns-clause-links_value c = grind (arith, common_steps, nat_tests)

pub returns-clause-anchored_value : goal.returns-clause-anchored_value
unfolding reading_of rider_lines_read retained_line_read
returns-clause-anchored_value c = grind (arith, common_steps, nat_tests)
