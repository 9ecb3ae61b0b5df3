-- `line::rider_line` meets its contract: a return for each part of `rider_at`. Assumes nothing.
use Rattle.std.proofs.Common.{sym, arith}
use Rattle.std.proofs.lemmas.Grind.{common_steps}
use Rattle.std.proofs.lemmas.Bool.Decides.{nat_tests}
use Rattle.finite.specs.Bytes.{bytes}
use Rattle.reader.proofs.Forms.{form_in}
use Rattle.lines.specs.Line.{rider_at}
use Rattle.lines.proofs.line.rider_line.Goals as goal

pub returns-in_err-rider-clause-value : goal.returns-in_err-rider-clause-value
unfolding rider_at
returns-in_err-rider-clause-value c = grind (arith, common_steps, nat_tests)

pub returns-in_err-rider-clause-links_value : goal.returns-in_err-rider-clause-links_value
unfolding rider_at
returns-in_err-rider-clause-links_value c = grind (arith, common_steps, nat_tests)

pub returns-then-rider-v-clause-value : goal.returns-then-rider-v-clause-value
unfolding rider_at
returns-then-rider-v-clause-value c = grind (arith, common_steps, nat_tests)

pub returns-then-rider-v-clause-links_value : goal.returns-then-rider-v-clause-links_value
unfolding rider_at
returns-then-rider-v-clause-links_value c = grind (arith, common_steps, nat_tests)

pub take_neighbors-requires : goal.take_neighbors-requires
take_neighbors-requires c =
    let further = form_in c.args.reader.now.text.now c.args.reader.now.at 40 (bytes "rider ") 32 (bytes "(with") c.in_ok-rider.rider c.form.new.self.at (sym c.in_ok-rider.ensures.value) in
    omega arith

pub returns-in_err-count-clause-value : goal.returns-in_err-count-clause-value
unfolding rider_at
returns-in_err-count-clause-value c = grind (arith, common_steps, nat_tests)

pub returns-in_err-count-clause-links_value : goal.returns-in_err-count-clause-links_value
unfolding rider_at
returns-in_err-count-clause-links_value c = grind (arith, common_steps, nat_tests)

pub returns-in_err-skip-clause-value : goal.returns-in_err-skip-clause-value
unfolding rider_at
returns-in_err-skip-clause-value c = grind (arith, common_steps, nat_tests)

pub returns-in_err-skip-clause-links_value : goal.returns-in_err-skip-clause-links_value
unfolding rider_at
returns-in_err-skip-clause-links_value c = grind (arith, common_steps, nat_tests)

pub returns-clause-value : goal.returns-clause-value
unfolding rider_at
returns-clause-value c = grind (arith, common_steps, nat_tests)

pub returns-clause-links_value : goal.returns-clause-links_value
unfolding rider_at
returns-clause-links_value c = grind (arith, common_steps, nat_tests)
