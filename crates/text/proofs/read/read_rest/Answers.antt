-- `read::read_rest` meets its contract. Assumes nothing.
use Rattle.std.proofs.Common.{arith}
use Rattle.std.proofs.lemmas.Grind.{common_steps}
use Rattle.std.proofs.lemmas.Bool.Decides.{nat_tests}
use Rattle.text.specs.Text.{rest_of}
use Rattle.text.proofs.read.read_rest.Goals as goal

pub returns-in_err-line-clause-value : goal.returns-in_err-line-clause-value
unfolding rest_of
returns-in_err-line-clause-value c = grind (arith, common_steps, nat_tests)

pub returns-in_err-last-clause-value : goal.returns-in_err-last-clause-value
unfolding rest_of
returns-in_err-last-clause-value c = grind (arith, common_steps, nat_tests)

pub returns-then-not-at_end-clause-value : goal.returns-then-not-at_end-clause-value
unfolding rest_of
returns-then-not-at_end-clause-value c = grind (arith, common_steps, nat_tests)

pub returns-clause-value : goal.returns-clause-value
unfolding rest_of
returns-clause-value c = grind (arith, common_steps, nat_tests)
