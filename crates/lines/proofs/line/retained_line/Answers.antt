-- `line::retained_line` meets its contract: a return for each part of `retained_at`. Assumes nothing.
use Rattle.std.proofs.Common.{arith}
use Rattle.std.proofs.lemmas.Grind.{common_steps}
use Rattle.std.proofs.lemmas.Bool.Decides.{nat_tests}
use Rattle.lines.specs.Line.{retained_at}
use Rattle.lines.proofs.line.retained_line.Goals as goal

pub returns-in_err-skip-clause-value : goal.returns-in_err-skip-clause-value
unfolding retained_at
returns-in_err-skip-clause-value c = grind (arith, common_steps, nat_tests)

pub returns-in_err-skip-clause-anchored_value : goal.returns-in_err-skip-clause-anchored_value
unfolding retained_at
returns-in_err-skip-clause-anchored_value c = grind (arith, common_steps, nat_tests)

pub returns-in_err-beyond-clause-value : goal.returns-in_err-beyond-clause-value
unfolding retained_at
returns-in_err-beyond-clause-value c = grind (arith, common_steps, nat_tests)

pub returns-in_err-beyond-clause-anchored_value : goal.returns-in_err-beyond-clause-anchored_value
unfolding retained_at
returns-in_err-beyond-clause-anchored_value c = grind (arith, common_steps, nat_tests)

pub returns-in_err-skip-2-clause-value : goal.returns-in_err-skip-2-clause-value
unfolding retained_at
returns-in_err-skip-2-clause-value c = grind (arith, common_steps, nat_tests)

pub returns-in_err-skip-2-clause-anchored_value : goal.returns-in_err-skip-2-clause-anchored_value
unfolding retained_at
returns-in_err-skip-2-clause-anchored_value c = grind (arith, common_steps, nat_tests)

pub returns-clause-value : goal.returns-clause-value
unfolding retained_at
returns-clause-value c = grind (arith, common_steps, nat_tests)

pub returns-clause-anchored_value : goal.returns-clause-anchored_value
unfolding retained_at
returns-clause-anchored_value c = grind (arith, common_steps, nat_tests)
