-- `Reader::form` meets its contract: its returns are those of `form_at`, part by part. Assumes nothing.
use Rattle.std.proofs.Common.{arith}
use Rattle.std.proofs.lemmas.Grind.{common_steps}
use Rattle.reader.specs.Form.{form_at}
use Rattle.reader.proofs.Reader.form.Goals as goal

pub returns-in_err-skip-clause-value : goal.returns-in_err-skip-clause-value
unfolding form_at
returns-in_err-skip-clause-value c = grind (arith, common_steps)

pub returns-in_err-value-clause-value : goal.returns-in_err-value-clause-value
unfolding form_at
returns-in_err-value-clause-value c = grind (arith, common_steps)

pub returns-in_err-skip-2-clause-value : goal.returns-in_err-skip-2-clause-value
unfolding form_at
returns-in_err-skip-2-clause-value c = grind (arith, common_steps)

pub returns-clause-value : goal.returns-clause-value
unfolding form_at
returns-clause-value c = grind (arith, common_steps)
