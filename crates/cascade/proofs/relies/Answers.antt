use Rattle.std.proofs.Common.{arith}
use Rattle.std.proofs.lemmas.Bool.Decides.{nat_tests}
use Rattle.finite.proofs.Tests.{not-ltb}
use Rattle.cascade.specs.Cascade.{relies_of}
use Rattle.cascade.proofs.relies.Goals as goal

pub returns-then-x-u : goal.returns-then-x-u
unfolding relies_of
returns-then-x-u c = grind (arith, nat_tests, not-ltb)

pub returns-else-x-u : goal.returns-else-x-u
unfolding relies_of
returns-else-x-u c = grind (arith, nat_tests, not-ltb)

pub returns-else-not-is_higher : goal.returns-else-not-is_higher
unfolding relies_of
returns-else-not-is_higher c = grind (arith, nat_tests, not-ltb)
