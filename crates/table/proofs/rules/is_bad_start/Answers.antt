use Rattle.std.proofs.Common.{arith}
use Rattle.std.proofs.lemmas.Bool.Decides.{nat_tests}
use Rattle.table.specs.Table.{bad_start}
use Rattle.table.proofs.rules.is_bad_start.Goals.{then-i-starts, else-i-starts, then-i-eq0, else-i-eq0}
use Rattle.table.proofs.rules.is_bad_start.Goals as goal

pub returns-then-wrong_end : goal.returns-then-wrong_end
unfolding bad_start
returns-then-wrong_end c = elim c.if-i-starts.branch [ then-i-starts w ↦ grind (arith, nat_tests) | else-i-starts w ↦ grind (arith, nat_tests) ]

pub returns-else-wrong_end : goal.returns-else-wrong_end
unfolding bad_start
returns-else-wrong_end c =
    elim c.if-i-starts.branch [
      | then-i-starts w ↦ elim c.if-i-eq0.branch [ then-i-eq0 v ↦ grind (arith, nat_tests) | else-i-eq0 v ↦ grind (arith, nat_tests) ]
      | else-i-starts w ↦ elim c.if-i-eq0.branch [ then-i-eq0 v ↦ grind (arith, nat_tests) | else-i-eq0 v ↦ grind (arith, nat_tests) ]
    ]
