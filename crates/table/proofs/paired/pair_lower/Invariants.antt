-- v's links before `at` are paired
use Rattle.table.proofs.Pairing.{Walking}
use Rattle.table.proofs.paired.pair_lower.Given as goal

abbrev pub invariant-loop-at : goal.invariant-loop-at
invariant-loop-at l = Walking l.starts l.links l.v l.next l.at l.least
