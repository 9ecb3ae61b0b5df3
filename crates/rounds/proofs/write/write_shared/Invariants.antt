-- The first i lines are played and written. Assumes nothing.
use Rattle.rounds.proofs.Playing.{Playing}
use Rattle.rounds.proofs.write.write_shared.Given as goal

abbrev pub invariant-loop-i : goal.invariant-loop-i
invariant-loop-i l = Playing l.starts l.links l.given l.house l.quotas l.fn.out l.out l.kept l.turns l.at l.i
