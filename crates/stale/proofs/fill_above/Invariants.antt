-- the numbers above are filled in below v
use Rattle.pool.specs.Arrays.{Holds}
use Rattle.stale.specs.Columns.{above_by}
use Rattle.stale.proofs.fill_above.Given as goal

abbrev pub invariant-loop-v : goal.invariant-loop-v
invariant-loop-v l = Holds l.above l.v (above_by l.starts l.links l.level)
