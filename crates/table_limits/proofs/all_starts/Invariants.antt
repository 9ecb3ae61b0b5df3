-- the table's starts keep their number
use Rattle.std.proofs.Common.{◌≡◌, length}
use Rattle.table_limits.proofs.all_starts.Given as goal

abbrev pub invariant-loop-v : goal.invariant-loop-v
invariant-loop-v l = 195 ≡ length l.starts
