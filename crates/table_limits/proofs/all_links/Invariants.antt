-- the table's links keep their number
use Rattle.std.proofs.Common.{◌≡◌, length}
use Rattle.table_limits.proofs.all_links.Given as goal

abbrev pub invariant-loop-i : goal.invariant-loop-i
invariant-loop-i l = 16386 ≡ length l.links
