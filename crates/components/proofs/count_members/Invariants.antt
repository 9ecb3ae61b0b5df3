-- the sizes count the vertices before this one
use Rattle.std.proofs.Common.{◌≡◌, length}
use Rattle.pool.specs.Arrays.{Holds}
use Rattle.components.specs.Entries.{members}
use Rattle.components.proofs.count_members.Given as goal

abbrev pub invariant-loop-number : goal.invariant-loop-number
invariant-loop-number l = record { long : length l.size ≡ 1024; counted : Holds l.size l.n (members l.component l.number-index) }
