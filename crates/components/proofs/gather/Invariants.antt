-- the values of the numbers before this one stand at the front
use Rattle.std.proofs.Common.{◌≡◌, ◌++◌, map, take, drop, get_or}
use Rattle.components.proofs.gather.Given as goal

abbrev pub invariant-loop-i : goal.invariant-loop-i
invariant-loop-i l = l.out ≡ map (λ v. get_or l.value v 0) (take l.i l.numbers) ++ drop l.i l.initial.out
