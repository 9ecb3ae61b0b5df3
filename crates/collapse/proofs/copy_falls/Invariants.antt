-- the marks before this one are written
use Rattle.std.proofs.Common.{◌≡◌, ◌++◌, drop}
use Rattle.finite.specs.Count.{tabulate}
use Rattle.cascade.specs.Cascade.{fell_by}
use Rattle.collapse.proofs.copy_falls.Given as goal

abbrev pub invariant-loop-v : goal.invariant-loop-v
invariant-loop-v l = l.marks ≡ tabulate (fell_by l.levels l.support) l.v ++ drop l.v l.initial.marks
