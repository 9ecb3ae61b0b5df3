-- the numbers of the marked vertices below v are marked too
use Rattle.stale.specs.Marks.{Added, up_to, carried}
use Rattle.stale.proofs.mark_numbers.Given as goal

abbrev pub invariant-loop-v : goal.invariant-loop-v
invariant-loop-v l = Added (up_to (carried l.component l.unsteady l.v) 1024) l.fn.changed l.changed
