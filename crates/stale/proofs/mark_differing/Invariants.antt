-- the places below v are compared
use Rattle.stale.specs.Marks.{Added, up_to, differs}
use Rattle.stale.proofs.mark_differing.Given as goal

abbrev pub invariant-loop-v : goal.invariant-loop-v
invariant-loop-v l = Added (up_to (differs l.before l.after) l.v) l.fn.marks l.marks
