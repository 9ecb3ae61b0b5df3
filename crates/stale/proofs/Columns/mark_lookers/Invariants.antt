-- the vertices below u that look into a marked component are marked too
use Rattle.stale.specs.Marks.{Added, up_to, looks}
use Rattle.stale.proofs.Columns.mark_lookers.Given as goal

abbrev pub invariant-loop-u : goal.invariant-loop-u
invariant-loop-u l = Added (up_to (looks l.starts l.links l.self.level l.self.layer l.self.component l.changed) l.u) l.fn.stale l.stale
