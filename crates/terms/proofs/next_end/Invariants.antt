-- the nearest of the ends looked at
use Rattle.terms.specs.Days.{Nearest}
use Rattle.terms.proofs.next_end.Given as goal

abbrev pub invariant-loop-end : goal.invariant-loop-end
invariant-loop-end l = Nearest l.ends l.day l.until l.end-index l.next
