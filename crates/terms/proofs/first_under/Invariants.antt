-- no day of the span before `day` is under
use Rattle.std.proofs.Common.{◌≤◌, ◌-◌}
use Rattle.finite.specs.Search.{NoneFrom}
use Rattle.anchored.specs.Terms.{terms, under}
use Rattle.pool.specs.Input.{graph_of}
use Rattle.terms.proofs.first_under.Given as goal

abbrev pub invariant-loop-day : goal.invariant-loop-day
invariant-loop-day l = record {
  begun : l.from ≤ l.day;
  none : NoneFrom (under (terms l.vertices l.firsts l.ends) (graph_of l.starts l.links) l.x l.k) l.from l.day;
}

abbrev pub decreases-loop-day : goal.decreases-loop-day
decreases-loop-day l = l.until - l.day
