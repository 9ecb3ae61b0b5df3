-- `degrees` is the sum of the degrees below v, and `max_degree` the greatest
use Rattle.std.proofs.Common.{◌≡◌, ◌≤◌, ◌*◌}
use Rattle.finite.specs.Count.{sum, below}
use Rattle.finite.specs.Search.{greatest_of}
use Rattle.table.specs.Size.{degree_of}
use Rattle.table.proofs.size.Size.measure.Given as goal

abbrev pub invariant-loop-v : goal.invariant-loop-v
invariant-loop-v l = record {
  summed : l.degrees ≡ sum (degree_of l.starts l.links) (below l.v);
  greatest : l.max_degree ≡ greatest_of (degree_of l.starts l.links) l.v;
  bounded : l.degrees ≤ l.v * 1024;
}
