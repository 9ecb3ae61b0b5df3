use Rattle.std.proofs.Common.{◌≡◌, length}
use Rattle.pool.specs.Input.{graph_of, anchored_by}
use Rattle.pool.specs.Arrays.{Holds}
use Rattle.peel.specs.Peeling.{first_degree}
use Rattle.peel.proofs.degrees.Given as goal

abbrev pub invariant-loop-v : goal.invariant-loop-v
invariant-loop-v l = record {
  long : length l.d-items ≡ l.n;
  holds : Holds l.d-items l.v (first_degree (graph_of l.starts l.links) (anchored_by l.anchored));
}
