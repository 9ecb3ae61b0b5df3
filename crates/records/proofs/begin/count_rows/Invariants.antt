-- the rows below v are counted
use Rattle.anchored.specs.Followers.{follower_count}
use Rattle.pool.specs.Input.{graph_of, anchored_by}
use Rattle.pool.specs.Arrays.{Holds}
use Rattle.records.specs.Record.{row_reached}
use Rattle.records.proofs.begin.count_rows.Given as goal

abbrev pub invariant-loop-v : goal.invariant-loop-v
invariant-loop-v l = record {
  followers : Holds l.followers l.v (follower_count (graph_of l.starts l.links) (anchored_by l.anchored));
  reached : Holds l.reached l.v (row_reached l.reaching (graph_of l.starts l.links) (anchored_by l.anchored));
}
