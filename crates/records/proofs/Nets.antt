-- The net yields of a right record are the defined ones. Assumes nothing.
use mathlib.Core.Path.{◌≡◌, ap, ◌∙◌}
use mathlib.Core.Bool.{Bool, not, cond}
use mathlib.Core.List.{List}
use Prim.Native.Nat.{ℕ, ◌<◌}
use native.Mathlib.Omega.{arith}
use lib.ListN.{get_or}
use lib.Dec.{T}
use Rattle.finite.proofs.Tests.{split, true_of, false_of, of_false}
use Rattle.table.specs.Table.{vertices}
use Rattle.anchored.specs.Followers.{followers, follower_count}
use Rattle.anchored.specs.Yield.{climb, net, net_yield}
use Rattle.anchored.proofs.Core.{level-lt}
use Rattle.anchored.proofs.Net.{bare_le}
use Rattle.pool.specs.Input.{graph_of, anchored_by}
use Rattle.pool.proofs.Laws.{simple}
use Rattle.records.specs.Record.{Right}
use Rattle.records.specs.Yield.{yield_at, Smalls}
use Rattle.records.specs.declared.Record.{Record}
use Rattle.records.proofs.Records.{followers-le}

module _ {s l : List ℕ} {kept : Record} (right : Right s l kept) where
  abbrev A : ℕ → Bool
  A = anchored_by kept.anchored

  -- the count of a vertex that is not anchored is the number of its followers
  pub right-count : (v : ℕ) → v < vertices s → T (not (A v)) → get_or kept.followers v 0 ≡ followers (graph_of s l) A v
  unfolding follower_count
  right-count v h free = right.counts v h ∙ ap (λ b. cond b 65535 (followers (graph_of s l) A v)) (false_of (A v) free)

  pub right-small : Smalls kept (vertices s)
  right-small v h e =
      let G = graph_of s l in
      let L = simple right.admitted.table in
      let free = of_false (A v) e in
      let level = right.columns.levels v h in
      let few = right.admitted.table.small in (
        omega (arith, right-count v h free, followers-le G A v),
        omega (arith, level-lt G L A v h free),
        omega (arith, right.bares v h, bare_le G L A v h free),
      )

  pub right_yield : (v : ℕ) → v < vertices s → yield_at kept v ≡ net_yield (graph_of s l) A v
  unfolding net_yield net climb
  right_yield v h = split (A v)
      (λ t. rw (true_of (A v) t))
      (λ t. rw (false_of (A v) t, right.columns.levels v h, right.bares v h, right-count v h t))
