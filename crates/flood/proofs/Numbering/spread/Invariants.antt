-- Of the queue the first `head` agree with all beside them, the others are numbered `start`.
use Rattle.std.proofs.Common.{List, ℕ, not, ◌-◌}
use Rattle.std.specs.Prelude.{T}
use Rattle.table.specs.Table.{vertices}
use Rattle.pool.specs.Input.{anchored_by}
use Rattle.flood.specs.Numbering.{SameNumbers, FloodsBelow}
use Rattle.flood.proofs.Flooding.{Spread}
use Rattle.flood.proofs.Numbering.spread.Given as goal

abbrev pub invariant-loop-head : goal.invariant-loop-head
invariant-loop-head l =
    let w = l.self in
    record {
      same_numbers : SameNumbers l.fn.self w;
      spreads : (a : List ℕ) → FloodsBelow l.starts l.links a l.fn.self l.start → T (not (anchored_by a l.start))
          → Spread l.starts l.links a w.pending w.component.now w.queue l.k l.start l.head w.tail;
    }

abbrev pub decreases-loop-head : goal.decreases-loop-head
decreases-loop-head l = vertices l.starts - l.head
