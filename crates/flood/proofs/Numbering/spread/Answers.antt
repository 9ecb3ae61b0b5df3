use Rattle.std.proofs.Common.{◌≡◌, ℕ, ◌<◌, ◌≤◌, List, get_or, ◌∙◌, arith}
use Rattle.table.specs.Table.{vertices}
use Rattle.flood.specs.Flooding.{CanSpread}
use Rattle.flood.proofs.Flooding.{room, Spread, spread_seed, spread_visit, spread_next}
use Rattle.flood.proofs.Numbering.spread.Goals as goal

-- the start has a place in the arrays, and in the queue
place : {s l pending labels queue : List ℕ} {start tail : ℕ} → CanSpread s l pending labels queue start tail → (start < 1024) × (tail < 1024)
place {start = start} p = omega (arith, room p.floods.flooding.queued start p.vertex p.none, p.vertex, p.floods.admitted.table.small)

-- the first that waits has a place in the queue, which holds no more vertices than there are
waits : {s l a pending labels queue : List ℕ} {k start head tail : ℕ} → Spread s l a pending labels queue k start head tail → head < tail
    → (get_or queue head 0 < 1024) × (head < vertices s) × (vertices s ≤ 1024)
waits {head = head} f h =
    let q = f.floods.flooding.queued in
    omega (arith, (q.held head h).0, q.total, f.floods.admitted.table.small, h)

pub offset_bounds-self-start : goal.offset_bounds-self-start
offset_bounds-self-start c = omega (arith, place c.requires)

pub bounds-self-start : goal.bounds-self-start
bounds-self-start c = omega (arith, place c.requires)

pub number-requires : goal.number-requires
number-requires c = omega (arith, place c.requires)

pub loop-head-init : goal.loop-head-init
loop-head-init c =
    let p = c.requires in
    let e = c.number.ensures in
    record {
      same_numbers = e.same_numbers;
      spreads = λ a f free. rw (e.pending, e.component, e.queue, e.tail) (spread_seed f free p.vertex p.none);
    }

pub offset_bounds-self-head : goal.offset_bounds-self-head
offset_bounds-self-head c =
    let p = c.requires in
    omega (arith, waits (c.loop-head.invariant.spreads _ p.floods p.free) c.loop-head-test.true)

pub bounds-self-head : goal.bounds-self-head
bounds-self-head c =
    let p = c.requires in
    omega (arith, waits (c.loop-head.invariant.spreads _ p.floods p.free) c.loop-head-test.true)

pub visit-requires : goal.visit-requires
visit-requires c =
    let p = c.requires in
    record { bytes = p.bytes; state = spread_visit (c.loop-head.invariant.spreads _ p.floods p.free) c.loop-head-test.true }

pub loop-head-smaller : goal.loop-head-smaller
loop-head-smaller c =
    let p = c.requires in
    let some = waits (c.loop-head.invariant.spreads _ p.floods p.free) c.loop-head-test.true in
    let h : c.loop-head.head < vertices c.args.starts.now = some.1 in
    omega arith

pub loop-head-preserved : goal.loop-head-preserved
loop-head-preserved c = record {
  same_numbers = c.visit.ensures.same_numbers ∙ c.loop-head.invariant.same_numbers;
  spreads = λ a f free. spread_next (c.loop-head.invariant.spreads a f free) c.loop-head-test.true c.visit.ensures.visits;
}

pub returns-clause-spreads : goal.returns-clause-spreads
returns-clause-spreads c =
    let p = c.requires in
    let inv = c.loop-head.invariant in
    let within = (inv.spreads _ p.floods p.free).floods.flooding.within in
    let done : c.loop-head.head ≡ c.loop-head.self.tail = omega arith in
    record { moves = λ a f free. (rw done at (inv.spreads a f free)).floods }
