use Rattle.std.proofs.Common.{◌≡◌, ◌+◌, take, get_or, refl, ap, ◌∙◌, arith}
use Rattle.table.specs.Table.{neighbors as neighbors_of}
use Rattle.candidates.proofs.Reaching.{neighbor_at}
use Rattle.support.specs.Striking.{state_of}
use Rattle.support.proofs.Striking.{still_in, out-room, out_within, weaken_end, weaken_front, here-vertex, withdraw_start, withdraw_next, withdraw_end, settle_start, settle_end}
use Rattle.support.proofs.settle.Goals as goal

pub loop-head-init : goal.loop-head-init
loop-head-init c = record {
  bound = omega arith;
  striking = settle_start c.requires.sound_table c.requires.weighed;
}

pub offset_bounds-support-head : goal.offset_bounds-support-head
offset_bounds-support-head c = omega (arith, out_within c.loop-head.invariant.striking.listed, c.requires.sound_table.small)

pub neighbors-w-items-requires-clause-v_bound : goal.neighbors-w-items-requires-clause-v_bound
neighbors-w-items-requires-clause-v_bound c = here-vertex c.loop-head.invariant.striking.listed c.loop-head.head c.loop-head-test.true

pub loop-w-init : goal.loop-w-init
loop-w-init c = record {
  waits = c.loop-head-test.true;
  front = refl;
  striking = withdraw_start c.requires.sound_table c.loop-head.head c.loop-head.invariant.striking c.loop-head-test.true;
}

pub weaken-requires : goal.weaken-requires
weaken-requires c =
    let table = c.requires.sound_table in
    let out = c.loop-head in
    let at = c.loop-w in
    let w = get_or c.neighbors-w-items.result.now at.w-index 0 in
    let k = at.invariant.striking in
    let a = here-vertex out.invariant.striking.listed out.head c.loop-head-test.true in
    let b = neighbor_at table (get_or out.support.struck.places out.head 0) a c.neighbors-w-items.ensures at.w-index c.loop-w-test.true in
    record {
      u_in_bounds = omega (arith, c.requires.starts_in_bounds);
      w_in_bounds = omega (arith, c.requires.starts_in_bounds);
      w_bound = omega (arith, table.small);
      nonzero = λ m.
          let alive = still_in k.listed w m in
          (omega (arith, k.strong w alive.0 alive.1), omega (arith, table.small, out-room k.listed w alive.0 alive.1));
    }

pub loop-w-preserved : goal.loop-w-preserved
loop-w-preserved c =
    let at = c.loop-w in
    let out = c.loop-head in
    let args = c.args in
    let levels = args.levels.now in
    let u = get_or out.support.struck.places out.head 0 in
    let w = get_or c.neighbors-w-items.result.now at.w-index 0 in
    let st = state_of at.marks at.support in
    let e = c.weaken.ensures in
    let is-part = c.neighbors-w-items.ensures in
    let place : w ≡ get_or (neighbors_of args.starts.now args.links.now u) at.w-index 0 = ap (λ p. get_or p at.w-index 0) is-part in
    record {
      waits = omega (arith, at.invariant.waits, weaken_end levels u w st, ap (λ r. r.end) e);
      front = ap (λ r. take (out.head + 1) r.struck) e ∙ weaken_front levels u w st (out.head + 1) (omega (arith, at.invariant.waits)) ∙ at.invariant.front;
      striking = rw (e, place) (withdraw_next c.requires.sound_table out.head out.invariant.striking c.loop-head-test.true at.w-index (rw is-part at c.loop-w-test.true) (at.invariant.waits, at.invariant.front) at.invariant.striking);
    }

pub loop-head-smaller : goal.loop-head-smaller
loop-head-smaller c = omega (arith, out_within c.loop-head.invariant.striking.listed)

pub loop-head-preserved : goal.loop-head-preserved
loop-head-preserved c =
    let at = c.loop-w in
    let out = c.loop-head in
    let is-part = c.neighbors-w-items.ensures in
    record {
      bound = omega (arith, at.invariant.waits);
      striking = withdraw_end c.requires.sound_table out.head out.invariant.striking c.loop-head-test.true (at.invariant.waits, at.invariant.front) at.w-index (rw is-part at c.loop-w-test.false) at.invariant.striking;
    }

pub returns : goal.returns
returns c = settle_end c.requires.sound_table c.loop-head.head c.loop-head.invariant.bound c.loop-head-test.false c.loop-head.invariant.striking
