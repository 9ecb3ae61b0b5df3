use Rattle.std.proofs.Common.{◌≡◌, List, ℕ, arith}
use Rattle.std.proofs.Math.Seq.{slice_empty}
use Rattle.pool.specs.Input.{graph_of, Admitted}
use Rattle.peel.specs.Peeling.{Sized}
use Rattle.peel.proofs.Steps.{remove-bounds, remove_can, remove}
use Rattle.peel.proofs.Worksheet.batch.Goals as goal

size : {s l a : List ℕ} → Admitted s l a → Sized (graph_of s l) a
size h = (h.long, h.table.small)

pub offset_bounds-self-i : goal.offset_bounds-self-i
offset_bounds-self-i c =
    let r = c.requires.can_remove in
    let inv = c.loop-i.invariant in
    omega (arith, remove-bounds (size r.admitted) inv.long c.loop-i-test.true inv.grows (inv.moves _ r.admitted r.state), c.loop-i-test.true)

pub bounds-self-i : goal.bounds-self-i
bounds-self-i c =
    let r = c.requires.can_remove in
    let inv = c.loop-i.invariant in
    omega (arith, remove-bounds (size r.admitted) inv.long c.loop-i-test.true inv.grows (inv.moves _ r.admitted r.state), c.loop-i-test.true)

pub neighbors-part-requires-clause-v_bound : goal.neighbors-part-requires-clause-v_bound
neighbors-part-requires-clause-v_bound c =
    let r = c.requires.can_remove in
    let inv = c.loop-i.invariant in
    (remove-bounds (size r.admitted) inv.long c.loop-i-test.true inv.grows (inv.moves _ r.admitted r.state)).1

pub lower-requires-clause-can_strike : goal.lower-requires-clause-can_strike
lower-requires-clause-can_strike c =
    let r = c.requires.can_remove in
    let inv = c.loop-i.invariant in
    rw c.neighbors-part.ensures (remove_can (size r.admitted) inv.long c.loop-i-test.true inv.grows (inv.moves _ r.admitted r.state))

pub loop-i-preserved : goal.loop-i-preserved
loop-i-preserved c =
    let inv = c.loop-i.invariant in
    let s = c.lower.ensures.strikes in
    let struck = rw c.neighbors-part.ensures at s in
    record {
      same_sheet = (cc, cc);
      grows = omega (arith, inv.grows, s.grows);
      long = s.long;
      moves = λ a h P. remove (size h) inv.long c.loop-i-test.true inv.grows (inv.moves a h P) struck;
    }

pub returns-clause-removes : goal.returns-clause-removes
returns-clause-removes c =
    let loop = c.loop-i in
    let end = c.args.self.now.tail in
    let done : loop.i ≡ end = omega arith in
    record { moves = rw (done, slice_empty end loop.self.queue) at loop.invariant.moves; grows = loop.invariant.grows; long = loop.invariant.long }
