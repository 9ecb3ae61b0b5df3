use Rattle.std.proofs.Common.{◌≡◌, [], arith}
use Rattle.std.proofs.Math.Seq.{slice_empty}
use Rattle.pool.specs.Input.{graph_of}
use Rattle.peel.proofs.Peeling.{room-all}
use Rattle.peel.proofs.Steps.{next-turn, next-shell}
use Rattle.peel.proofs.Worksheet.shell.Goals as goal

pub loop-head-init : goal.loop-head-init
loop-head-init c =
    let p = c.requires in
    let s = c.seed.ensures.looks in
    let t = s.1 in
    let first = next-turn (t.moves (graph_of c.args.starts.now c.args.links.now) (p.admitted.long, p.admitted.table.small) (omega arith) [] p.peels) in
    record {
      same_sheet = c.seed.ensures.same_sheet;
      ordered = t.grows;
      within = omega (arith, room-all first.peeling, p.admitted.table.small);
      turns = omega arith;
      long = rw s.0 t.long;
      peels = rw s.0 first;
    }

pub loop-head-preserved : goal.loop-head-preserved
loop-head-preserved c =
    let p = c.requires in
    let inv = c.loop-head.invariant in
    let b = c.batch.ensures.removes in
    let next = b.moves _ p.admitted inv.peels in
    record {
      same_sheet = (cc, cc);
      ordered = b.grows;
      within = omega (arith, room-all next.peeling, p.admitted.table.small);
      turns = omega (arith, inv.turns, c.loop-head-test.true);
      long = b.long;
      peels = next-turn next;
    }

pub returns-clause-peels : goal.returns-clause-peels
returns-clause-peels c =
    let w = c.loop-head.self in
    let inv = c.loop-head.invariant in
    let over : c.loop-head.head ≡ w.tail = omega (arith, inv.ordered) in
    next-shell (rw (over, slice_empty w.tail w.queue) at inv.peels) (omega (arith, c.requires.k_bound))
