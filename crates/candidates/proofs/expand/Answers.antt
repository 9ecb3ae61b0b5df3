use Rattle.std.proofs.Common.{take, get_or, sym, ◌∙◌, arith}
use lib.Dec.{T, T_not}
use Rattle.finite.specs.Count.{In}
use Rattle.finite.proofs.Tests.{of_true, of_false}
use Rattle.candidates.specs.Reaching.{is_first, steps_of}
use Rattle.candidates.proofs.Reaching.{neighbor_at, visit_all-start, marked, queue_room, push, visit_push, visit_pass}
use Rattle.candidates.proofs.expand.Goals as goal
use Rattle.candidates.proofs.expand.Goals.{then-steps+then-marks-w-eq0, else-steps, else-steps-via-then-steps+else-marks-w-eq0, else-steps-via-else-steps}

pub loop-next-init : goal.loop-next-init
loop-next-init c = record {
  queued = c.requires.queued_2;
  visited = sym (visit_all-start _ _ c.neighbors-next-items.result.now);
}

pub steps-requires : goal.steps-requires
steps-requires c =
    let sheet = c.requires.sheet in
    omega (arith, sheet.leveled.admitted.long, neighbor_at sheet.leveled.admitted.table c.args.u c.requires.u_bound c.neighbors-next-items.ensures c.loop-next.next-index c.loop-next-test.true)

pub bounds-marks-w : goal.bounds-marks-w
bounds-marks-w c =
    let table = c.requires.sheet.leveled.admitted.table in
    omega (arith, neighbor_at table c.args.u c.requires.u_bound c.neighbors-next-items.ensures c.loop-next.next-index c.loop-next-test.true)

pub bounds-marks-w-then-marks-w-eq0 : goal.bounds-marks-w-then-marks-w-eq0
bounds-marks-w-then-marks-w-eq0 c =
    let table = c.requires.sheet.leveled.admitted.table in
    omega (arith, neighbor_at table c.args.u c.requires.u_bound c.neighbors-next-items.ensures c.loop-next.next-index c.loop-next-test.true)

pub push-requires : goal.push-requires
push-requires c =
    let table = c.requires.sheet.leveled.admitted.table in
    let w = get_or c.neighbors-next-items.result.now c.loop-next.next-index 0 in
    let b = neighbor_at table c.args.u c.requires.u_bound c.neighbors-next-items.ensures c.loop-next.next-index c.loop-next-test.true in
    omega (arith, queue_room c.loop-next.invariant.queued w b c.if-marks-w-eq0.true)

pub loop-next-preserved : goal.loop-next-preserved
loop-next-preserved c =
    let at = c.loop-next in
    let args = c.args in
    let part = c.neighbors-next-items.result.now in
    let w = get_or part at.next-index 0 in
    let b = neighbor_at c.requires.sheet.leveled.admitted.table args.u c.requires.u_bound c.neighbors-next-items.ensures at.next-index c.loop-next-test.true in
    let test = steps_of args.anchored.now args.levels.now args.layers.now (is_first args.step) args.u in
    let q = take args.queue.now.tail args.queue.now.places in
    elim c.if-steps.branch [
      | then-steps+then-marks-w-eq0 d ↦
          let t = of_true (test w) (sym c.steps.ensures ∙ d.if-steps.true) in
          rw (d.marks-is, d.queue-is, d.push.ensures.places, d.push.ensures.tail) (record {
            queued = push at.invariant.queued w b d.if-marks-w-eq0.true;
            visited = visit_push at.invariant.queued test q part at.next-index c.loop-next-test.true at.invariant.visited b t d.if-marks-w-eq0.true;
          })
      | else-steps d ↦
          let there : T (test w) → In w (take at.queue.tail at.queue.places) = λ t. elim d.else-steps.branch [
            | else-steps-via-then-steps+else-marks-w-eq0 e ↦ marked at.invariant.queued w e.if-marks-w-eq0.false
            | else-steps-via-else-steps e ↦ absurd (T_not (test w) (of_false (test w) (sym c.steps.ensures ∙ e.if-steps.false)) t)
          ] in
          rw (d.marks-is, d.queue-is) (record {
            queued = at.invariant.queued;
            visited = visit_pass at.invariant.queued test q part at.next-index c.loop-next-test.true at.invariant.visited there;
          })
    ]
