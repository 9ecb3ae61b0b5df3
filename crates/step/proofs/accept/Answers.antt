-- The marked rows are those that the anchor makes stale.
use Rattle.std.proofs.Common.{sym, arith}
use Rattle.pool.proofs.Laws.{byte_free}
use Rattle.stale.proofs.Events.{anchor_known}
use Rattle.step.proofs.Steps.{admitted-set, turned, redone-le, redone-named}
use Rattle.step.proofs.accept.Goals as goal

pub overflow_cast-redone : goal.overflow_cast-redone
overflow_cast-redone c = omega (arith, c.requires.right.admitted.table.small, redone-le c.redo-redone.ensures.rows)

pub returns : goal.returns
returns c =
    let kept = c.args.kept.now in
    let right = c.requires.right in
    let columns = c.refresh-next.ensures in
    let found = c.mark_stale.ensures _ _ _ _ (anchor_known right.admitted.table right.columns columns) in
    let rest = c.redo-redone.ensures.rest in
    turned right c.args.x c.requires.x_bound (byte_free kept.anchored c.args.x c.requires.x_value)
    (redone-named c.redo-redone.ensures.rows (λ v h. sym (found v h)))
    (admitted-set _ _ _ c.args.x right.admitted c.requires.x_bound)
    columns
    (rw (rest.anchored, rest.columns, rest.bare, rest.reaching) at c.accepted.ensures)
