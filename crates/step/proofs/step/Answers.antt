-- The two refusals.
use Rattle.std.proofs.Common.{◌≤◌, ◌<◌, arith}
use Rattle.table.specs.Table.{vertices}
use Rattle.step.proofs.Steps.{refused-vertex, refused-anchored}
use Rattle.step.proofs.step.Goals as goal

pub returns-then-starts-x : goal.returns-then-starts-x
returns-then-starts-x c =
    let far : vertices c.args.starts.now ≤ c.args.x = omega arith in
    rw c.refused.ensures (refused-vertex c.requires c.args.position c.args.x far)

pub returns-then-kept-x-eq1 : goal.returns-then-kept-x-eq1
returns-then-kept-x-eq1 c =
    let inside : c.args.x < vertices c.args.starts.now = omega arith in
    rw c.refused-then-kept-x-eq1.ensures (refused-anchored c.requires c.args.position c.args.x inside c.if-kept-x-eq1.true)
