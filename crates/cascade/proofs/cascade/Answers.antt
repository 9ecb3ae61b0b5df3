use Rattle.std.proofs.Common.{refl, arith, rules}
use Rattle.cascade.proofs.Losing.{list-within}
use Rattle.cascade.proofs.Withdrawing.{falling-first, last-tells, last-touched}
use Rattle.cascade.proofs.cascade.Goals as goal

pub loop-head-init : goal.loop-head-init
loop-head-init c =
    let given = c.requires.leveled in
    record { same_reference = refl; in_list = omega arith; falling = falling-first given _ 1024 given.admitted.table.small c.requires.x_bound }

pub overflow_add-head : goal.overflow_add-head
overflow_add-head c =
    let given = c.requires.leveled in
    omega (arith, list-within given _ c.loop-head.invariant.falling, given.admitted.table.small)

pub loop-head-smaller : goal.loop-head-smaller
loop-head-smaller c = omega (arith, list-within c.requires.leveled _ c.loop-head.invariant.falling)

pub returns-clause-falls : goal.returns-clause-falls
returns-clause-falls c = last-tells c.requires.leveled _ c.loop-head.head (search rules) c.loop-head.invariant.falling (omega arith)

pub returns-clause-local : goal.returns-clause-local
returns-clause-local c = last-touched c.requires.leveled _ c.loop-head.head (search rules) c.loop-head.invariant.falling
