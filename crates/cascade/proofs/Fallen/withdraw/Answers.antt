use Rattle.std.proofs.Common.{sym, ◌∙◌, arith}
use Rattle.finite.proofs.Tests.{of_true, of_false}
use Rattle.cascade.proofs.Withdrawing.{tell-first, vertex-u, vertex-w, tell_skip, some-held, room-left, tell_weaken, told-all}
use Rattle.cascade.proofs.Fallen.withdraw.Goals as goal
use Rattle.cascade.proofs.Fallen.withdraw.Goals.{then-relies, else-relies}

pub neighbors-w-items-requires-clause-v_bound : goal.neighbors-w-items-requires-clause-v_bound
neighbors-w-items-requires-clause-v_bound c = vertex-u c.requires.leveled _ (tell-first c.requires.head_lt_end c.requires.falling_before)

pub relies-requires-clause-w_in_bounds : goal.relies-requires-clause-w_in_bounds
relies-requires-clause-w_in_bounds c =
    let given = c.requires.leveled in
    omega (arith, vertex-w given _ c.loop-w.invariant.telling c.neighbors-w-items.ensures c.loop-w-test.true, given.admitted.long)

pub relies-requires-clause-u_in_bounds : goal.relies-requires-clause-u_in_bounds
relies-requires-clause-u_in_bounds c =
    let given = c.requires.leveled in
    let told = c.loop-w.invariant.telling in
    omega (arith, vertex-u given _ told, vertex-w given _ told c.neighbors-w-items.ensures c.loop-w-test.true, given.long)

pub relies-requires-clause-w_bound : goal.relies-requires-clause-w_bound
relies-requires-clause-w_bound c =
    let given = c.requires.leveled in
    omega (arith, vertex-w given _ c.loop-w.invariant.telling c.neighbors-w-items.ensures c.loop-w-test.true, given.admitted.table.small)

pub weaken-requires-clause-w_bound : goal.weaken-requires-clause-w_bound
weaken-requires-clause-w_bound c = vertex-w c.requires.leveled _ c.loop-w.invariant.telling c.neighbors-w-items.ensures c.loop-w-test.true

pub weaken-requires-clause-w_nonzero : goal.weaken-requires-clause-w_nonzero
weaken-requires-clause-w_nonzero c =
    some-held c.requires.leveled _ c.loop-w.invariant.telling c.neighbors-w-items.ensures c.loop-w-test.true (of_true _ (sym c.relies.ensures ∙ c.if-relies.true))

pub weaken-requires-clause-end_bound : goal.weaken-requires-clause-end_bound
weaken-requires-clause-end_bound c e =
    let given = c.requires.leveled in
    let loses = of_true _ (sym c.relies.ensures ∙ c.if-relies.true) in
    omega (arith, given.admitted.table.small, room-left given _ c.loop-w.invariant.telling c.neighbors-w-items.ensures c.loop-w-test.true loses e)

pub loop-w-preserved : goal.loop-w-preserved
loop-w-preserved c =
    let given = c.requires.leveled in
    let inv = c.loop-w.invariant in
    let part = c.neighbors-w-items.ensures in
    let next = c.loop-w-test.true in
    elim c.if-relies.branch [
      | then-relies d ↦
          let done = d.weaken.ensures in
          let told = tell_weaken given _ inv.telling part next (of_true _ (sym c.relies.ensures ∙ d.if-relies.true)) in
          rw (d.self-is, done.support, done.fallen, done.end) record { same_reference = done.same_reference ∙ inv.same_reference; telling = told }
      | else-relies d ↦
          let told = tell_skip given _ inv.telling part next (of_false _ (sym c.relies.ensures ∙ d.if-relies.false)) in
          rw d.self-is record { same_reference = inv.same_reference; telling = told }
    ]

pub returns-clause-falling : goal.returns-clause-falling
returns-clause-falling c = told-all c.requires.leveled _ c.loop-w.invariant.telling (rw (← c.neighbors-w-items.ensures) c.loop-w-test.false)
