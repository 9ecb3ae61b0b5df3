use Rattle.std.proofs.Common.{◌∙◌, eq-eqb, ne_eqb}
use Rattle.stale.proofs.Marks.{numbers-none, numbers_skip, numbers_more}
use Rattle.stale.proofs.mark_numbers.Goals as goal
use Rattle.stale.proofs.mark_numbers.Goals.{then-unsteady-v-eq1, else-unsteady-v-eq1}

pub loop-v-init : goal.loop-v-init
loop-v-init c = numbers-none c.args.component.now c.args.unsteady.now _ c.told-changed

pub loop-v-preserved : goal.loop-v-preserved
loop-v-preserved c =
    let comps = c.args.component.now in
    let marks = c.args.unsteady.now in
    let at = c.loop-v in
    elim c.if-unsteady-v-eq1.branch [
      | then-unsteady-v-eq1 w ↦ rw (w.changed-is ∙ w.mark.ensures) (numbers_more comps marks _ _ at.v at.invariant (eq-eqb _ _ w.if-unsteady-v-eq1.true))
      | else-unsteady-v-eq1 w ↦ rw w.changed-is (numbers_skip comps marks _ _ at.v at.invariant (ne_eqb _ _ w.if-unsteady-v-eq1.false))
    ]
