use Rattle.std.proofs.Common.{eq-eqb, ne_eqb, sym, ◌∙◌}
use Rattle.cascade.specs.Cascade.{held_by}
use Rattle.cascade.proofs.count_held.Goals as goal

pub returns-then-kept : goal.returns-then-kept
unfolding held_by
returns-then-kept c = let fresh = eq-eqb _ _ c.if-kept.true in c.count_holders.ensures ∙ sym (rw fresh)

pub returns-else-kept : goal.returns-else-kept
unfolding held_by
returns-else-kept c = simp (ne_eqb _ _ c.if-kept.false)
