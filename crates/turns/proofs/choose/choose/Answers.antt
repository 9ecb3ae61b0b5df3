-- A vertex of a greater yield takes the lead; any other leaves it. Assumes nothing.
use Rattle.std.proofs.Common.{◌≡◌, arith, rules, ◌∙◌}
use mir.Syntax.{w16}
use mir.Val.{to_z, of_z}
use lib.Signed.{lt_z_yes, lt_z_no}
use Rattle.finite.proofs.Tests.{of_true, of_false}
use Rattle.turns.proofs.Choices.{seen_some, seen_none, leading_above, leading_keep, leading_take, leading_all}
use Rattle.turns.proofs.Found.{found_held}
use Rattle.turns.proofs.choose.choose.Goals as goal
use Rattle.turns.proofs.choose.choose.Goals.{in-Some+then-greatest-y, in-Some+else-greatest-y, in_default}

pub loop-v-preserved : goal.loop-v-preserved
loop-v-preserved c =
    let leads = c.loop-v.invariant.leads in elim c.match-y.branch [
      | in-Some+then-greatest-y w ↦
          let y : to_z w16 (of_z w16 w.in-Some.y) ≡ w.in-Some.y = search rules in
          let e = y ∙ rw c.from-own.ensures at (seen_some _ _ w.in-Some.ensures) in record {
            within = rw w.chosen-is (omega arith);
            leads = rw (w.chosen-is, w.greatest-is, e) (leading_take _ _ leads (omega arith) (lt_z_yes (of_true _ (rw e at w.if-greatest-y.true))));
          }
      | in-Some+else-greatest-y w ↦
          let y : to_z w16 (of_z w16 w.in-Some.y) ≡ w.in-Some.y = search rules in
          let e = y ∙ rw c.from-own.ensures at (seen_some _ _ w.in-Some.ensures) in record {
            within = rw w.chosen-is c.loop-v.invariant.within;
            leads = rw (w.chosen-is, w.greatest-is) (leading_keep _ _ leads (lt_z_no (of_false _ (rw e at w.if-greatest-y.false))));
          }
      | in_default w ↦
          let e = rw c.from-own.ensures at (seen_none _ _ w.in_default.ensures) in record {
            within = rw w.chosen-is c.loop-v.invariant.within;
            leads = rw (w.chosen-is, w.greatest-is) (leading_keep _ _ leads (rw e (leading_above _ _ leads)));
          }
    ]

pub returns : goal.returns
returns c =
    let args = c.args in
    let inv = c.loop-v.invariant in
    let e : c.loop-v.v ≡ args.n = omega arith in
    found_held args.n c.loop-v.chosen inv.within (leading_all _ _ (rw e at inv.leads))
