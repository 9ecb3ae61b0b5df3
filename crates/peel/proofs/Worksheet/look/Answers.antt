-- Each way out is a step of the peeling.
use Rattle.std.proofs.Common.{◌≡◌, set, refl, arith}
use borrow.Author.Tests.{ne_eqb}
use Rattle.finite.proofs.Tests.{neqb, of_false}
use Rattle.peel.proofs.Steps.{looks_pass, look_room, looks_settle}
use Rattle.peel.proofs.Worksheet.look.Goals as goal
use Rattle.peel.proofs.Worksheet.look.Goals.{else-self-v-via-then-self-v+else-anchored-v-ne1, else-self-v-via-else-self-v}

pub settle-requires : goal.settle-requires
settle-requires c =
    let p = c.requires in
    (omega (arith, p.can_look.reaches, p.can_look.size), (look_room p.long p.can_look (of_false _ (ne_eqb _ _ c.if-anchored-v-ne1.true)) c.if-self-v.true).1)

pub returns-then-anchored-v-ne1-clause-looks : goal.returns-then-anchored-v-ne1-clause-looks
returns-then-anchored-v-ne1-clause-looks c =
    let p = c.requires in
    let e = c.settle.ensures in
    let level : c.settle.new.self.level.now ≡ set c.args.self.now.level.now c.args.v c.args.k = cc in
    (e.degree, rw (level, e.layer, e.queue, e.tail) (looks_settle p.long p.can_look (of_false _ (ne_eqb _ _ c.if-anchored-v-ne1.true)) c.if-self-v.true))

pub returns-else-self-v-clause-looks : goal.returns-else-self-v-clause-looks
returns-else-self-v-clause-looks c =
    let long = c.requires.long in (
      refl,
      elim c.else-self-v.branch [
        | else-self-v-via-then-self-v+else-anchored-v-ne1 w ↦ looks_pass long (λ free. absurd (neqb _ _ free w.if-anchored-v-ne1.false))
        | else-self-v-via-else-self-v w ↦ looks_pass long (λ free. w.if-self-v.false)
      ],
    )
