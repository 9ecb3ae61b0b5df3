use Rattle.std.proofs.Common.{◌≡◌, ◌+◌, ◌∙◌, arith}
use Rattle.peel.proofs.Steps.{can_look_next, looks-more}
use Rattle.peel.proofs.Worksheet.seed.Goals as goal

pub look-requires-clause-can_look : goal.look-requires-clause-can_look
look-requires-clause-can_look c =
    let s = c.loop-v.invariant.looks in
    rw s.0 (can_look_next s.1 c.args.n c.loop-v-test.true c.requires.can_look)

pub loop-v-preserved : goal.loop-v-preserved
loop-v-preserved c =
    let s = c.loop-v.invariant.looks in
    let e = c.look.ensures.looks in
    record {
      same_sheet = (cc, cc);
      looks = (e.0 ∙ s.0, looks-more s.1 {to = c.loop-v.v + 1} (omega arith) (rw s.0 at e.1));
    }

pub returns-clause-looks : goal.returns-clause-looks
returns-clause-looks c =
    let all : c.loop-v.v ≡ c.args.n = omega arith in
    rw all at c.loop-v.invariant.looks
