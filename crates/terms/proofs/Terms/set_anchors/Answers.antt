use Rattle.std.proofs.Common.{arith, sym, ◌∙◌}
use Rattle.anchored.specs.Terms.{terms}
use Rattle.terms.proofs.Days.{shows_yes, shows_no}
use Rattle.terms.proofs.Terms.set_anchors.Goals.{then-runs, else-runs}
use Rattle.terms.proofs.Terms.set_anchors.Goals as goal

pub loop-i-preserved : goal.loop-i-preserved
loop-i-preserved c =
    let at = c.loop-i in
    let s = c.args.self.now in
    let t = terms s.vertices.now s.firsts.now s.ends.now in
    elim c.if-runs.branch [
      | then-runs w ↦ rw w.bytes-is (shows_yes t c.args.day at.bytes at.i at.invariant (c.requires.terms_below.within at.i (omega arith)) (sym c.runs.ensures ∙ w.if-runs.true))
      | else-runs w ↦ rw w.bytes-is (shows_no t c.args.day at.bytes at.i at.invariant (sym c.runs.ensures ∙ w.if-runs.false))
    ]
