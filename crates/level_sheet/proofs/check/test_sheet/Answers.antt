use Rattle.std.proofs.Common.{◌∙◌, sym}
use Rattle.level_sheet.proofs.Faults.{numbered-answer}
use Rattle.level_sheet.proofs.Laws.{wrong_levels, wrong_layers, faults_decide}
use Rattle.level_sheet.proofs.check.test_sheet.Goals.{then-levels-n-via-then-levels-n, then-levels-n-via-else-levels-n+then-layers-n}
use Rattle.level_sheet.proofs.check.test_sheet.Goals as goal

pub returns-then-levels-n : goal.returns-then-levels-n
returns-then-levels-n c =
    rw c.new.ensures (elim c.then-levels-n.branch [
      | then-levels-n-via-then-levels-n w ↦ sym (wrong_levels _ _ _ _ _ w.if-levels-n.true)
      | then-levels-n-via-else-levels-n+then-layers-n w ↦ sym (wrong_layers _ _ _ _ _ w.if-levels-n.false w.if-layers-n.true)
    ])

pub returns-in-Some : goal.returns-in-Some
returns-in-Some c =
    let is = c.in-Some.is in
    let low = rw is at c.lowest_fault.ensures.lowest in
    sym (faults_decide _ _ _ _ _ c.if-levels-n.false c.if-layers-n.false _ _ low ∙ numbered-answer c.in-Some.fault (rw is at c.lowest_fault.ensures.numbered))

pub returns-in-None : goal.returns-in-None
returns-in-None c =
    let is = c.in-None.is in
    let low = rw is at c.lowest_fault.ensures.lowest in
    sym (faults_decide _ _ _ _ _ c.if-levels-n.false c.if-layers-n.false _ _ low)
