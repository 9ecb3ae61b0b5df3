use Rattle.std.proofs.Common.{sym, ap, ◌∙◌, subst}
use Rattle.level_sheet.specs.SheetCheck.{Tells}
use Rattle.numbers.specs.Numbers.{levels_as}
use Rattle.planner_c.proofs.Numbers.{told, number_is}
use Rattle.planner_c.proofs.levels.planner_check_sheet.Goals as goal

pub returns-clause-answer : goal.returns-clause-answer
returns-clause-answer c = told _ _ _ c.from.ensures c.check_sheet.ensures.answer

pub returns-clause-told : goal.returns-clause-told
returns-clause-told c = c.from.ensures ∙ ap levels_as c.check_sheet.ensures.answer

pub returns-clause-tells : goal.returns-clause-tells
returns-clause-tells c =
    let number = ap (λ r. r.number) c.from.ensures ∙ number_is c.check_sheet.result in
    subst (Tells _ _ _ _ _) (sym number) c.check_sheet.ensures.tells
