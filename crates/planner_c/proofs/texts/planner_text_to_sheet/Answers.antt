use Rattle.std.proofs.Common.{ap, ◌∙◌}
use Rattle.numbers.specs.Numbers.{answered_as}
use Rattle.planner_c.proofs.texts.planner_text_to_sheet.Goals as goal

pub returns-clause-answer : goal.returns-clause-answer
returns-clause-answer c = c.from.ensures ∙ ap answered_as c.text_to_sheet.ensures.answer
