use Rattle.std.proofs.Common.{ap, ◌∙◌}
use Rattle.numbers.specs.Numbers.{dated_as}
use Rattle.planner_c.proofs.Numbers.{told}
use Rattle.planner_c.proofs.days.planner_first_day.Goals as goal

pub returns-clause-answer : goal.returns-clause-answer
returns-clause-answer c = told _ _ _ c.from.ensures c.first_day.ensures

pub returns-clause-told : goal.returns-clause-told
returns-clause-told c = c.from.ensures ∙ ap dated_as c.first_day.ensures
