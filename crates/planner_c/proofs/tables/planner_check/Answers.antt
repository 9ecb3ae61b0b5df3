use Rattle.std.proofs.Common.{ap, ◌∙◌}
use Rattle.numbers.specs.Numbers.{checked_as}
use Rattle.planner_c.proofs.Numbers.{told}
use Rattle.planner_c.proofs.tables.planner_check.Goals as goal

pub returns-clause-answer : goal.returns-clause-answer
returns-clause-answer c = told _ _ _ c.from.ensures c.check.ensures

pub returns-clause-told : goal.returns-clause-told
returns-clause-told c = c.from.ensures ∙ ap checked_as c.check.ensures
