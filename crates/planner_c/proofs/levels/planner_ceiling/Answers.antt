use Rattle.std.proofs.Common.{ap, ◌∙◌}
use Rattle.numbers.specs.Numbers.{bounded_as}
use Rattle.planner_c.proofs.Numbers.{told}
use Rattle.planner_c.proofs.levels.planner_ceiling.Goals as goal

pub returns-clause-answer : goal.returns-clause-answer
returns-clause-answer c = told _ _ _ c.from.ensures c.ceiling.ensures

pub returns-clause-told : goal.returns-clause-told
returns-clause-told c = c.from.ensures ∙ ap bounded_as c.ceiling.ensures
