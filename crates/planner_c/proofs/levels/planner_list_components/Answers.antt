use Rattle.std.proofs.Common.{ap, ◌∙◌}
use Rattle.components.specs.Answers.{list_of}
use Rattle.numbers.specs.Numbers.{listed_as}
use Rattle.planner_c.proofs.Numbers.{told}
use Rattle.planner_c.proofs.levels.planner_list_components.Goals as goal

pub returns-clause-fact : goal.returns-clause-fact
unfolding list_of
returns-clause-fact c = let w = c.list_components.ensures in (told _ _ _ c.from.ensures w.0, w.1, w.2, w.3)

pub returns-clause-told : goal.returns-clause-told
returns-clause-told c = c.from.ensures ∙ ap listed_as c.list_components.ensures.0
