use Rattle.std.proofs.Common.{ap, ◌∙◌}
use Rattle.numbers.specs.Numbers.{collapsed_as}
use Rattle.planner_c.proofs.Numbers.{told}
use Rattle.planner_c.proofs.levels.planner_collapse.Goals as goal

pub returns-clause-fact : goal.returns-clause-fact
returns-clause-fact c = let w = c.collapse.ensures in (told _ _ _ c.from.ensures w.0, w.1)

pub returns-clause-told : goal.returns-clause-told
returns-clause-told c = c.from.ensures ∙ ap collapsed_as c.collapse.ensures.0
