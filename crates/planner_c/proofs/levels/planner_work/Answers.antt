use Rattle.std.proofs.Common.{ap, ◌∙◌}
use Rattle.numbers.specs.Numbers.{worked_as}
use Rattle.planner_c.proofs.Numbers.{told}
use Rattle.planner_c.proofs.levels.planner_work.Goals as goal

pub returns-clause-fact : goal.returns-clause-fact
returns-clause-fact c = let w = c.work.ensures in (told _ _ _ c.from.ensures w.0, w.1, w.2, w.3)

pub returns-clause-told : goal.returns-clause-told
returns-clause-told c = c.from.ensures ∙ ap worked_as c.work.ensures.0
