use Rattle.std.proofs.Common.{ap, ◌∙◌}
use Rattle.search.specs.Answers.{followers_of}
use Rattle.numbers.specs.Numbers.{searched_as}
use Rattle.planner_c.proofs.Numbers.{told}
use Rattle.planner_c.proofs.levels.planner_followers.Goals as goal

pub returns-clause-fact : goal.returns-clause-fact
unfolding followers_of
returns-clause-fact c = let w = c.followers.ensures in (told _ _ _ c.from.ensures w.answer, w.marks)

pub returns-clause-told : goal.returns-clause-told
returns-clause-told c = c.from.ensures ∙ ap searched_as c.followers.ensures.answer
