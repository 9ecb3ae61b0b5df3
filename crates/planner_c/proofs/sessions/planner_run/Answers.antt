use Rattle.std.proofs.Common.{sym, ap, ◌∙◌}
use Rattle.table.proofs.Guards.{cleared}
use Rattle.numbers.specs.Numbers.{ran_as}
use Rattle.planner_c.proofs.Numbers.{told, run_numbered}
use Rattle.planner_c.proofs.sessions.planner_run.Goals as goal

pub returns-clause-fact : goal.returns-clause-fact
returns-clause-fact c = let run = c.run.ensures.fact in (told _ _ _ c.from.ensures run.0, run.1)

pub returns-clause-told : goal.returns-clause-told
returns-clause-told c = c.from.ensures ∙ ap ran_as c.run.ensures.fact.0

pub returns-clause-claim : goal.returns-clause-claim
returns-clause-claim c =
    let run = c.run.ensures in
    let answered = told _ _ _ c.from.ensures run.fact.0 in
    λ e. run.claim _ (run.fact.0 ∙ cleared _ _ (run_numbered _ _ _ _ _ _ _ (sym (ap (λ r. r.number) answered) ∙ e)))
