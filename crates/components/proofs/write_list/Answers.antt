-- the arrays list the components of the definitions
use Rattle.std.proofs.Common.{ap, ◌∙◌}
use Rattle.table.specs.Guard.{front}
use Rattle.pool.specs.Input.{graph_of, anchored_by}
use Rattle.pool.proofs.Laws.{simple}
use Rattle.components.proofs.Entries.{Defined, defined}
use Rattle.components.proofs.write_list.Goals as goal
use Rattle.components.proofs.write_list.Goals.{After-count_members}

lists : (c : After-count_members) → let args = c.args in
    Defined (graph_of args.starts.now args.links.now) (anchored_by args.anchored.now) c.fill.new.level c.fill.new.component c.count_members.new.size
lists c =
    let table = c.requires.admitted.table in
    let filled = c.fill.ensures in
    defined _ (simple table) _ table.small _ _ _ filled.levels filled.components c.count_members.ensures

pub list-requires-clause-low : goal.list-requires-clause-low
list-requires-clause-low c = (lists (goal.at.list-requires-clause-low c).After-count_members).low

pub list-requires-clause-n_len_bound : goal.list-requires-clause-n_len_bound
list-requires-clause-n_len_bound c = (lists (goal.at.list-requires-clause-n_len_bound c).After-count_members).few

pub returns-clause-count : goal.returns-clause-count
returns-clause-count c = c.list.ensures.count ∙ (lists (goal.at.returns-clause-count c).After-count_members).counted

pub returns-clause-levels : goal.returns-clause-levels
returns-clause-levels c = c.list.ensures.levels ∙ ap (λ l. front l c.args.levels.now) (lists (goal.at.returns-clause-levels c).After-count_members).levels_are

pub returns-clause-sizes : goal.returns-clause-sizes
returns-clause-sizes c = c.list.ensures.sizes ∙ ap (λ l. front l c.args.sizes.now) (lists (goal.at.returns-clause-sizes c).After-count_members).sizes_are

pub returns-clause-numbers : goal.returns-clause-numbers
returns-clause-numbers c = c.list.ensures.numbers ∙ ap (λ l. front l c.args.numbers.now) (lists (goal.at.returns-clause-numbers c).After-count_members).numbers_are
