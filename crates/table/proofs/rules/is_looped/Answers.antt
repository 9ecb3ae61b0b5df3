use Rattle.table.specs.Table.{looped}
use Rattle.finite.proofs.Search.{member-count}
use Rattle.table.proofs.rules.is_looped.Goals as goal

pub returns : goal.returns
unfolding looped
returns c = simp (member-count, c.count_at_least-2.ensures, c.count_at_least.ensures, c.neighbors-part.ensures)
