use Rattle.table.specs.Table.{beyond}
use Rattle.finite.proofs.Search.{any-count}
use Rattle.table.proofs.rules.is_beyond.Goals as goal

pub returns : goal.returns
unfolding beyond
returns c = simp (any-count, c.count_at_least.ensures, c.neighbors.ensures)
