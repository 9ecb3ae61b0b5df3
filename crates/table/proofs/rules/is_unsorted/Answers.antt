use Rattle.table.specs.Table.{unsorted}
use Rattle.table.proofs.rules.is_unsorted.Goals as goal

pub returns : goal.returns
unfolding unsorted
returns c = simp (c.is_ascending.ensures, c.neighbors.ensures)
