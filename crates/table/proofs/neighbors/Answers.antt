use Rattle.std.proofs.Common.{rules}
use Rattle.table.specs.Table.{neighbors as neighbors_of}
use Rattle.table.proofs.neighbors.Goals as goal

pub returns : goal.returns
unfolding neighbors_of
returns c = search rules
