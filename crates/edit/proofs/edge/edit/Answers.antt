-- Both ends are put in, or both are taken out.
use Rattle.edit.proofs.Edges.{first_put, second_put, added, dropped}
use Rattle.edit.proofs.edge.edit.Goals as goal

pub put-requires-clause-starts_in_bounds : goal.put-requires-clause-starts_in_bounds
put-requires-clause-starts_in_bounds c = (first_put c.requires.tabled (rw c.in-Add.is at c.requires.editable) tt).1.1.0

pub put-requires-in-Add-clause-starts_in_bounds : goal.put-requires-in-Add-clause-starts_in_bounds
put-requires-in-Add-clause-starts_in_bounds c = (second_put c.requires.tabled (rw c.in-Add.is at c.requires.editable) tt c.put.ensures).1.1.0

pub returns-in-Add : goal.returns-in-Add
returns-in-Add c = rw c.in-Add.is (added c.requires.tabled (rw c.in-Add.is at c.requires.editable) tt c.put.ensures c.put-in-Add.ensures)

pub returns-in-Drop : goal.returns-in-Drop
returns-in-Drop c = rw c.in-Drop.is (dropped c.requires.tabled (rw c.in-Drop.is at c.requires.editable) tt c.take.ensures c.take-in-Drop.ensures)
