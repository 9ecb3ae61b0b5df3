-- A refusal leaves all; an edge that may be added or dropped leaves what the plain session has.
use Rattle.std.proofs.Common.{sym}
use Rattle.anchored.proofs.Events.{edge_editable}
use Rattle.edit.specs.Change.{is_adding}
use Rattle.events.proofs.Edges.{renewable, changed_turned, edge-refused, refusal_some}
use Rattle.events.proofs.change_edge.Goals as goal

pub returns-in-Err : goal.returns-in-Err
returns-in-Err c =
    let x = c.args in
    rw c.refused.ensures (edge-refused c.requires.tabled c.requires.right x.position (is_adding x.change) x.a x.b _ (sym c.in-Err.ensures) (refusal_some c.in-Err.rule))

pub edit-requires-clause-editable : goal.edit-requires-clause-editable
edit-requires-clause-editable c = edge_editable _ _ c.in_default.ensures

pub renew-requires-clause-a_bound : goal.renew-requires-clause-a_bound
renew-requires-clause-a_bound c = (renewable c.requires.right (edge_editable _ _ c.in_default.ensures) c.edit.ensures).1

pub renew-requires-clause-b_bound : goal.renew-requires-clause-b_bound
renew-requires-clause-b_bound c = (renewable c.requires.right (edge_editable _ _ c.in_default.ensures) c.edit.ensures).2

pub returns : goal.returns
returns c = let x = c.args in changed_turned (is_adding x.change) x.a x.b c.requires.right c.in_default.ensures c.edit.ensures c.renew.ensures
