-- By the kind that the number stands for.
use Rattle.anchored.specs.Events.{event_of}
use Rattle.events.proofs.Edges.{anchor_turned, kind_turned}
use Rattle.events.proofs.turn.Goals as goal

pub returns-in-Ok-Anchor : goal.returns-in-Ok-Anchor
returns-in-Ok-Anchor c =
    let x = c.args in
    anchor_turned c.requires.tabled c.requires.right x.position (event_of x.kind x.first x.second) (rw c.in-Ok-Anchor.field-0-is at c.in-Ok-Anchor.ensures) c.step.ensures

pub returns-in-Err : goal.returns-in-Err
returns-in-Err c =
    let x = c.args in
    rw (c.refused.ensures, c.in-Err.ensures.1) (kind_turned c.requires.tabled c.requires.right x.position (event_of x.kind x.first x.second) c.in-Err.ensures.0)
