-- What the edge brings, and the rows found by it.
use Rattle.stale.proofs.Events.{edge_known}
use Rattle.events.proofs.Edges.{either-not}
use Rattle.events.proofs.mark_rows.Goals as goal

pub returns : goal.returns
returns c columns bares G before =
    c.mark_stale.ensures _ _ _ _
    (edge_known c.requires.sound_table before.simple before.size before.parted (λ u b n m. before.lists u b (either-not _ _ u n m)) before.columns columns before.bares bares c.mark_edge.ensures)
