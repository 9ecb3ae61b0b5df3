use Rattle.stale.proofs.Events.{passes_bring}
use Rattle.stale.proofs.mark_edge.Goals as goal

pub returns : goal.returns
returns c =
    let args = c.args in
    passes_bring args.n args.before.now args.after.now args.bare.now args.fresh.now args.a args.b c.requires.a_bound c.requires.b_bound
    c.mark_inside.ensures c.mark_inside-2.ensures c.mark_differing.ensures
