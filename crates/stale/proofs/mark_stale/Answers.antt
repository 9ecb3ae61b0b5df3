use Rattle.stale.proofs.Stale.{passes_find}
use Rattle.stale.proofs.mark_stale.Goals as goal

pub returns : goal.returns
returns c =
    let args = c.args in
    passes_find c.requires.sound_table args.before.now args.after.now args.bound.now args.stale.now
    c.mark_differing.ensures c.mark_differing-2.ensures c.mark_differing-3.ensures
    c.mark_numbers.ensures c.mark_numbers-2.ensures c.mark_differing-4.ensures c.mark_lookers.ensures c.mark_lookers-2.ensures
