use Rattle.std.proofs.Common.{arith}
use Rattle.stale.proofs.Stale.{above-few}
use Rattle.stale.proofs.fill_above.Goals as goal

pub overflow_cast-above : goal.overflow_cast-above
overflow_cast-above c =
    omega (arith, c.count_above.ensures, above-few c.args.starts.now c.args.links.now c.requires.sound_table c.args.level.now c.loop-v.v (omega arith))
