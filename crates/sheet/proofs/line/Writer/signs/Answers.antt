-- One sign more. Assumes nothing.
use Rattle.std.proofs.Common.{rules, arith, refl}
use Rattle.finite.proofs.Count.{length-tabulate}
use Rattle.sheet.specs.Line.{sign_at, lifted_by}
use Rattle.sheet.proofs.Written.{written_none, written_more, written-length}
use Rattle.sheet.proofs.line.Writer.signs.Goals as goal

pub loop-mark-init : goal.loop-mark-init
loop-mark-init c = record { same = refl; wrote = written_none (sign_at (lifted_by c.args.marks.now)) }

pub byte-requires : goal.byte-requires
byte-requires c = omega (arith, length-tabulate, written-length c.loop-mark.invariant.wrote)

pub loop-mark-preserved : goal.loop-mark-preserved
loop-mark-preserved c = record {
  same = search rules;
  wrote = written_more (sign_at (lifted_by c.args.marks.now)) c.loop-mark.mark-index c.loop-mark.invariant.wrote (rw c.sign_of.ensures at c.byte.ensures.wrote);
}
