-- One byte more. Assumes nothing.
use Rattle.std.proofs.Common.{rules, arith, refl}
use Rattle.std.specs.Prelude.{get_or}
use Rattle.finite.proofs.Count.{length-tabulate, tabulate-self}
use Rattle.sheet.proofs.Written.{written_as, written_none, written_more, written-length}
use Rattle.sheet.proofs.line.Writer.text.Goals as goal

pub loop-byte-init : goal.loop-byte-init
loop-byte-init c = record { same = refl; wrote = written_none (λ i. get_or c.args.text.now i 0) }

pub byte-requires : goal.byte-requires
byte-requires c = omega (arith, length-tabulate, written-length c.loop-byte.invariant.wrote)

pub loop-byte-preserved : goal.loop-byte-preserved
loop-byte-preserved c = record {
  same = search rules;
  wrote = written_more (λ i. get_or c.args.text.now i 0) c.loop-byte.byte-index c.loop-byte.invariant.wrote c.byte.ensures.wrote;
}

pub returns-clause-wrote : goal.returns-clause-wrote
returns-clause-wrote c = written_as (tabulate-self c.args.text.now _ (omega arith)) c.loop-byte.invariant.wrote
