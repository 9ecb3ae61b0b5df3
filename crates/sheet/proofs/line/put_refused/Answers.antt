-- The numbers have at most 20 digits each, and the three calls write one behind the other. Assumes nothing.
use Rattle.std.proofs.Common.{rules, arith}
use Rattle.sheet.specs.Line.{refused_line}
use Rattle.sheet.proofs.Written.{written_then, written-length}
use Rattle.sheet.proofs.Lines.{decimal_short}
use Rattle.sheet.proofs.line.put_refused.Goals as goal

pub labeled-requires : goal.labeled-requires
labeled-requires c = omega (arith, decimal_short c.args.number (omega arith), decimal_short c.args.place (omega arith))

pub labeled-requires-2 : goal.labeled-requires-2
labeled-requires-2 c = omega (arith, decimal_short c.args.number (omega arith), decimal_short c.args.place (omega arith), written-length c.labeled.ensures.wrote)

pub text-requires : goal.text-requires
text-requires c = omega (arith, decimal_short c.args.number (omega arith), decimal_short c.args.place (omega arith), written-length c.labeled.ensures.wrote, written-length c.labeled-2.ensures.wrote)

pub returns : goal.returns
unfolding refused_line
returns c = let p = written_then (written_then c.labeled.ensures.wrote c.labeled-2.ensures.wrote) c.text.ensures.wrote in search rules
