-- The three calls write one behind the other. Assumes nothing.
use Rattle.std.proofs.Common.{arith}
use Rattle.finite.proofs.Count.{length-tabulate}
use Rattle.sheet.proofs.Written.{written_then, written-length}
use Rattle.sheet.proofs.line.Writer.marks.Goals as goal

pub text-requires-2 : goal.text-requires-2
text-requires-2 c = omega (arith, length-tabulate, written-length c.text.ensures.wrote, written-length c.signs.ensures.wrote)

pub returns-clause-wrote : goal.returns-clause-wrote
returns-clause-wrote c = written_then (written_then c.text.ensures.wrote c.signs.ensures.wrote) c.text-2.ensures.wrote
