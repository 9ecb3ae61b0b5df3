-- The two calls write one behind the other. Assumes nothing.
use Rattle.std.proofs.Common.{arith}
use Rattle.sheet.proofs.Written.{written_then, written-length}
use Rattle.sheet.proofs.line.Writer.labeled.Goals as goal

pub decimal-requires : goal.decimal-requires
decimal-requires c = omega (arith, written-length c.text.ensures.wrote)

pub returns-clause-wrote : goal.returns-clause-wrote
returns-clause-wrote c = written_then c.text.ensures.wrote c.decimal.ensures.wrote
