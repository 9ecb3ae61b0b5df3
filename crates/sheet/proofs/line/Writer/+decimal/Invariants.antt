-- The measure is the number. Assumes nothing.
use Rattle.sheet.proofs.line.Writer.+decimal.Given as goal

abbrev pub decreases-decimal : goal.decreases-decimal
decreases-decimal l = l.v
