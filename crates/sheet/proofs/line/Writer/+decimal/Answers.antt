-- The call writes the digits before the last. Assumes nothing.
use Rattle.std.proofs.Common.{rules, arith, ◌≡◌, [], ◌∷◌, ◌+◌, ◌/◌, ◌≤◌, length, ℕ, ap, ◌∙◌}
use lib.ListN.{length-append}
use Rattle.finite.specs.Bytes.{digit, decimal}
use Rattle.finite.proofs.Bytes.{decimal-one, decimal-more}
use Rattle.sheet.proofs.Written.{written_then, written-length}
use Rattle.sheet.proofs.line.Writer.+decimal.Goals as goal
use Rattle.sheet.proofs.line.Writer.+decimal.Goals.{then-v-ge10, else-v-ge10}

-- from 10 on, a number has one digit more than a tenth of it
longer : (v : ℕ) → 10 ≤ v → length (decimal v) ≡ length (decimal (v / 10)) + 1
longer v h = ap length (decimal-more v h) ∙ length-append (decimal (v / 10)) (digit v ∷ [])

pub decimal-requires : goal.decimal-requires
decimal-requires t c = (search rules, omega (arith, longer c.args.v c.if-v-ge10.true))

pub digit-requires : goal.digit-requires
digit-requires t c = elim c.if-v-ge10.branch [
  | then-v-ge10 w ↦ rw w.self-is (omega (arith, longer c.args.v w.if-v-ge10.true, written-length w.decimal.ensures.wrote))
  | else-v-ge10 w ↦ rw w.self-is (omega (arith, ap length (decimal-one c.args.v w.if-v-ge10.false)))
]

pub returns-clause-wrote : goal.returns-clause-wrote
returns-clause-wrote t c = elim c.if-v-ge10.branch [
  | then-v-ge10 w ↦ rw (decimal-more c.args.v w.if-v-ge10.true) (written_then w.decimal.ensures.wrote (rw w.self-is at c.digit.ensures.wrote))
  | else-v-ge10 w ↦ rw (decimal-one c.args.v w.if-v-ge10.false) (rw w.self-is at c.digit.ensures.wrote)
]
