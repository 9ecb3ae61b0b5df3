-- A refusal: the number and the place that document 01 gives it. The code names the rules.
use Rattle.std.specs.Prelude.{ℕ}
use Rattle.table.specs.declared.refusal.Rule.{Rule}
use Rattle.table.specs.declared.refusal.Rule.TheVariants.{NoStarts, ManyVertices, ManyLinks, Starts, Beyond, Loop, Unsorted, Unreturned, Length, Byte, TooMany, Lent, SheetLength, Misplaced, NoVertex, Anchored, LongText, Departs, TooHigh, TooLow, TooLate, Edge, Full, ManyTerms, EmptyTerm, Houses, NoHouse}

pub record Refusal : Type 0 where
  pub number : ℕ
  pub place : ℕ

-- the number of a rule
abbrev pub rule_number : Rule → ℕ
rule_number NoStarts = 1
rule_number ManyVertices = 2
rule_number ManyLinks = 3
rule_number Starts = 4
rule_number Beyond = 5
rule_number Loop = 6
rule_number Unsorted = 7
rule_number Unreturned = 8
rule_number Length = 9
rule_number Byte = 10
rule_number TooMany = 11
rule_number Lent = 12
rule_number SheetLength = 13
rule_number Misplaced = 14
rule_number NoVertex = 15
rule_number Anchored = 16
rule_number LongText = 17
rule_number Departs = 18
rule_number TooHigh = 19
rule_number TooLow = 20
rule_number TooLate = 21
rule_number Edge = 22
rule_number Full = 23
rule_number ManyTerms = 24
rule_number EmptyTerm = 25
rule_number Houses = 26
rule_number NoHouse = 27
