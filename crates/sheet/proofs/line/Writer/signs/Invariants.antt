-- The signs of the first vertices are written, and nothing else. Assumes nothing.
use Rattle.std.proofs.Common.{◌≡◌}
use Rattle.sheet.specs.Line.{lifted_by, signs}
use Rattle.sheet.specs.Writing.{Wrote}
use Rattle.sheet.proofs.line.Writer.signs.Given as goal

abbrev pub invariant-loop-mark : goal.invariant-loop-mark
invariant-loop-mark l = record {
  same : l.self.out.ghost_name ≡ l.fn.self.out.ghost_name;
  wrote : Wrote l.fn.self (signs (lifted_by l.marks) l.mark-index) l.self;
}
