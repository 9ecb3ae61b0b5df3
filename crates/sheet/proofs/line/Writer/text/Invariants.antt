-- The first bytes of the text are written, and nothing else. Assumes nothing.
use Rattle.std.proofs.Common.{◌≡◌}
use Rattle.std.specs.Prelude.{get_or}
use Rattle.finite.specs.Count.{tabulate}
use Rattle.sheet.specs.Writing.{Wrote}
use Rattle.sheet.proofs.line.Writer.text.Given as goal

abbrev pub invariant-loop-byte : goal.invariant-loop-byte
invariant-loop-byte l = record {
  same : l.self.out.ghost_name ≡ l.fn.self.out.ghost_name;
  wrote : Wrote l.fn.self (tabulate (λ i. get_or l.text i 0) l.byte-index) l.self;
}
