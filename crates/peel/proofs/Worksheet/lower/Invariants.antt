-- The vertices before the place of w are struck.
use Rattle.std.proofs.Common.{take}
use Rattle.peel.specs.Worksheet.{SameSheet, StrikesAll}
use Rattle.peel.proofs.Worksheet.lower.Given as goal

abbrev pub invariant-loop-w : goal.invariant-loop-w
invariant-loop-w l = record {
  same_sheet : SameSheet l.fn.self l.self;
  strikes : StrikesAll l.fn.self l.self l.k l.turn (take l.w-index l.part);
}
