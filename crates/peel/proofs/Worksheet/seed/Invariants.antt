-- The vertices below v are seen.
use Rattle.peel.specs.Worksheet.{SameSheet, LooksUp}
use Rattle.peel.proofs.Worksheet.seed.Given as goal

abbrev pub invariant-loop-v : goal.invariant-loop-v
invariant-loop-v l = record {
  same_sheet : SameSheet l.fn.self l.self;
  looks : LooksUp l.anchored l.fn.self l.self l.k 0 l.v;
}
