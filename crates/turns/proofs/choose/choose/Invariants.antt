-- `chosen` leads among the first v vertices, with the yield `greatest`. Assumes nothing.
use Rattle.std.proofs.Common.{IfSome, unwrap_or, ◌<◌}
use Rattle.records.specs.Yield.{yield_at}
use Rattle.turns.specs.Choice.{yield_in}
use Rattle.turns.proofs.Choices.{Leading}
use Rattle.turns.proofs.choose.choose.Given as goal

abbrev pub invariant-loop-v : goal.invariant-loop-v
invariant-loop-v l = record {
  within : IfSome l.chosen (λ x. x < l.n);
  leads : Leading l.n (yield_in l.house l.c (yield_at l.kept)) (unwrap_or l.chosen l.n) l.greatest l.v;
}
