-- the first v yields are written
use Rattle.std.proofs.Common.{◌≡◌, ◌++◌, drop}
use Rattle.finite.specs.Count.{tabulate}
use Rattle.records.specs.Yield.{yield_at}
use Rattle.records.proofs.yields.write_yields.Given as goal

abbrev pub invariant-loop-v : goal.invariant-loop-v
invariant-loop-v l = l.yields ≡ tabulate (yield_at l.kept) l.v ++ drop l.v l.fn.yields
