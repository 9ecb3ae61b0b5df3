-- `sum` is the sum of the quotas looked at, held at 61
use Rattle.std.proofs.Common.{◌≡◌, min}
use Rattle.finite.specs.Count.{sum, below}
use Rattle.turns.specs.Turns.{quota_by}
use Rattle.houses.proofs.total.Given as goal

abbrev pub invariant-loop-quota : goal.invariant-loop-quota
invariant-loop-quota l = l.sum ≡ min 61 (sum (quota_by l.quotas) (below l.quota-index))
