use Rattle.std.proofs.Common.{arith, ◌≡◌, length, min, ap, ◌∙◌}
use Rattle.finite.specs.Count.{sum, below}
use Rattle.finite.proofs.Count.{sum-below-zero, sum-below-more}
use Rattle.turns.specs.Turns.{quota_by}
use Rattle.houses.specs.Answers.{quota_sum}
use Rattle.houses.proofs.total.Goals as goal

pub loop-quota-init : goal.loop-quota-init
loop-quota-init c = omega (arith, sum-below-zero (quota_by c.args.quotas.now))

pub loop-quota-preserved : goal.loop-quota-preserved
loop-quota-preserved c = omega (arith, sum-below-more (quota_by c.args.quotas.now) c.loop-quota.quota-index)

pub returns : goal.returns
unfolding quota_sum
returns c =
    let quotas = c.args.quotas.now in
    let e : c.loop-quota.quota-index ≡ length quotas = omega arith in
    c.loop-quota.invariant ∙ ap (λ k. min 61 (sum (quota_by quotas) (below k))) e
