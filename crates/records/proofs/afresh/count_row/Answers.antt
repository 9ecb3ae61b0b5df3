use Rattle.std.proofs.Common.{arith, rules, tests}
use Rattle.anchored.specs.Followers.{follower_count}
use Rattle.records.proofs.Records.{followers-le, reached-le}
use Rattle.records.proofs.afresh.count_row.Goals as goal

pub returns-then-anchored-u-eq1-clause-followers : goal.returns-then-anchored-u-eq1-clause-followers
unfolding follower_count
returns-then-anchored-u-eq1-clause-followers c = search (rules, tests)

pub overflow_cast-result : goal.overflow_cast-result
overflow_cast-result c = omega (arith, followers-le, reached-le)

pub overflow_cast-result-then-reaching : goal.overflow_cast-result-then-reaching
overflow_cast-result-then-reaching c = omega (arith, followers-le, reached-le)

pub returns-then-reaching-clause-followers : goal.returns-then-reaching-clause-followers
unfolding follower_count
returns-then-reaching-clause-followers c = search (rules, tests)

pub returns-else-reaching-clause-followers : goal.returns-else-reaching-clause-followers
unfolding follower_count
returns-else-reaching-clause-followers c = search (rules, tests)
