-- what stands before `low` is below v, and what stands from `high` on is above v
use Rattle.std.proofs.Common.{ℕ, ◌≤◌, ◌<◌, ◌-◌, length, get_or}
use Rattle.table.proofs.part.contains.Given as goal

abbrev pub invariant-loop-low : goal.invariant-loop-low
invariant-loop-low l = record {
  order : l.low ≤ l.high;
  within : l.high ≤ length l.part;
  below : (k : ℕ) → k < l.low → get_or l.part k 0 < l.v;
  above : (k : ℕ) → l.high ≤ k → k < length l.part → l.v < get_or l.part k 0;
}

abbrev pub decreases-loop-low : goal.decreases-loop-low
decreases-loop-low l = l.high - l.low
