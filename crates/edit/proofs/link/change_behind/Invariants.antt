-- The starts before the loop's place are changed, the others as they were.
use Rattle.std.proofs.Common.{◌≡◌, ℕ, ◌≤◌, ◌<◌, get_or}
use Rattle.edit.proofs.link.change_behind.Given as goal

abbrev pub invariant-loop-start : goal.invariant-loop-start
invariant-loop-start g l = record {
  changed : (i : ℕ) → i < l.start-index → goal.F-post g l.change (get_or l.initial.start-items i 0) (get_or l.start-items i 0);
  kept : (i : ℕ) → l.start-index ≤ i → get_or l.start-items i 0 ≡ get_or l.initial.start-items i 0;
}
