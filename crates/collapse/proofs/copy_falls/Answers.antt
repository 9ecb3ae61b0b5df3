use Rattle.std.proofs.Common.{◌≡◌, ℕ, ◌+◌, ◌<◌, List, ◌++◌, length, drop, set, arith, rules}
use Rattle.finite.specs.Count.{tabulate}
use Rattle.finite.proofs.Count.{fill_none, fill_more}
use Rattle.cascade.specs.Cascade.{fell_by}
use Rattle.collapse.proofs.copy_falls.Goals as goal

-- one value more
written : (f : ℕ → ℕ) (d e : List ℕ) (i x : ℕ) → x ≡ f i → e ≡ tabulate f i ++ drop i d → i < length d → set e i x ≡ tabulate f (i + 1) ++ drop (i + 1) d
written f d e i x is_value before b = rw is_value (fill_more f d e i before b)

pub loop-v-init : goal.loop-v-init
loop-v-init c = fill_none _ _

pub loop-v-preserved : goal.loop-v-preserved
unfolding fell_by
loop-v-preserved c = written (fell_by c.args.levels.now c.args.support.now) _ _ _ _ (search rules) c.loop-v.invariant (omega arith)
