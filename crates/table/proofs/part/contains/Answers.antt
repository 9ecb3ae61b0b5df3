use Rattle.std.proofs.Common.{ℕ, ◌+◌, ◌-◌, ◌/◌, ◌<◌, leb, eqb, get_or, sym, arith, rules}
use mathlib.Core.Logic.{⊎_elim}
use native.Mathlib.Nat.{eq-or-lt_of_le}
use lib.Dec.{leb→le, nleb→lt}
use borrow.Author.Count.{below_more}
use borrow.Author.Tests.{eq-eqb, ne_eqb}
use Rattle.finite.proofs.Tests.{split}
use Rattle.finite.proofs.Search.{any_at, any_none, ascending-lt}
use Rattle.table.proofs.part.contains.Goals as goal

-- the place that the search looks at
abbrev half : ℕ → ℕ → ℕ
half low high = low + (high - low) / 2

pub returns-then-w-v : goal.returns-then-w-v
returns-then-w-v c =
    let args = c.args in
    let middle = half c.loop-low.low c.loop-low.high in
    sym (any_at (eqb args.v) args.part.now middle (omega arith) (eq-eqb args.v (get_or args.part.now middle 0) (omega arith)))

pub loop-low-preserved-then-w-v-2 : goal.loop-low-preserved-then-w-v-2
loop-low-preserved-then-w-v-2 c =
    let part = c.args.part.now in
    let at = c.loop-low in
    let middle = half at.low at.high in
    record {
      order = omega arith;
      within = search rules;
      below = below_more _ _ (λ k h. omega (arith, ascending-lt part c.requires k middle h (omega arith))) (omega arith);
      above = at.invariant.above;
    }

pub loop-low-preserved : goal.loop-low-preserved
loop-low-preserved c =
    let args = c.args in
    let at = c.loop-low in
    let middle = half at.low at.high in
    let over : args.v < get_or args.part.now middle 0 = omega arith in
    record {
      order = omega arith;
      within = omega arith;
      below = at.invariant.below;
      above = λ k h l. ⊎_elim (λ e. rw (← e) over) (λ lt. omega (arith, ascending-lt args.part.now c.requires middle k lt l)) (eq-or-lt_of_le h);
    }

pub returns : goal.returns
returns c =
    let v = c.args.v in
    let part = c.args.part.now in
    let at = c.loop-low in
    sym (any_none (eqb v) part (λ k h. ne_eqb v (get_or part k 0) (λ e. split (leb at.high k)
    (λ t. omega (arith, at.invariant.above k (leb→le at.high k t) h))
    (λ t. omega (arith, at.invariant.below k (omega (arith, nleb→lt at.high k t)))))))
