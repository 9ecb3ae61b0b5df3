use Rattle.std.proofs.Common.{arith, ◌≡◌, ◌∙◌, refl, sym, get_or, ap, ◌-◌, List, ℕ}
use borrow.Author.Tests.{eq-eqb, ne_eqb}
use mathlib.Core.Bool.{Bool, not, cond, ◌&&◌}
use lib.Dec.{eqb}
use Rattle.finite.specs.Count.{count}
use Rattle.anchored.specs.Sheet.{misplaced}
use Rattle.pool.specs.Input.{graph_of, anchored_by}
use Rattle.level_sheet.specs.Faults.{stands_at}
use Rattle.level_sheet.proofs.Faults.{out-of-place, anchored-fits, free-layer, counted}
use Rattle.level_sheet.proofs.check.fault_at.Goals as goal

-- a count over the neighbors, at the pair of v
count-is : (stands : ℕ → ℕ → ℕ → Bool) (part near : List ℕ) (k l m j : ℕ) → part ≡ near → k ≡ m → l ≡ j → (total : ℕ) → total ≡ count (stands k l) part → total ≡ count (stands m j) near
count-is stands part near k l m j same-part same-level same-layer total e = rw (← same-part, ← same-level, ← same-layer) e

-- whether the entry of v is out of place
told : (s l a lev lay : List ℕ) (v : ℕ) {b : Bool} → b ≡ cond (anchored_by a v) (not (eqb (get_or lev v 0) 65535 && eqb (get_or lay v 0) 0)) (eqb (get_or lay v 0) 0)
    → misplaced (graph_of s l) (anchored_by a) (λ w. get_or lev w 0) (λ w. get_or lay w 0) v ≡ b
unfolding misplaced
told s l a lev lay v e = sym e

pub returns-then-is_misplaced : goal.returns-then-is_misplaced
returns-then-is_misplaced c = let a = c.args in sym (out-of-place _ _ _ _ _ (told a.starts.now a.links.now a.anchored.now a.levels.now a.layers.now a.v c.is_misplaced.ensures ∙ c.if-is_misplaced.true))

pub returns-then-is_anchored : goal.returns-then-is_anchored
returns-then-is_anchored c = let a = c.args in sym (anchored-fits _ _ _ _ _ (told a.starts.now a.links.now a.anchored.now a.levels.now a.layers.now a.v c.is_misplaced.ensures ∙ c.if-is_misplaced.false) (eq-eqb _ _ c.if-is_anchored.true))

pub count_support-support-requires-clause-by_index : goal.count_support-support-requires-clause-by_index
count_support-support-requires-clause-by_index c = λ w i.
    let inside = c.requires.admitted.table.range c.args.v w c.requires.v_bound (rw c.neighbors-part.ensures at i) in
    omega (arith, c.requires.admitted.long)

pub count_support-support-requires-clause-layer_nonzero : goal.count_support-support-requires-clause-layer_nonzero
count_support-support-requires-clause-layer_nonzero c =
    let a = c.args in
    let layer = free-layer _ _ _ _ _ (told a.starts.now a.links.now a.anchored.now a.levels.now a.layers.now a.v c.is_misplaced.ensures ∙ c.if-is_misplaced.false) (ne_eqb _ _ c.if-is_anchored.false) in
    omega (arith, c.new-pair.ensures.layer)

pub returns : goal.returns
returns c =
    let a = c.args in
    let stands = stands_at a.anchored.now a.levels.now a.layers.now in
    let near = c.neighbors-part.ensures in
    let new = c.new-pair.ensures in
    let totals = c.count_support-support.ensures in
    c.counted_fault.ensures ∙ sym (counted _ _ _ _ _ _ _ _ (record {
      placed = told a.starts.now a.links.now a.anchored.now a.levels.now a.layers.now a.v c.is_misplaced.ensures ∙ c.if-is_misplaced.false;
      free = ne_eqb _ _ c.if-is_anchored.false;
      in_level = count-is stands _ _ _ _ _ _ near new.level refl _ totals.level;
      in_pair = count-is stands _ _ _ _ _ _ near new.level new.layer _ totals.pair;
      in_before = count-is stands _ _ _ _ _ _ near new.level (ap (λ l. l - 1) new.layer) _ totals.before;
    }))
