use Rattle.std.proofs.Common.{◌≡◌, ℕ, ◌≤◌, Bool, true, false, not, eqb, cond, List, length, get_or, take, refl, sym, ◌∙◌, add-one, arith, rules, tests}
use Prim.Native.Nat.{zero, suc}
use Rattle.std.specs.List.{count_by}
use Rattle.std.proofs.lemmas.Iterator.{YieldsList-from_slice}
use Rattle.std.proofs.lemmas.Iterator.Consumers.{count_from_yields_List, YieldsList-from_filter}
use Rattle.std.proofs.lemmas.List.Sums.{length-filter, sum_by_more}
use Rattle.finite.specs.Count.{bit, below, count}
use Rattle.finite.proofs.Count.{count-below-zero, count-below-more}
use Rattle.peel.proofs.count_free.Goals as goal

cond-bit : (b : Bool) → cond b 1 0 ≡ bit b
cond-bit true = refl
cond-bit false = refl

-- how many of the first n elements pass a test
count-take : (p : ℕ → Bool) (xs : List ℕ) (n : ℕ) → n ≤ length xs → count_by p (take n xs) ≡ count (λ v. p (get_or xs v 0)) (below n)
count-take p xs zero h = sym (count-below-zero (λ v. p (get_or xs v 0)))
count-take p xs (suc n) h = rw (← add-one n) (omega (
  arith,
  count-take p xs n (omega arith),
  sum_by_more (λ x. cond (p x) 1 0) xs n 0 (omega arith),
  cond-bit (p (get_or xs n 0)),
  count-below-more (λ v. p (get_or xs v 0)) n,
))

pub returns : goal.returns
returns c =
    let first = take c.args.n c.args.anchored.now in
    let free = λ (x : ℕ). not (eqb x 1) in
    count_from_yields_List c.filter.result _ c.count.ensures.ran (YieldsList-from_filter _ free (YieldsList-from_slice first (cc)) c.filter.ensures.closure (λ x r q k. search (rules, tests)))
    ∙ length-filter free first ∙ count-take free c.args.anchored.now c.args.n c.requires
