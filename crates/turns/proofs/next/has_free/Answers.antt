-- A pair of house and anchored byte that passes shows that a vertex is free; once all are looked at there is none. Assumes nothing.
use Rattle.std.proofs.Common.{◌≡◌, ℕ, ◌<◌, Bool, true, false, ◌&&◌, eqb, List, length, take, get_or, MatchBool, refl, sym, ◌∙◌, arith, rules, tests}
use mathlib.Core.Bool.{not}
use Rattle.std.specs.List.{HoldsAt, AllWithin, zip}
use Rattle.std.proofs.lemmas.Iterator.{cases_from_any, YieldsList-from_slice, YieldsList-from_zip}
use Rattle.std.proofs.lemmas.List.{get_or-take, length-take}
use Rattle.std.proofs.lemmas.Slice.Zip.{length-zip, get_or-zip}
use Rattle.finite.specs.Count.{below}
use Rattle.finite.specs.Search.{any}
use Rattle.finite.proofs.Tests.{true_of, of_true}
use Rattle.finite.proofs.Count.{in_below}
use Rattle.finite.proofs.Search.{any-below_i, none_any}
use Rattle.turns.proofs.next.has_free.Goals as goal

-- a look at n pairs tells whether some number below n passes
looked : (p : ℕ → Bool) (n : ℕ) (test : ℕ × ℕ → Bool) (xs : List (ℕ × ℕ)) → length xs ≡ n → ((k : ℕ) → k < n → test (get_or xs k (0, 0)) ≡ p k)
    → (r : Bool) → MatchBool r ((k : ℕ) × (k < length xs) × HoldsAt (λ x. test x ≡ true) xs k) (AllWithin (λ x. test x ≡ false) xs 0 (length xs)) → r ≡ any p (below n)
looked p n test xs e same true (k, h, at) = sym (true_of _ (any-below_i p n k (omega arith) (of_true (p k) (sym (same k (omega arith)) ∙ at (0, 0)))))
looked p n test xs e same false all = sym (none_any p (below n) (λ w i. let b = (in_below n w).0 i in sym (same w b) ∙ all w (0, 0) (omega arith) (omega arith)))

pub returns : goal.returns
returns c =
    let args = c.args in
    let hs = take args.n args.house.now in
    let test : ℕ × ℕ → Bool = λ x. eqb x.0 args.c && not (eqb x.1 1) in
    let long : length args.anchored.now ≡ 1024 = omega arith in
    let size : length (zip hs args.anchored.now) ≡ args.n = omega (arith, length-zip hs args.anchored.now, length-take args.n args.house.now) in
    looked _ args.n test (zip hs args.anchored.now) size
    (λ k h. rw (get_or-zip hs args.anchored.now k (0, 0) (omega (arith, length-take args.n args.house.now)) (omega arith), get_or-take args.n args.house.now k 0 h) refl)
    c.any.result
    (cases_from_any c.any.new.self _ _ (λ x. test x ≡ true) (λ x. test x ≡ false) c.any.ensures.ran
    (YieldsList-from_zip {s = c.zip.result} (YieldsList-from_slice hs cc) (YieldsList-from_slice args.anchored.now cc)) (λ x q k. search (rules, tests)) (λ x q k. search (rules, tests)))
