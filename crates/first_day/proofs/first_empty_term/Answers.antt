use Rattle.std.proofs.Common.{rules, tests, arith, ◌≡◌, ◌≤◌, ℕ, zero, suc, ◌+◌, Bool, cond, ltb, leb, Some, None, List, [], ◌∷◌, length, get_or, refl, sym, ap, ap₂, ◌∙◌}
use Rattle.std.specs.List.{zip, position_or_len}
use Rattle.std.proofs.lemmas.Iterator.{YieldsList-from_slice, YieldsList-from_zip}
use Rattle.std.proofs.lemmas.Iterator.Search.{position_from_yields_List}
use Rattle.std.proofs.lemmas.Slice.Zip.{length-zip}
use Rattle.finite.specs.Search.{first_from, first}
use Rattle.finite.proofs.Tests.{split, true_of, false_of}
use Rattle.first_day.proofs.first_empty_term.Goals as goal

-- a test that is one place further on has its first place one further on
shifted : (p q : ℕ → Bool) → ((i : ℕ) → p (suc i) ≡ q i) → (n i : ℕ) → first_from p n (suc i) ≡ suc (first_from q n i)
unfolding first_from
shifted p q e zero i = refl
shifted p q e (suc n) i =
    split (q i)
    (λ t. rw (e i, true_of (q i) t))
    (λ f. rw (e i, false_of (q i) f) (shifted p q e n (suc i)))

-- the first pair of two lists that passes
first_pair : (test : ℕ → ℕ → Bool) (xs ys : List ℕ) → length xs ≤ length ys → position_or_len (λ z. test z.0 z.1) (zip xs ys) ≡ first (λ i. test (get_or xs i 0) (get_or ys i 0)) (length xs)
unfolding first first_from
first_pair test [] ys h = refl
first_pair test (x ∷ xs) [] h = absurd (omega arith)
first_pair test (x ∷ xs) (y ∷ ys) h =
    let rest = first_pair test xs ys (omega arith) in
    let one : 1 + position_or_len (λ z. test z.0 z.1) (zip xs ys) ≡ suc (position_or_len (λ z. test z.0 z.1) (zip xs ys)) = omega arith in
    split (test x y)
    (λ t. rw (true_of (test x y) t))
    (λ f. rw (false_of (test x y) f) (one ∙ ap suc rest ∙ sym (shifted _ (λ i. test (get_or xs i 0) (get_or ys i 0)) (λ i. refl) (length xs) 0)))

pub returns : goal.returns
returns c =
    let fs = c.args.firsts.now in
    let es = c.args.ends.now in
    let test : ℕ × ℕ → Bool = λ z. leb z.1 z.0 in
    position_from_yields_List test c.position.new.self _ c.position.result c.position.ensures.ran
    (YieldsList-from_zip {s = c.zip.result} (YieldsList-from_slice fs cc) (YieldsList-from_slice es cc)) (λ x b q k. search (rules, tests))
    ∙ ap₂ (λ i n. cond (ltb i n) (Some i) None) (first_pair (λ first end. leb end first) fs es c.requires) (omega (arith, length-zip fs es))
