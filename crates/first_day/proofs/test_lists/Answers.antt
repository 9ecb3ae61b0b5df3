use Rattle.std.proofs.Common.{arith, ◌≡◌, ◌≤◌, ◌<◌, ℕ, Bool, true, false, ltb, Option, Some, None, List, [], ◌∷◌, length, get_or, eqb, refl, sym, ap, ◌∙◌}
use mathlib.Core.Logic.{inl, inr}
use borrow.Author.Tests.{lt-ltb, le-ltb, le-leb, lt-leb}
use Rattle.finite.specs.Search.{all, first, found}
use Rattle.finite.proofs.Tests.{split, true_of, false_of, of_true}
use Rattle.table.specs.Guard.{refused, refused_at}
use Rattle.table.proofs.Laws.{refused-last}
use Rattle.pool.specs.Lengths.{outside}
use Rattle.pool.proofs.Lengths.{each}
use Rattle.first_day.specs.Answers.{empty_term, lists_of}
use Rattle.first_day.proofs.test_lists.Goals as goal

-- what is found is the first place, and below the end
found_at : (p : ℕ → Bool) (n i : ℕ) → found p n ≡ Some i → (ltb (first p n) n ≡ true) × (first p n ≡ i)
found_at p n i e =
    split (ltb (first p n) n)
    (λ t. let h = true_of (ltb (first p n) n) t in let s : ◌≡◌ {A = Option ℕ} (Some (first p n)) (Some i) = rw h at e in (h, cc))
    (λ f. let h = false_of (ltb (first p n) n) f in let z : ◌≡◌ {A = Option ℕ} None (Some i) = rw h at e in cc)

found_nowhere : (p : ℕ → Bool) (n : ℕ) → found p n ≡ None → ltb (first p n) n ≡ false
found_nowhere p n e =
    split (ltb (first p n) n)
    (λ t. let h = true_of (ltb (first p n) n) t in let z : ◌≡◌ {A = Option ℕ} (Some (first p n)) None = rw h at e in cc)
    (λ f. false_of (ltb (first p n) n) f)

-- what is left of the definition after each test
module _ (n : ℕ) (vs fs es : List ℕ) (x : ℕ) where
  unlike : all (eqb (length vs)) (length fs ∷ length es ∷ []) ≡ false → lists_of n vs fs es x ≡ refused 9 0
  unfolding lists_of
  unlike e = rw e

  module _ (alike : all (eqb (length vs)) (length fs ∷ length es ∷ []) ≡ true) where
    stranger : (i : ℕ) → found (outside n vs) (length vs) ≡ Some i → lists_of n vs fs es x ≡ refused 15 (get_or vs i 0)
    unfolding lists_of
    stranger i e = let at = found_at (outside n vs) (length vs) i e in rw (alike, at.0, at.1)

    module _ (none : found (outside n vs) (length vs) ≡ None) where
      asked : n ≤ x → lists_of n vs fs es x ≡ refused 15 x
      unfolding lists_of
      asked h = rw (alike, found_nowhere (outside n vs) (length vs) none, le-leb n x h)

      many : x < n → 256 < length vs → lists_of n vs fs es x ≡ refused 24 0
      unfolding lists_of
      many h m = rw (alike, found_nowhere (outside n vs) (length vs) none, lt-leb n x h, lt-ltb 256 (length vs) m)

      spans : x < n → length vs ≤ 256 → lists_of n vs fs es x ≡ refused_at 25 (found (empty_term fs es) (length fs))
      unfolding lists_of
      spans h m = rw (alike, found_nowhere (outside n vs) (length vs) none, lt-leb n x h, le-ltb 256 (length vs) m) (refused-last 25 (empty_term fs es) (length fs))

pub returns-then-not-all_are : goal.returns-then-not-all_are
returns-then-not-all_are c = rw c.new.ensures (sym (unlike _ _ _ _ _ (sym c.all_are.ensures ∙ c.if-not-all_are.true)))

pub first_empty_term-requires : goal.first_empty_term-requires
first_empty_term-requires c =
    let m = length c.args.vertices.now in
    let lengths = length c.args.firsts.now ∷ length c.args.ends.now ∷ [] in
    let of : (k : _) → _ → k ≡ m = each m lengths (of_true (all (eqb m) lengths) (sym c.all_are.ensures ∙ c.if-not-all_are.false)) in
    omega (arith, of (length c.args.firsts.now) (inl refl), of (length c.args.ends.now) (inr (inl refl)))

pub returns-in-Some : goal.returns-in-Some
returns-in-Some c =
    let alike = sym c.all_are.ensures ∙ c.if-not-all_are.false in
    rw c.new-in-Some.ensures (sym (stranger _ _ _ _ _ alike c.in-Some.i (sym c.first_outside.ensures ∙ c.in-Some.is)))

pub returns-then-n-x : goal.returns-then-n-x
returns-then-n-x c =
    let alike = sym c.all_are.ensures ∙ c.if-not-all_are.false in
    rw c.new-then-n-x.ensures (sym (asked _ _ _ _ _ alike (sym c.first_outside.ensures ∙ c.in_default.is) c.if-n-x.true))

pub returns-then-vertices-gt256 : goal.returns-then-vertices-gt256
returns-then-vertices-gt256 c =
    let alike = sym c.all_are.ensures ∙ c.if-not-all_are.false in
    rw c.new-then-vertices-gt256.ensures (sym (many _ _ _ _ _ alike (sym c.first_outside.ensures ∙ c.in_default.is) c.if-n-x.false c.if-vertices-gt256.true))

pub returns : goal.returns
returns c =
    let alike = sym c.all_are.ensures ∙ c.if-not-all_are.false in
    c.refuse.ensures ∙ ap (refused_at 25) c.first_empty_term.ensures ∙ sym (spans _ _ _ _ _ alike (sym c.first_outside.ensures ∙ c.in_default.is) c.if-n-x.false c.if-vertices-gt256.false)
