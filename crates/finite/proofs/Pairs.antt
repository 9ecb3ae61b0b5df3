-- The order of pairs, and induction on numbers and on pairs. Assumes nothing.
use mathlib.Core.Path.{◌≡◌, ◌∙◌, subst}
use Rattle.std.specs.Prelude.{Some}
use Rattle.std.specs.Ordering.{nat_cmp, partial_le, partial_ordering_then}
use mathlib.Core.Bool.{not, true, false}
use Prim.Native.Nat.{ℕ, zero, suc, ◌+◌, ◌≤◌, ◌<◌, zero-le}
use native.Mathlib.Nat.{not-suc-le-zero}
use native.Mathlib.Omega.{arith}
use lib.Dec.{T, leb, ltb, eqb, ltb→lt, nltb→le, leb→le, le→leb, nleb→lt, T_not, not_T, eqb→eq, eqb_refl}
use Rattle.finite.specs.Pairs.{pair_le}
use Rattle.finite.proofs.Tests.{and_i, and_l, and_r, or_l, or_r, or-e, split, same, true_of, false_of}
use borrow.Author.Tests.{lt-leb, eqb-false}

pub pair_lt : (k l i j : ℕ) → k < i → T (pair_le k l i j)
unfolding pair_le
pair_lt k l i j h = or_l (ltb k i) _ (le→leb (suc k) i h)

pub pair_eq : (k l i j : ℕ) → k ≡ i → l ≤ j → T (pair_le k l i j)
unfolding pair_le
pair_eq k l i j e h = or_r (ltb k i) _ (and_i (eqb k i) _ (subst (λ z. T (eqb k z)) e (eqb_refl k)) (le→leb l j h))

-- a pair at or above another is greater in the first component, or equal there and no less in the second
pub pair-e : {C : Type 0} (k l i j : ℕ) → T (pair_le k l i j) → (k < i → C) → (k ≡ i → l ≤ j → C) → C
unfolding pair_le
pair-e k l i j t f g = or-e (ltb k i) _ t (λ h. f (leb→le (suc k) i h)) (λ h. g (eqb→eq k i (and_l (eqb k i) _ h)) (leb→le l j (and_r (eqb k i) _ h)))

-- a pair not at or above another is below it
pub pair_no : {C : Type 0} (k l i j : ℕ) → T (not (pair_le k l i j)) → (i < k → C) → (i ≡ k → j < l → C) → C
pair_no k l i j t f g = split (leb k i)
    (λ h. split (leb i k)
    (λ m. g (omega (arith, leb→le k i h, leb→le i k m)) (split (leb l j)
    (λ d. absurd (T_not (pair_le k l i j) t (pair_eq k l i j (omega (arith, leb→le k i h, leb→le i k m)) (leb→le l j d)))) (nleb→lt l j)))
    (λ m. absurd (T_not (pair_le k l i j) t (pair_lt k l i j (nleb→lt i k m)))))
    (λ h. f (nleb→lt k i h))

-- a pair below another is below every greater one, has no greater first component, and is not below the one before it
pub pair_trans : (i j k l m n : ℕ) → T (pair_le i j k l) → T (pair_le k l m n) → T (pair_le i j m n)
pair_trans i j k l m n t s = pair-e i j k l t
    (λ h. pair_lt i j m n (pair-e k l m n s (λ g. omega arith) (λ e g. omega arith)))
    (λ e h. pair-e k l m n s (λ g. pair_lt i j m n (omega arith)) (λ d g. pair_eq i j m n (e ∙ d) (omega arith)))

pub pair-first : (k l i j : ℕ) → T (pair_le k l i j) → k ≤ i
pair-first k l i j t = pair-e k l i j t (λ h. omega arith) (λ e h. omega arith)

pub pair-before : (k l : ℕ) → T (pair_le k (l + 1) k l) → ⊥
pair-before k l t = pair-e k (l + 1) k l t (λ h. omega arith) (λ e h. omega arith)

-- at or above (k, 0): the first component is k or more
pub pair-zero_i : (k i j : ℕ) → k ≤ i → T (pair_le k 0 i j)
pair-zero_i k i j h = split (leb i k) (λ t. pair_eq k 0 i j (omega (arith, leb→le i k t)) zero-le) (λ t. pair_lt k 0 i j (nleb→lt i k t))

pub pair-zero-e : (k i j : ℕ) → T (pair_le k 0 i j) → k ≤ i
pair-zero-e k i j t = pair-e k 0 i j t (λ h. omega arith) (λ e h. omega arith)

-- not at or above (k, 0): the first component is below k
pub pair-zero-not : (k i j : ℕ) → not (pair_le k 0 i j) ≡ ltb i k
pair-zero-not k i j = same (not (pair_le k 0 i j)) (ltb i k)
    (λ t. pair_no k 0 i j t (λ h. le→leb (suc i) k h) (λ e h. absurd (omega arith)))
    (λ t. not_T (pair_le k 0 i j) (λ u. absurd (omega (arith, leb→le (suc i) k t, pair-zero-e k i j u))))

bounded : (Q : ℕ → Type 0) → ((m : ℕ) → ((i : ℕ) → i < m → Q i) → Q m) → (b m : ℕ) → m < b → Q m
bounded Q f zero m h = absurd (not-suc-le-zero h)
bounded Q f (suc b) m h = f m (λ i g. bounded Q f b i (omega arith))

-- induction on all smaller numbers
pub strong : (Q : ℕ → Type 0) → ((m : ℕ) → ((i : ℕ) → i < m → Q i) → Q m) → (m : ℕ) → Q m
strong Q f m = bounded Q f (suc m) m (omega arith)

-- induction on all smaller pairs
pub pair_ind : (Q : ℕ → ℕ → Type 0) → ((k l : ℕ) → ((i j : ℕ) → i < k → Q i j) → ((j : ℕ) → j < l → Q k j) → Q k l) → (k l : ℕ) → Q k l
pair_ind Q f = strong (λ k. (l : ℕ) → Q k l) (λ k r. strong (Q k) (λ l s. f k l (λ i j h. r i h j) s))

-- the order of pairs as the library compares them
pub pair_le-compared : (k l i j : ℕ) → partial_le (λ (x y : ℕ × ℕ). partial_ordering_then (Some (nat_cmp x.0 y.0)) (Some (nat_cmp x.1 y.1))) (k, l) (i, j) ≡ pair_le k l i j
unfolding pair_le
pair_le-compared k l i j =
    split (ltb k i)
    (λ t. rw (true_of (ltb k i) t))
    (λ f. split (eqb k i)
    (λ e. split (ltb l j)
    (λ less. let m : leb l j ≡ true = true_of (leb l j) (le→leb l j (omega (arith, ltb→lt l j less))) in rw (false_of (ltb k i) f, true_of (eqb k i) e, true_of (ltb l j) less, m))
    (λ no. split (eqb l j)
    (λ same_l. let m : leb l j ≡ true = true_of (leb l j) (le→leb l j (omega (arith, eqb→eq l j same_l))) in rw (false_of (ltb k i) f, true_of (eqb k i) e, false_of (ltb l j) no, true_of (eqb l j) same_l, m))
    (λ other. let m : leb l j ≡ false = lt-leb l j (let ne = eqb-false l j (false_of (eqb l j) other) in omega (arith, nltb→le l j no)) in rw (false_of (ltb k i) f, true_of (eqb k i) e, false_of (ltb l j) no, false_of (eqb l j) other, m))))
    (λ e. rw (false_of (ltb k i) f, false_of (eqb k i) e)))
