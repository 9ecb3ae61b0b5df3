-- How passes add to marks, place by place. Assumes nothing.
use mathlib.Core.Path.{◌≡◌, refl, sym, ap, ◌∙◌}
use mathlib.Core.Bool.{Bool, true, false, cond, ◌&&◌, ◌||◌, or-false, or-true, or_assoc, and-false, and-or_distrib_left}
use mathlib.Core.List.{List, [], ◌∷◌}
use Prim.Native.Nat.{ℕ, ◌+◌, ◌<◌}
use native.Mathlib.Omega.{arith}
use lib.ListN.{length, get_or, set, length-set}
use lib.Dec.{ltb, eqb, nltb→le, eqb→eq}
use borrow.Author.Tests.{ne_eqb, ltb-true}
use Rattle.std.specs.List.{list_any}
use Rattle.finite.specs.Search.{any}
use Rattle.finite.proofs.Tests.{split, true_of, false_of}
use Rattle.finite.proofs.Count.{set_reads}
use Rattle.finite.proofs.Search.{any-below-zero, any-below-more}
use Rattle.stale.specs.Marks.{marked, Added, up_to, carried, marking}

-- std's word for a test over a list says the same
pub any_is : (p : ℕ → Bool) (l : List ℕ) → list_any p l ≡ any p l
unfolding any
any_is p [] = refl
any_is p (w ∷ ws) = ap (λ z. p w || z) (any_is p ws)

-- one more place marked
chosen : (b : Bool) (x : ℕ) → eqb (cond b 1 x) 1 ≡ eqb x 1 || b
chosen true x = sym (or-true (eqb x 1))
chosen false x = sym (or-false (eqb x 1))

set-marked : (marks : List ℕ) (i v : ℕ) → i < length marks → marked (set marks i 1) v ≡ marked marks v || eqb i v
set-marked marks i v h = ap (λ z. eqb z 1) (set_reads marks i 1 v (λ q. h)) ∙ chosen (eqb i v) (get_or marks v 0)

-- ---- several passes

-- what two passes add, and three
pub added_twice : {p q : ℕ → Bool} {old one new : List ℕ} → Added p old one → Added q one new → (v : ℕ) → marked new v ≡ marked old v || p v || q v
added_twice {q = q} first second v = second.adds v ∙ ap (λ z. z || q v) (first.adds v)

pub added_thrice : {p q r : ℕ → Bool} {old one two new : List ℕ} → Added p old one → Added q one two → Added r two new → (v : ℕ) → marked new v ≡ marked old v || p v || q v || r v
added_thrice {r = r} first second third v = third.adds v ∙ ap (λ z. z || r v) (added_twice first second v)

-- ---- numbers

marking-marked : (marks : List ℕ) (k c : ℕ) → length marks ≡ 1024 → marked (marking marks k) c ≡ marked marks c || (ltb c 1024 && eqb k c)
marking-marked marks k c long = split (ltb k 1024)
    (λ t.
    let near = ltb-true k 1024 (true_of (ltb k 1024) t) in
    rw (true_of (ltb k 1024) t) (set-marked marks k c (omega arith) ∙ ap (λ z. marked marks c || z) (split (eqb k c)
    (λ q. let e = eqb→eq k c q in rw (sym e, true_of (ltb k 1024) t))
    (λ q. rw (false_of (eqb k c) q) (sym (and-false (ltb c 1024)))))))
    (λ t.
    let far = nltb→le k 1024 t in
    rw (false_of (ltb k 1024) t) (sym (ap (λ z. marked marks c || z) (split (ltb c 1024)
    (λ q. rw (true_of (ltb c 1024) q) (ne_eqb k c (λ e. absurd (omega (arith, ltb-true c 1024 (true_of (ltb c 1024) q))))))
    (λ q. rw (false_of (ltb c 1024) q))) ∙ or-false (marked marks c))))

marking-length : (marks : List ℕ) (i : ℕ) → length (marking marks i) ≡ length marks
marking-length marks i = split (ltb i 1024) (λ t. rw (true_of (ltb i 1024) t) (length-set marks i 1)) (λ t. rw (false_of (ltb i 1024) t))

module _ (comps marks : List ℕ) where
  abbrev test : ℕ → ℕ → Bool
  test c v = marked marks v && eqb (get_or comps v 0) c

  pub numbers-none : (old : List ℕ) → length old ≡ 1024 → Added (up_to (carried comps marks 0) 1024) old old
  numbers-none old long = record {
    long = long;
    adds = λ c. sym (ap (λ z. marked old c || (ltb c 1024 && z)) (any-below-zero (test c)) ∙ ap (λ z. marked old c || z) (and-false (ltb c 1024)) ∙ or-false (marked old c));
  }

  module _ (old now : List ℕ) (i : ℕ) (so : Added (up_to (carried comps marks i) 1024) old now) where
    -- a vertex that is not marked adds no number
    pub numbers_skip : marked marks i ≡ false → Added (up_to (carried comps marks (i + 1)) 1024) old now
    numbers_skip e = record {
      long = so.long;
      adds = λ c. so.adds c ∙ ap (λ z. marked old c || (ltb c 1024 && z))
          (sym (any-below-more (test c) i ∙ ap (λ z. carried comps marks i c || (z && eqb (get_or comps i 0) c)) e ∙ or-false (carried comps marks i c)));
    }

    -- one that is adds its own
    pub numbers_more : marked marks i ≡ true → Added (up_to (carried comps marks (i + 1)) 1024) old (marking now (get_or comps i 0))
    numbers_more e = record {
      long = marking-length now (get_or comps i 0) ∙ so.long;
      adds = λ c.
          let k = get_or comps i 0 in
          let seen = carried comps marks i c in
          marking-marked now k c so.long ∙ ap (λ z. z || (ltb c 1024 && eqb k c)) (so.adds c) ∙ or_assoc (marked old c) (ltb c 1024 && seen) (ltb c 1024 && eqb k c)
          ∙ ap (λ z. marked old c || z) (sym (and-or_distrib_left (ltb c 1024) seen (eqb k c)) ∙ ap (λ z. ltb c 1024 && z) (sym (any-below-more (test c) i ∙ ap (λ z. seen || (z && eqb k c)) e)));
    }

-- ---- single places

pub place-added : (old : List ℕ) (v : ℕ) → length old ≡ 1024 → v < 1024 → Added (eqb v) old (set old v 1)
place-added old v long h = record { long = length-set old v 1 ∙ long; adds = λ w. set-marked old v w (omega arith) }
