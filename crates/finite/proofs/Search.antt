-- Laws of searches. Assumes nothing.
use mathlib.Core.Path.{◌≡◌, refl, sym, ap, ap₂, ◌∙◌, subst}
use mathlib.Core.Logic.{inl, inr, ⊎_elim}
use mathlib.Core.Bool.{Bool, true, false, not, cond, ◌&&◌, ◌||◌, or-false, or_assoc}
use mathlib.Core.List.{List, [], ◌∷◌, ◌++◌}
use Prim.Native.Nat.{ℕ, zero, suc, ◌+◌, ◌-◌, ◌≤◌, ◌<◌, zero-le, max}
use native.Mathlib.Nat.{eq-or-lt_of_le}
use native.Mathlib.Numerals.{add-one}
use native.Mathlib.Omega.{arith}
use lib.ListN.{length, take, get_or}
use lib.Seq.{take-suc}
use lib.Dec.{T, leb, ltb, eqb, leb→le, le→leb, ltb→lt, nleb→lt, nltb→le, T_not, not_T, eqb→eq, eqb_refl}
use Rattle.std.specs.Prelude.{Option, Some, None, Result, Ok, Err, is_ok, MatchResult}
use Rattle.std.specs.Option.{option_map}
use Rattle.std.specs.List.{list_all, list_any, find, range_with_len, position_or_len, IsAllAdjacentAnswer}
use Rattle.std.specs.List.Sorted.{IsBinarySearchResult}
use Rattle.std.specs.Ordering.{nat_cmp}
use Rattle.std.proofs.lemmas.List.Sorted.{searched}
use borrow.Author.Tests.{lt-ltb, le-ltb, eq-eqb, ne_eqb}
use Rattle.finite.specs.Count.{bit, below, count, sum, In, Distinct, tabulate}
use Rattle.finite.specs.Search.{any, all, member, first_from, first, found, largest, greatest_of, NoneBelow, NoneFrom, rises, ascending}
use Rattle.finite.proofs.Tests.{and_i, and_l, and_r, or_l, or_r, or-e, split, same, true_of, false_of, of_true, of_false, eqb_of, neqb}
use Rattle.finite.proofs.Ordered.{ordered_of, ordered-distinct}
use Rattle.finite.proofs.Count.{bit_yes, bit_no, in_at, at_in, in_append, in_below, count-some, count_cong, count_witness, count_strict, count_none, count-or, distinct-below}

-- ---- any and all, over a list

module _ (p : ℕ → Bool) where
  pub any_i : (l : List ℕ) (w : ℕ) → In w l → T (p w) → T (any p l)
  unfolding any
  any_i [] w i t = absurd i
  any_i (u ∷ us) w (inl e) t = or_l (p u) _ (subst (λ z. T (p z)) e t)
  any_i (u ∷ us) w (inr i) t = or_r (p u) _ (any_i us w i t)

  pub any-e : (l : List ℕ) → T (any p l) → (w : ℕ) × In w l × T (p w)
  unfolding any
  any-e [] t = absurd t
  any-e (u ∷ us) t = or-e (p u) _ t (λ h. (u, inl refl, h)) (λ h. let r = any-e us h in (r.0, inr r.1, r.2))

  pub all_i : (l : List ℕ) → ((w : ℕ) → In w l → T (p w)) → T (all p l)
  unfolding all
  all_i [] f = tt
  all_i (u ∷ us) f = and_i (p u) _ (f u (inl refl)) (all_i us (λ w i. f w (inr i)))

  pub all-e : (l : List ℕ) → T (all p l) → (w : ℕ) → In w l → T (p w)
  unfolding all
  all-e [] t w i = absurd i
  all-e (u ∷ us) t w (inl e) = subst (λ z. T (p z)) (sym e) (and_l (p u) _ t)
  all-e (u ∷ us) t w (inr i) = all-e us (and_r (p u) _ t) w i

  -- over the numbers below a bound
  pub all-below_i : (n : ℕ) → ((v : ℕ) → v < n → T (p v)) → T (all p (below n))
  all-below_i n f = all_i (below n) (λ v i. f v ((in_below n v).0 i))

  pub all-below-e : (n : ℕ) → T (all p (below n)) → (v : ℕ) → v < n → T (p v)
  all-below-e n t v h = all-e (below n) t v ((in_below n v).1 h)

  pub any-below_i : (n v : ℕ) → v < n → T (p v) → T (any p (below n))
  any-below_i n v h t = any_i (below n) v ((in_below n v).1 h) t

  pub any-below-e : (n : ℕ) → T (any p (below n)) → (v : ℕ) × (v < n) × T (p v)
  any-below-e n t = let r = any-e (below n) t in (r.0, (in_below n r.0).0 r.1, r.2)

  -- a loop over the numbers below a bound: one fails, or all pass
  pub all-below_no : (n v : ℕ) → v < n → p v ≡ false → all p (below n) ≡ false
  all-below_no n v h e = false_of (all p (below n)) (not_T (all p (below n)) (λ t. T_not (p v) (of_false (p v) e) (all-below-e n t v h)))

  pub all-below_yes : (n : ℕ) → ((v : ℕ) → v < n → p v ≡ true) → all p (below n) ≡ true
  all-below_yes n f = true_of (all p (below n)) (all-below_i n (λ v h. of_true (p v) (f v h)))

  -- a loop over the places of a list: one passes, or none does
  pub any_at : (l : List ℕ) (i : ℕ) → i < length l → p (get_or l i 0) ≡ true → any p l ≡ true
  any_at l i h e = true_of (any p l) (any_i l (get_or l i 0) (in_at l i 0 h) (of_true (p (get_or l i 0)) e))

  pub any_none : (l : List ℕ) → NoneBelow (λ i. p (get_or l i 0)) (length l) → any p l ≡ false
  any_none l f = false_of (any p l) (not_T (any p l) (λ t.
      let r = any-e l t in
      let i = at_in l r.0 0 r.1 in
      T_not (p r.0) (subst (λ z. T (not (p z))) i.2 (of_false (p (get_or l i.0 0)) (f i.0 i.1))) r.2))

  -- none passes: each fails
  pub not-any : (l : List ℕ) → any p l ≡ false → (w : ℕ) → In w l → p w ≡ false
  not-any l e w i = false_of (p w) (not_T (p w) (λ t. T_not (any p l) (of_false (any p l) e) (any_i l w i t)))

  pub none_any : (l : List ℕ) → ((w : ℕ) → In w l → p w ≡ false) → any p l ≡ false
  none_any l f = any_none l (λ i h. f (get_or l i 0) (in_at l i 0 h))

  -- some number passes exactly when the count is not 0
  pub any-count : (l : List ℕ) → any p l ≡ ltb 0 (count p l)
  any-count l = same (any p l) (ltb 0 (count p l))
      (λ t. let r = any-e l t in le→leb 1 (count p l) (count-some p l r.0 r.1 r.2))
      (λ t. let r = count_witness p (λ w. false) l (omega (arith, leb→le 1 (count p l) t, count_none (λ w. false) l (λ w i. tt))) in any_i l r.0 r.1 r.2)

-- equal tests pass alike
pub any_cong : (p q : ℕ → Bool) (l : List ℕ) → ((w : ℕ) → In w l → p w ≡ q w) → any p l ≡ any q l
unfolding any
any_cong p q [] e = refl
any_cong p q (u ∷ us) e = ap₂ ◌||◌ (e u (inl refl)) (any_cong p q us (λ w i. e w (inr i)))

pub any_append : (p : ℕ → Bool) (l m : List ℕ) → any p (l ++ m) ≡ any p l || any p m
unfolding any
any_append p [] m = refl
any_append p (u ∷ us) m = ap (λ z. p u || z) (any_append p us m) ∙ sym (or_assoc (p u) (any p us) (any p m))

-- one more number looked at
pub any-more : (p : ℕ → Bool) (l : List ℕ) (i : ℕ) → i < length l → any p (take (i + 1) l) ≡ any p (take i l) || p (get_or l i 0)
unfolding any
any-more p l i h = rw (add-one, take-suc l i 0) (any_append p (take i l) (get_or l i 0 ∷ []) ∙ ap (λ z. any p (take i l) || z) (or-false (p (get_or l i 0))))

-- a union over a list has at most as many members as its parts together
pub count-any : (p : ℕ → Bool) (q : ℕ → ℕ → Bool) (l m : List ℕ) → count (λ v. any (λ w. p w && q w v) l) m ≤ sum (λ w. cond (p w) (count (q w) m) 0) l
unfolding any sum
count-any p q [] m = omega (arith, count_none (λ v. false) m (λ v i. tt))
count-any p q (u ∷ us) m =
    let both = count-or (λ v. p u && q u v) (λ v. any (λ w. p w && q w v) us) m in
    let one : count (λ v. p u && q u v) m ≤ cond (p u) (count (q u) m) 0 = split (p u)
    (λ t. rw (true_of (p u) t) (omega arith))
    (λ t. rw (false_of (p u) t) (omega (arith, count_none (λ v. false) m (λ v i. tt)))) in
    omega (arith, both, one, count-any p q us m)

pub member_i : (w : ℕ) (l : List ℕ) → In w l → T (member w l)
member_i w l i = any_i (eqb w) l w i (eqb_refl w)

pub member-e : (w : ℕ) (l : List ℕ) → T (member w l) → In w l
member-e w l t = let r = any-e (eqb w) l t in subst (λ z. In z l) (sym (eqb→eq w r.0 r.2)) r.1

pub member_yes : (w : ℕ) (l : List ℕ) → In w l → member w l ≡ true
member_yes w l i = true_of (member w l) (member_i w l i)

pub member_no : (w : ℕ) (l : List ℕ) → (In w l → ⊥) → member w l ≡ false
member_no w l f = false_of (member w l) (not_T (member w l) (λ t. f (member-e w l t)))

-- past a number that is not w
pub member-past : (w u : ℕ) (l : List ℕ) → (w ≡ u → ⊥) → member w (u ∷ l) ≡ member w l
unfolding any
member-past w u l d = ap (λ b. b || member w l) (false_of (eqb w u) (not_T (eqb w u) (λ t. d (eqb→eq w u t))))

-- one number more stands at the end of the list, and all others as before
pub member_snoc : (w : ℕ) (l : List ℕ) → T (member w (l ++ w ∷ []))
member_snoc w l = member_i w (l ++ w ∷ []) ((in_append l (w ∷ []) w).1 (inr (inl refl)))

pub member-other : (v w : ℕ) (l : List ℕ) → (v ≡ w → ⊥) → member v (l ++ w ∷ []) ≡ member v l
member-other v w l f = same (member v (l ++ w ∷ [])) (member v l)
    (λ t. member_i v l (⊎_elim (λ i. i) (⊎_elim (λ e. absurd (f e)) (λ i. absurd i)) ((in_append l (w ∷ []) v).0 (member-e v (l ++ w ∷ []) t))))
    (λ t. member_i v (l ++ w ∷ []) ((in_append l (w ∷ []) v).1 (inl (member-e v l t))))

-- v stands in a list exactly when more of its numbers are at least v than at least v + 1
pub member-count : (v : ℕ) (l : List ℕ) → member v l ≡ ltb (count (leb (v + 1)) l) (count (leb v) l)
member-count v l = same (member v l) (ltb (count (leb (v + 1)) l) (count (leb v) l))
    (λ t. le→leb (suc (count (leb (v + 1)) l)) (count (leb v) l)
    (count_strict (leb (v + 1)) (leb v) l (λ w i s. le→leb v w (omega (arith, leb→le (v + 1) w s))) v (member-e v l t) (le→leb v v (omega arith))
    (not_T (leb (v + 1) v) (λ s. absurd (omega (arith, leb→le (v + 1) v s))))))
    (λ t.
    let r = count_witness (leb v) (leb (v + 1)) l (leb→le (suc (count (leb (v + 1)) l)) (count (leb v) l) t) in
    let e : v ≡ r.0 = omega (arith, leb→le v r.0 r.2, nleb→lt (v + 1) r.0 r.3) in
    any_i (eqb v) l r.0 r.1 (eqb_of v r.0 e))

-- two tests that differ at w alone, which passes the first: one more if w stands in the list
pub count-one : (p q : ℕ → Bool) (w : ℕ) (l : List ℕ) → Distinct l → T (p w) → T (not (q w)) → ((u : ℕ) → (u ≡ w → ⊥) → p u ≡ q u)
    → count p l ≡ count q l + bit (member w l)
unfolding count any
count-one p q w [] d s t f = refl
count-one p q w (u ∷ us) d s t f = split (eqb w u)
    (λ e.
    let same-vertex = eqb→eq w u e in
    let rest = count_cong p q us (λ x i. f x (λ x-is. d.0 (subst (λ z. In z us) (x-is ∙ same-vertex) i))) in
    omega (arith, bit_yes (p u) (subst (λ z. T (p z)) same-vertex s), bit_no (q u) (subst (λ z. T (not (q z))) same-vertex t), bit_yes (eqb w u || any (eqb w) us) (or_l (eqb w u) _ e)))
    (λ e.
    let other = f u (λ same-vertex. neqb w u e (sym same-vertex)) in
    omega (arith, ap bit other, ap (λ b. bit (b || any (eqb w) us)) (false_of (eqb w u) e), count-one p q w us d.1 s t f))

-- q passes where p does, but not at x: one less below n
pub count_less : (p q : ℕ → Bool) (x n : ℕ) → x < n → T (p x) → T (not (q x)) → ((w : ℕ) → (w ≡ x → ⊥) → p w ≡ q w) → count p (below n) ≡ suc (count q (below n))
count_less p q x n h t s e =
    let one = count-one p q x (below n) (distinct-below n) t s e in
    let here = bit_yes (member x (below n)) (member_i x (below n) ((in_below n x).1 h)) in
    omega arith

-- ---- first

module _ (p : ℕ → Bool) where
  pub from_hit : (k i j : ℕ) → i ≤ j → j < i + k → NoneFrom p i j → p j ≡ true → first_from p k i ≡ j
  unfolding first_from
  from_hit zero i j l h none hit = absurd (omega arith)
  from_hit (suc k) i j l h none hit =
      ⊎_elim
      (λ e. let y : p i ≡ true = rw e hit in rw y e)
      (λ lt. let y : p i ≡ false = none i (omega arith) lt in
      let r : first_from p k (suc i) ≡ j = from_hit k (suc i) j lt (omega arith) (λ m a b. none m (omega arith) b) hit in
      rw y r)
      (eq-or-lt_of_le l)

  pub from-none : (k i : ℕ) → NoneFrom p i (i + k) → first_from p k i ≡ i + k
  unfolding first_from
  from-none zero i none = omega arith
  from-none (suc k) i none =
      let y : p i ≡ false = none i (omega arith) (omega arith) in
      rw y (omega (arith, from-none k (suc i) (λ m a b. none m (omega arith) (omega arith))))

  pub from_le : (k i : ℕ) → first_from p k i ≤ i + k
  unfolding first_from
  from_le zero i = omega arith
  from_le (suc k) i = at (p i) (from_le k (suc i))
    where
      at : (b : Bool) → first_from p k (suc i) ≤ suc i + k → cond b i (first_from p k (suc i)) ≤ i + suc k
      at true ih = omega arith
      at false ih = omega arith

  pub from-below : (k i : ℕ) → NoneFrom p i (first_from p k i)
  unfolding first_from
  from-below zero i m l h = absurd (omega arith)
  from-below (suc k) i m l h = at (p i) refl h (from-below k (suc i) m)
    where
      at : (b : Bool) → p i ≡ b → m < cond b i (first_from p k (suc i)) → (i < m → m < first_from p k (suc i) → p m ≡ false) → p m ≡ false
      at true e h ih = absurd (omega arith)
      at false e h ih = ⊎_elim (λ q. rw (← q) e) (λ lt. ih lt h) (eq-or-lt_of_le l)

  pub from_past : (k i : ℕ) → i ≤ first_from p k i
  unfolding first_from
  from_past zero i = omega arith
  from_past (suc k) i = at (p i) (from_past k (suc i))
    where
      at : (b : Bool) → suc i ≤ first_from p k (suc i) → i ≤ cond b i (first_from p k (suc i))
      at true ih = omega arith
      at false ih = omega arith

  pub from_passes : (k i : ℕ) → first_from p k i < i + k → T (p (first_from p k i))
  unfolding first_from
  from_passes zero i h = absurd (omega arith)
  from_passes (suc k) i h = at (p i) refl h (from_passes k (suc i))
    where
      at : (b : Bool) → p i ≡ b → cond b i (first_from p k (suc i)) < i + suc k → (first_from p k (suc i) < suc i + k → T (p (first_from p k (suc i)))) → T (p (cond b i (first_from p k (suc i))))
      at true e h ih = of_true (p i) e
      at false e h ih = ih (omega arith)

  -- a search loop: it stops at i, or passes n
  pub first_hit : (n i : ℕ) → NoneBelow p i → i < n → p i ≡ true → first p n ≡ i
  unfolding first
  first_hit n i none h hit = from_hit n 0 i (omega arith) (omega arith) (λ m a b. none m b) hit

  pub first-none : (n : ℕ) → NoneBelow p n → first p n ≡ n
  unfolding first
  first-none n none = from-none n 0 (λ m a b. none m (omega arith)) ∙ omega arith

  pub first-le : (n : ℕ) → first p n ≤ n
  unfolding first
  first-le n = omega (arith, from_le n 0)

  -- what the lowest index says of the test: it fails below, and passes there
  pub first_below : (n : ℕ) → NoneBelow p (first p n)
  unfolding first
  first_below n k h = from-below n 0 k (omega arith) h

  pub first_passes : (n : ℕ) → first p n < n → T (p (first p n))
  unfolding first
  first_passes n h = from_passes n 0 (omega arith)

  pub none_of : (n : ℕ) → first p n ≡ n → NoneBelow p n
  none_of n e k h = first_below n k (omega arith)

  pub first-before : (n j : ℕ) → j < first p n → T (not (p j))
  first-before n j h = of_false (p j) (first_below n j h)

  pub first-least : (n j : ℕ) → T (p j) → first p n ≤ j
  first-least n j t = split (leb (first p n) j) (leb→le (first p n) j) (λ g. absurd (T_not (p j) (first-before n j (nleb→lt (first p n) j g)) t))

  -- one below n passes: so does the lowest
  pub first_holds : (n j : ℕ) → j < n → T (p j) → T (p (first p n))
  first_holds n j h t = first_passes n (omega (arith, first-least n j t))

  -- n itself passes: so does the lowest
  pub first_ends : (n : ℕ) → T (p n) → T (p (first p n))
  first_ends n t = split (eqb (first p n) n)
      (λ e. subst (λ z. T (p z)) (sym (eqb→eq (first p n) n e)) t)
      (λ e. first_passes n (let ne : (first p n ≡ n → ⊥) = neqb (first p n) n e in omega (arith, first-le n)))

-- ---- the lowest index as the library's searches answer it

find-from : (p : ℕ → Bool) (n a : ℕ) → find p (range_with_len a n) ≡ cond (ltb (first_from p n a) (a + n)) (Some (first_from p n a)) None
unfolding first_from
find-from p zero a = rw (le-ltb a (a + 0) (omega arith))
find-from p (suc n) a =
    let more : suc a + n ≡ a + suc n = omega arith in
    split (p a)
    (λ t. rw (true_of (p a) t, lt-ltb a (a + suc n) (omega arith)))
    (λ f. rw (false_of (p a) f, add-one) (find-from p n (suc a) ∙ rw more))

-- `find` over the numbers below a bound
pub find-found : (p : ℕ → Bool) (n : ℕ) → find p (range_with_len 0 n) ≡ found p n
unfolding first
find-found p n = let zero_more : 0 + n ≡ n = omega arith in rw zero_more at (find-from p n 0)

-- as the library's lemma on `find` states it
pub found-by : (p : ℕ → Bool) (n : ℕ) (r : Option ℕ) → option_map (λ x. x) r ≡ find p (range_with_len 0 n) → r ≡ found p n
found-by p n (Some v) e = e ∙ find-found p n
found-by p n None e = e ∙ find-found p n

-- at a list with one number more in front each place is one more
place_shift : (p : ℕ → Bool) (x : ℕ) (xs : List ℕ) (n i : ℕ) → first_from (λ j. p (get_or (x ∷ xs) j 0)) n (suc i) ≡ suc (first_from (λ j. p (get_or xs j 0)) n i)
unfolding first_from
place_shift p x xs zero i = refl
place_shift p x xs (suc n) i =
    split (p (get_or xs i 0))
    (λ t. rw (true_of (p (get_or xs i 0)) t))
    (λ f. rw (false_of (p (get_or xs i 0)) f) (place_shift p x xs n (suc i)))

place-first : (p : ℕ → Bool) (xs : List ℕ) → position_or_len p xs ≡ first (λ i. p (get_or xs i 0)) (length xs)
unfolding first first_from
place-first p [] = refl
place-first p (x ∷ xs) =
    let one : 1 + position_or_len p xs ≡ suc (position_or_len p xs) = omega arith in
    split (p x)
    (λ t. rw (true_of (p x) t))
    (λ f. rw (false_of (p x) f) (one ∙ ap suc (place-first p xs) ∙ sym (place_shift p x xs (length xs) 0)))

-- a loop over the indices below a bound: one passes, or none does
pub found_hit : (p : ℕ → Bool) (n i : ℕ) → NoneBelow p i → i < n → p i ≡ true → found p n ≡ Some i
found_hit p n i none h hit = rw (first_hit p n i none h hit, lt-ltb i n h)

pub found_none : (p : ℕ → Bool) (n : ℕ) → NoneBelow p n → found p n ≡ None
found_none p n none = rw (first-none p n none, le-ltb n n (omega arith))

-- `position` over a slice
pub position-found : (p : ℕ → Bool) (xs : List ℕ) → cond (ltb (position_or_len p xs) (length xs)) (Some (position_or_len p xs)) None ≡ found (λ i. p (get_or xs i 0)) (length xs)
position-found p xs = rw (place-first p xs)

-- equal tests have the same lowest index
pub first_cong : (p q : ℕ → Bool) (n : ℕ) → ((v : ℕ) → v < n → p v ≡ q v) → first p n ≡ first q n
first_cong p q n e =
    split (ltb (first q n) n)
    (λ t. let h = leb→le (suc (first q n)) n t in
    first_hit p n (first q n) (λ k l. e k (omega arith) ∙ first_below q n k l) h (e (first q n) h ∙ true_of (q (first q n)) (first_passes q n h)))
    (λ t. let h : first q n ≡ n = omega (arith, nleb→lt (suc (first q n)) n t, first-le q n) in
    first-none p n (λ k l. e k l ∙ none_of q n h k l) ∙ sym h)

-- ---- largest

module _ (p : ℕ → Bool) where
  pub largest-holds : (m : ℕ) → T (p zero) → T (p (largest p m))
  unfolding largest
  largest-holds zero t = t
  largest-holds (suc k) t = go (p (suc k)) refl (largest-holds k t)
    where
      go : (b : Bool) → p (suc k) ≡ b → T (p (largest p k)) → T (p (cond b (suc k) (largest p k)))
      go true e r = of_true (p (suc k)) e
      go false e r = r

  pub largest-max : (m k : ℕ) → k ≤ m → T (p k) → k ≤ largest p m
  unfolding largest
  largest-max zero k h t = h
  largest-max (suc m) k h t = go (p (suc m)) refl (λ g. largest-max m k g t)
    where
      go : (b : Bool) → p (suc m) ≡ b → (k ≤ m → k ≤ largest p m) → k ≤ cond b (suc m) (largest p m)
      go true e r = h
      go false e r = r (split (leb k m) (leb→le k m) (λ g. absurd (subst T e (subst (λ z. T (p z)) (omega (arith, nleb→lt k m g)) t))))

-- ---- strictly ascending lists

pub ascending-step : (xs : List ℕ) → T (ascending xs) → (i : ℕ) → i + 1 < length xs → get_or xs i 0 < get_or xs (i + 1) 0
unfolding ascending
ascending-step xs t i h = leb→le (suc (get_or xs i 0)) (get_or xs (i + 1) 0) (all-below-e (rises xs) (length xs - 1) t i (omega arith))

ascending-far : (xs : List ℕ) → T (ascending xs) → (i k : ℕ) → i + 1 + k < length xs → get_or xs i 0 < get_or xs (i + 1 + k) 0
ascending-far xs t i zero h = let q : i + 1 + 0 ≡ i + 1 = omega arith in rw q (ascending-step xs t i (omega arith))
ascending-far xs t i (suc k) h =
    let q : i + 1 + suc k ≡ i + 1 + k + 1 = omega arith in
    rw q (omega (arith, ascending-far xs t i k (omega arith), ascending-step xs t (i + 1 + k) (omega arith)))

-- an earlier number is below a later one
pub ascending-lt : (xs : List ℕ) → T (ascending xs) → (i j : ℕ) → i < j → j < length xs → get_or xs i 0 < get_or xs j 0
ascending-lt xs t i j h b = let q : i + 1 + (j - (i + 1)) ≡ j = omega arith in subst (λ z. get_or xs i 0 < get_or xs z 0) q (ascending-far xs t i (j - (i + 1)) (omega arith))

ascending_tail : (x : ℕ) (xs : List ℕ) → T (ascending (x ∷ xs)) → T (ascending xs)
unfolding ascending
ascending_tail x xs t = all-below_i (rises xs) (length xs - 1) (λ i h.
    let r = ascending-step (x ∷ xs) t (suc i) (omega arith) in
    let q : suc i + 1 ≡ suc (i + 1) = omega arith in
    le→leb (suc (get_or xs i 0)) (get_or xs (i + 1) 0) (rw q at r))

pub ascending-distinct : (xs : List ℕ) → T (ascending xs) → Distinct xs
ascending-distinct xs t = ordered-distinct ◌<◌ (λ v h. absurd (omega (arith, h))) xs (ordered_of ◌<◌ xs (ascending-lt xs t))

-- a scan for order: each number is `least` or more, one more than the number before it
abbrev pub scans : ℕ → List ℕ → Bool
scans least [] = true
scans least (x ∷ xs) = leb least x && scans (x + 1) xs

scans-ascending : (least : ℕ) (xs : List ℕ) → T (scans least xs) → T (ascending xs)
unfolding ascending
scans-ascending least [] t = all-below_i (rises []) 0 (λ i h. absurd (omega arith))
scans-ascending least (x ∷ []) t = all-below_i (rises (x ∷ [])) 0 (λ i h. absurd (omega arith))
scans-ascending least (x ∷ y ∷ ys) t =
    let rest = and_r (leb least x) _ t in
    let tail = scans-ascending (x + 1) (y ∷ ys) rest in
    let step = leb→le (x + 1) y (and_l (leb (x + 1) y) _ rest) in
    all-below_i (rises (x ∷ y ∷ ys)) (length (x ∷ y ∷ ys) - 1) (λ i h. at step tail i (omega arith))
  where
    at : x + 1 ≤ y → T (ascending (y ∷ ys)) → (i : ℕ) → i < length (y ∷ ys) → T (rises (x ∷ y ∷ ys) i)
    at h tail zero b = le→leb (suc x) y (omega arith)
    at h tail (suc i) b =
        let r = ascending-step (y ∷ ys) tail i (omega arith) in
        let q : suc i + 1 ≡ suc (i + 1) = omega arith in
        rw q (le→leb (suc (get_or (y ∷ ys) i 0)) (get_or (y ∷ ys) (i + 1) 0) r)

ascending-scans : (least : ℕ) (xs : List ℕ) → T (ascending xs) → (0 < length xs → least ≤ get_or xs 0 0) → T (scans least xs)
ascending-scans least [] t h = tt
ascending-scans least (x ∷ xs) t h =
    and_i (leb least x) _ (le→leb least x (h (omega arith)))
    (ascending-scans (x + 1) xs (ascending_tail x xs t) (λ b. let r = ascending-step (x ∷ xs) t 0 (omega arith) in omega arith))

-- a list ascends exactly when a scan from 0 on passes
pub ascending_scan : (xs : List ℕ) → ascending xs ≡ scans 0 xs
ascending_scan xs = same (ascending xs) (scans 0 xs) (λ t. ascending-scans 0 xs t (λ b. zero-le)) (scans-ascending 0 xs)

-- none below 0, and one more number below i + 1
pub any-below-zero : (p : ℕ → Bool) → any p (below 0) ≡ false
unfolding any below tabulate
any-below-zero p = refl

pub any-below-more : (p : ℕ → Bool) (i : ℕ) → any p (below (i + 1)) ≡ any p (below i) || p i
unfolding any below tabulate
any-below-more p i = rw add-one (any_append p (below i) (i ∷ []) ∙ ap (λ z. any p (below i) || z) (or-false (p i)))

-- ---- the greatest of some values

module _ (f : ℕ → ℕ) where
  -- one value more is the greatest, or is not
  greatest_by : (C : ℕ → Type 0) (n : ℕ) → (greatest_of f n < f n → C (f n)) → (f n ≤ greatest_of f n → C (greatest_of f n)) → C (greatest_of f (suc n))
  unfolding greatest_of
  greatest_by C n more less = split (ltb (greatest_of f n) (f n))
      (λ t. rw (true_of (ltb (greatest_of f n) (f n)) t) (more (ltb→lt (greatest_of f n) (f n) t)))
      (λ t. rw (false_of (ltb (greatest_of f n) (f n)) t) (less (nltb→le (greatest_of f n) (f n) t)))

  -- none is greater
  pub greatest_bounds : (n i : ℕ) → i < n → f i ≤ greatest_of f n
  greatest_bounds zero i h = absurd (omega arith)
  greatest_bounds (suc n) i h = greatest_by (λ m. f i ≤ m) n
      (λ more. split (eqb i n) (λ t. rw (eqb→eq i n t) (omega arith)) (λ t. let other = neqb i n t in omega (arith, greatest_bounds n i (omega arith))))
      (λ less. split (eqb i n) (λ t. rw (eqb→eq i n t) less) (λ t. let other = neqb i n t in greatest_bounds n i (omega arith)))

  -- and it is one of them, if there is one
  pub greatest_one : (n : ℕ) → 0 < n → (i : ℕ) × (i < n) × (f i ≡ greatest_of f n)
  unfolding greatest_of
  greatest_one zero h = absurd (omega arith)
  greatest_one (suc zero) h = (0, omega arith, greatest_by (λ m. f 0 ≡ m) 0 (λ more. refl) (λ less. omega arith))
  greatest_one (suc (suc n)) h = greatest_by (λ m. (i : ℕ) × (i < suc (suc n)) × (f i ≡ m)) (suc n)
      (λ more. (suc n, omega arith, refl))
      (λ less. let r = greatest_one (suc n) (omega arith) in (r.0, omega (arith, r.1), r.2))

  -- a loop over the values: none yet; one more, greater or not
  pub greatest_zero : greatest_of f 0 ≡ 0
  unfolding greatest_of
  greatest_zero = refl

  pub greatest_more : (n : ℕ) → greatest_of f n < f n → greatest_of f (n + 1) ≡ f n
  greatest_more n h = rw add-one (greatest_by (λ m. m ≡ f n) n (λ more. refl) (λ less. absurd (omega arith)))

  pub greatest_same : (n : ℕ) → f n ≤ greatest_of f n → greatest_of f (n + 1) ≡ greatest_of f n
  greatest_same n h = rw add-one (greatest_by (λ m. m ≡ greatest_of f n) n (λ more. absurd (omega arith)) (λ less. refl))

  pub greatest_max : (n : ℕ) → greatest_of f (n + 1) ≡ max (greatest_of f n) (f n)
  greatest_max n = rw add-one (greatest_by (λ m. m ≡ max (greatest_of f n) (f n)) n (λ more. omega arith) (λ less. omega arith))

-- ascending as the library's `is_sorted_by` answers it
pub adjacent-ascending : (xs : List ℕ) (r : Bool) → IsAllAdjacentAnswer (λ x y b. b ≡ ltb x y) xs r → r ≡ ascending xs
unfolding ascending
adjacent-ascending xs true h = sym (all-below_yes (rises xs) (length xs - 1) (λ v less. sym (h v 0 (omega arith))))
adjacent-ascending xs false h = sym (all-below_no (rises xs) (length xs - 1) h.0 (omega (arith, h.1)) (sym (h.2 0)))

-- membership as its `binary_search` answers it
pub searched-member : (xs : List ℕ) (x : ℕ) (r : Result ℕ ℕ) → T (ascending xs) → IsBinarySearchResult (λ y. nat_cmp y x) xs r → is_ok r ≡ member x xs
searched-member xs x r t h = go r (searched xs x r h (λ i j le less. ⊎_elim (λ e. rw e (omega arith)) (λ lt. omega (arith, ascending-lt xs t i j lt less)) (eq-or-lt_of_le le)))
  where
    go : (r : Result ℕ ℕ) → MatchResult r (λ i. (i < length xs) × (get_or xs i 0 ≡ x)) (λ i. (i ≤ length xs) × ((k : ℕ) → k < i → get_or xs k 0 < x) × ((k : ℕ) → i ≤ k → k < length xs → x < get_or xs k 0)) → is_ok r ≡ member x xs
    go (Ok i) found = sym (any_at (eqb x) xs i found.0 (eq-eqb x (get_or xs i 0) (sym found.1)))
    go (Err i) parted = sym (any_none (eqb x) xs (λ k less. ne_eqb x (get_or xs k 0) (λ e. split (leb i k)
        (λ q. omega (arith, parted.2 k (leb→le i k q) less))
        (λ q. omega (arith, parted.1 k (omega (arith, nleb→lt i k q)))))))

-- `all` and `any` over a slice
pub list_all-all : (p : ℕ → Bool) (xs : List ℕ) → list_all p xs ≡ all p xs
unfolding all
list_all-all p [] = refl
list_all-all p (x ∷ xs) = ap (λ b. p x && b) (list_all-all p xs)

pub list_any-any : (p : ℕ → Bool) (xs : List ℕ) → list_any p xs ≡ any p xs
unfolding any
list_any-any p [] = refl
list_any-any p (x ∷ xs) = ap (λ b. p x || b) (list_any-any p xs)
