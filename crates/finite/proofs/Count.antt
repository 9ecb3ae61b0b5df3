-- Laws of tables, membership and counts. Assumes nothing.
use Rattle.std.specs.List.{filter}
use mathlib.Core.Path.{◌≡◌, refl, sym, ap, ◌∙◌, subst}
use mathlib.Core.Logic.{◌↔◌, ◌⊎◌, inl, inr, ⊎_elim}
use mathlib.Core.Bool.{Bool, true, false, not, ◌&&◌, ◌||◌, cond}
use mathlib.Core.List.{List, [], ◌∷◌, ◌++◌, map, flatten, append_assoc, append-nil}
use Prim.Native.Nat.{ℕ, zero, suc, ◌+◌, ◌-◌, ◌≤◌, ◌<◌, zero-le}
use native.Mathlib.Nat.{not-suc-le-zero, eq-or-lt_of_le}
use native.Mathlib.Numerals.{add-one}
use native.Mathlib.Omega.{arith}
use lib.ListN.{length, take, drop, get_or, set, replicate, length-append, length-replicate, get_or-replicate, get_or-append, get_or-eq_default}
use lib.Seq.{take-suc, take_all, length-take-le, get_or-take, set_at, drop-cons, drop-length, get_or_at, ext_get_or, get_or-drop, get_or-append-add, get_or-set_same, get_or-set_other}
use lib.Dec.{T, leb, eqb, leb→le, nleb→lt, T_not, not_T, eqb→eq, eqb_refl, ltb, ltb→lt, nltb→le}
use Rattle.finite.specs.Count.{bit, tabulate, below, count, sum, In, Distinct}
use Rattle.finite.proofs.Tests.{and_i, and_l, and_r, split, neqb, true_of, false_of}

-- ---- bit

pub bit_le : (b : Bool) → bit b ≤ 1
bit_le true = omega arith
bit_le false = omega arith

pub bit-zero : (b : Bool) → bit b ≡ 0 → b ≡ false
bit-zero true z = absurd (omega arith)
bit-zero false z = refl

pub bit_yes : (b : Bool) → T b → bit b ≡ 1
bit_yes true t = refl
bit_yes false t = absurd t

pub bit_no : (b : Bool) → T (not b) → bit b ≡ 0
bit_no true t = absurd t
bit_no false t = refl

pub bit_mono : (a b : Bool) → (T a → T b) → bit a ≤ bit b
bit_mono true b f = omega (arith, bit_yes b (f tt))
bit_mono false b f = zero-le

-- ---- In

pub in_at : (l : List ℕ) (i d : ℕ) → i < length l → In (get_or l i d) l
in_at [] i d h = absurd (not-suc-le-zero h)
in_at (w ∷ ws) zero d h = inl refl
in_at (w ∷ ws) (suc i) d h = inr (in_at ws i d (omega arith))

pub at_in : (l : List ℕ) (w d : ℕ) → In w l → (i : ℕ) × (i < length l) × (get_or l i d ≡ w)
at_in [] w d h = absurd h
at_in (u ∷ us) w d (inl e) = (0, omega arith, sym e)
at_in (u ∷ us) w d (inr h) = let r = at_in us w d h in (suc r.0, omega arith, r.2)

-- what stands in two lists joined stands in one of them
pub in_append : (l m : List ℕ) (w : ℕ) → In w (l ++ m) ↔ (In w l ⊎ In w m)
in_append [] m w = (inr, ⊎_elim (λ i. absurd i) (λ i. i))
in_append (u ∷ us) m w = let r = in_append us m w in (
  ⊎_elim (λ e. inl (inl e)) (λ i. ⊎_elim (λ j. inl (inr j)) inr (r.0 i)),
  ⊎_elim (⊎_elim inl (λ j. inr (r.1 (inl j)))) (λ j. inr (r.1 (inr j))),
)

pub map_cong : (f h : ℕ → ℕ) (l : List ℕ) → ((v : ℕ) → In v l → f v ≡ h v) → map f l ≡ map h l
map_cong f h [] e = refl
map_cong f h (w ∷ ws) e = let here = e w (inl refl) in rw (here, map_cong f h ws (λ v i. e v (inr i)))

-- what two lists of lists hold, one behind the other
pub flatten_append : (ls ms : List (List ℕ)) → flatten (ls ++ ms) ≡ flatten ls ++ flatten ms
unfolding flatten
flatten_append [] ms = refl
flatten_append (l ∷ ls) ms = ap (λ (r : List ℕ). l ++ r) (flatten_append ls ms) ∙ sym (append_assoc l (flatten ls) (flatten ms))

-- one number more, that did not stand in the list
pub distinct_snoc : (l : List ℕ) (w : ℕ) → Distinct l → (In w l → ⊥) → Distinct (l ++ w ∷ [])
distinct_snoc [] w d f = (λ i. i, tt)
distinct_snoc (u ∷ us) w d f = (
  λ i. ⊎_elim d.0 (⊎_elim (λ e. f (inl (sym e))) (λ j. j)) ((in_append us (w ∷ []) u).0 i),
  distinct_snoc us w d.1 (λ i. f (inr i)),
)

-- ---- the first numbers of a list

pub in_take : (l : List ℕ) (i w : ℕ) → In w (take i l) → In w l
in_take [] zero w h = h
in_take [] (suc i) w h = h
in_take (u ∷ us) zero w h = absurd h
in_take (u ∷ us) (suc i) w (inl e) = inl e
in_take (u ∷ us) (suc i) w (inr h) = inr (in_take us i w h)

-- one more: those before, or the next
pub in_take-more : (l : List ℕ) (i w : ℕ) → i < length l → In w (take (i + 1) l) ↔ (In w (take i l) ⊎ (w ≡ get_or l i 0))
in_take-more l i w h = rw (add-one, take-suc l i 0) (
  λ j. ⊎_elim inl (⊎_elim inr (λ k. absurd k)) ((in_append (take i l) (get_or l i 0 ∷ []) w).0 j),
  λ j. (in_append (take i l) (get_or l i 0 ∷ []) w).1 (⊎_elim inl (λ e. inr (inl e)) j),
)

-- without repeats no number stands before its own place
pub distinct-before : (l : List ℕ) (i : ℕ) → Distinct l → i < length l → In (get_or l i 0) (take i l) → ⊥
distinct-before [] i d h j = absurd (not-suc-le-zero h)
distinct-before (u ∷ us) zero d h j = j
distinct-before (u ∷ us) (suc i) d h (inl e) = d.0 (subst (λ z. In z us) e (in_at us i 0 (omega arith)))
distinct-before (u ∷ us) (suc i) d h (inr j) = distinct-before us i d.1 (omega arith) j

pub distinct-drop : (l : List ℕ) (i : ℕ) → Distinct l → Distinct (drop i l)
distinct-drop l zero d = d
distinct-drop [] (suc i) d = d
distinct-drop (u ∷ us) (suc i) d = distinct-drop us i d.1

-- a list of zeros, read at any place
pub zeros-at : (m i : ℕ) → ◌≡◌ {A = ℕ} (get_or (replicate m 0) i 0) 0
zeros-at m i = split (leb (suc i) m)
    (λ t. get_or-replicate m i 0 0 (leb→le (suc i) m t))
    (λ t. get_or-eq_default (replicate m 0) 0 (omega (arith, nleb→lt (suc i) m t, length-replicate {A = ℕ} m 0)))

-- ---- tabulate

-- a loop that stores numbers one after the other over d: p are stored, and one more
pub store-more : {X : Type 0} (p d e : List X) (i : ℕ) (x : X) → length p ≡ i → e ≡ p ++ drop i d → i < length d → set e i x ≡ (p ++ x ∷ []) ++ drop (i + 1) d
store-more p d e i x l q h =
    let r : drop i d ≡ get_or d i x ∷ drop (suc i) d = drop-cons d i x h in
    rw (q, r, add-one, append_assoc, set_at p (get_or d i x) (drop (suc i) d) x i l)

module _ {X : Type 0} (f : ℕ → X) where
  pub length-tabulate : (n : ℕ) → length (tabulate f n) ≡ n
  unfolding tabulate
  length-tabulate zero = refl
  length-tabulate (suc n) = omega (arith, length-append (tabulate f n) (f n ∷ []), length-tabulate n)

  -- read with any default
  pub tabulate_reads : (d : X) (n i : ℕ) → i < n → get_or (tabulate f n) i d ≡ f i
  unfolding tabulate
  tabulate_reads d zero i h = absurd (omega arith)
  tabulate_reads d (suc n) i h =
      let l : i ≤ n = omega arith in
      ⊎_elim
      (λ e. rw e (get_or_at (tabulate f n) (f n) [] d n (length-tabulate n)))
      (λ lt. get_or-append (tabulate f n) (f n ∷ []) d i (omega (arith, length-tabulate n)) ∙ tabulate_reads d n i lt)
      (eq-or-lt_of_le l)

  -- a loop that stores f 0, f 1, .. over d: nothing stored, one more stored, all stored
  pub fill_none : (d : List X) → d ≡ tabulate f 0 ++ drop 0 d
  unfolding tabulate
  fill_none d = refl

  pub fill_more : (d e : List X) (i : ℕ) → e ≡ tabulate f i ++ drop i d → i < length d → set e i (f i) ≡ tabulate f (i + 1) ++ drop (i + 1) d
  unfolding tabulate
  fill_more d e i q h = store-more (tabulate f i) d e i (f i) (length-tabulate i) q h ∙ ap (λ j. tabulate f j ++ drop (i + 1) d) (sym (add-one i))

  pub fill_all : (d : List X) (i : ℕ) → i ≡ length d → tabulate f i ++ drop i d ≡ tabulate f i
  fill_all d i q = rw (q, drop-length, append-nil)

module _ (f : ℕ → ℕ) where
  pub tabulate-at : (n i : ℕ) → i < n → get_or (tabulate f n) i 0 ≡ f i
  tabulate-at n i h = tabulate_reads f 0 n i h

  -- where the next store goes still stands the old element
  pub fill_here : (d e : List ℕ) (i : ℕ) → e ≡ tabulate f i ++ drop i d → i < length d → get_or e i 0 ≡ get_or d i 0
  fill_here d e i q h =
      let r : drop i d ≡ get_or d i 0 ∷ drop (suc i) d = drop-cons d i 0 h in
      rw (q, r) (get_or_at (tabulate f i) (get_or d i 0) (drop (suc i) d) 0 i (length-tabulate f i))

pub tabulate_cong : {X : Type 0} (f g : ℕ → X) (n : ℕ) → ((i : ℕ) → i < n → f i ≡ g i) → tabulate f n ≡ tabulate g n
unfolding tabulate
tabulate_cong f g zero e = refl
tabulate_cong f g (suc n) e = let r = tabulate_cong f g n (λ i h. e i (omega arith)) in let q = e n (omega arith) in rw (r, q)

-- a list is the table of its own elements
pub tabulate-self : (xs : List ℕ) (n : ℕ) → length xs ≡ n → tabulate (λ i. get_or xs i 0) n ≡ xs
tabulate-self xs n e =
    ext_get_or 0 (tabulate (λ i. get_or xs i 0) n) xs (length-tabulate (λ i. get_or xs i 0) n ∙ sym e)
    (λ i h. tabulate-at (λ i. get_or xs i 0) n i (omega (arith, length-tabulate (λ i. get_or xs i 0) n)))

-- the first n elements of a list that holds f below n are its table
pub tabulate-take : (f : ℕ → ℕ) (xs : List ℕ) (n : ℕ) → n ≤ length xs → ((v : ℕ) → v < n → get_or xs v 0 ≡ f v) → take n xs ≡ tabulate f n
tabulate-take f xs n h e =
    let l = length-take-le n xs h in
    ext_get_or 0 (take n xs) (tabulate f n) (l ∙ sym (length-tabulate f n))
    (λ i b. let lt : i < n = omega arith in get_or-take n xs i 0 lt ∙ e i lt ∙ sym (tabulate-at f n i lt))

-- ---- below

pub length-below : (n : ℕ) → length (below n) ≡ n
unfolding below
length-below n = length-tabulate (λ i. i) n

pub in_below : (n w : ℕ) → In w (below n) ↔ (w < n)
unfolding below
in_below n w = (
  λ i.
      let r = at_in (tabulate (λ j. j) n) w 0 i in
      let k : r.0 < n = omega (arith, length-tabulate (λ j. j) n) in
      subst (λ z. z < n) (sym (tabulate-at (λ j. j) n r.0 k) ∙ r.2) k,
  λ h. subst (λ z. In z (tabulate (λ j. j) n)) (tabulate-at (λ j. j) n w h) (in_at (tabulate (λ j. j) n) w 0 (omega (arith, length-tabulate (λ j. j) n))),
)

pub distinct-below : (n : ℕ) → Distinct (below n)
unfolding below tabulate
distinct-below zero = tt
distinct-below (suc n) = distinct_snoc (below n) n (distinct-below n) (λ i. absurd (omega (arith, (in_below n n).0 i)))

-- from v on v comes first
pub drop-below : (n v : ℕ) → v < n → drop v (below n) ≡ v ∷ drop (v + 1) (below n)
unfolding below
drop-below n v h = let e = tabulate-at (λ i. i) n v h in drop-cons (below n) v 0 (omega (arith, length-below n)) ∙ rw (e, add-one)

-- ---- count: one test

module _ (p : ℕ → Bool) where
  pub count-length : (l : List ℕ) → count p l ≤ length l
  unfolding count
  count-length [] = zero-le
  count-length (w ∷ ws) = omega (arith, bit_le (p w), count-length ws)

  pub count-append : (l m : List ℕ) → count p (l ++ m) ≡ count p l + count p m
  unfolding count
  count-append [] m = omega arith
  count-append (w ∷ ws) m = omega (arith, count-append ws m)

  -- a loop over a list: none counted, one more counted, all counted
  pub count-start : (l : List ℕ) → count p (take 0 l) ≡ 0
  unfolding count
  count-start l = refl

  pub count-more : (l : List ℕ) (i : ℕ) → i < length l → count p (take (i + 1) l) ≡ count p (take i l) + bit (p (get_or l i 0))
  unfolding count
  count-more l i h = rw (add-one, take-suc l i 0, count-append) (omega arith)

  pub count-end : (l : List ℕ) (i : ℕ) → length l ≤ i → count p (take i l) ≡ count p l
  count-end l i h = ap (count p) (take_all i l h)

  -- a loop over the numbers below a bound
  pub count-below-zero : count p (below 0) ≡ 0
  unfolding count below tabulate
  count-below-zero = refl

  pub count-below-more : (i : ℕ) → count p (below (i + 1)) ≡ count p (below i) + bit (p i)
  unfolding count below tabulate
  count-below-more i = rw (add-one, tabulate, count-append) (omega arith)

  pub count-below-le : (i : ℕ) → count p (below i) ≤ i
  count-below-le i = omega (arith, count-length (below i), length-below i)

  -- one that passes: the count is not 0
  pub count-some : (l : List ℕ) (w : ℕ) → In w l → T (p w) → 0 < count p l
  unfolding count
  count-some [] w i t = absurd i
  count-some (u ∷ us) w (inl e) t = omega (arith, bit_yes (p u) (subst (λ z. T (p z)) e t))
  count-some (u ∷ us) w (inr i) t = omega (arith, count-some us w i t)

  -- none that passes: the count is 0
  pub count_none : (l : List ℕ) → ((w : ℕ) → In w l → T (not (p w))) → count p l ≡ 0
  unfolding count
  count_none [] f = refl
  count_none (u ∷ us) f = omega (arith, bit_no (p u) (f u (inl refl)), count_none us (λ w i. f w (inr i)))

  pub count-all : (l : List ℕ) → ((w : ℕ) → In w l → T (p w)) → count p l ≡ length l
  unfolding count
  count-all [] f = refl
  count-all (u ∷ us) f = omega (arith, bit_yes (p u) (f u (inl refl)), count-all us (λ w i. f w (inr i)))

-- ---- count: two tests

module _ (p q : ℕ → Bool) where
  pub count_mono : (l : List ℕ) → ((w : ℕ) → In w l → T (p w) → T (q w)) → count p l ≤ count q l
  unfolding count
  count_mono [] f = zero-le
  count_mono (w ∷ ws) f = omega (arith, bit_mono (p w) (q w) (f w (inl refl)), count_mono ws (λ u i. f u (inr i)))

  pub count_cong : (l : List ℕ) → ((w : ℕ) → In w l → p w ≡ q w) → count p l ≡ count q l
  unfolding count
  count_cong [] f = refl
  count_cong (w ∷ ws) f = omega (arith, ap bit (f w (inl refl)), count_cong ws (λ u i. f u (inr i)))

  -- a greater count has a witness
  pub count_witness : (l : List ℕ) → count q l < count p l → (w : ℕ) × In w l × T (p w) × T (not (q w))
  unfolding count
  count_witness [] h = absurd (not-suc-le-zero h)
  count_witness (w ∷ ws) h = split (p w)
      (λ t. split (q w)
      (λ s. let r = count_witness ws (omega (arith, bit_yes (p w) t, bit_yes (q w) s)) in (r.0, inr r.1, r.2, r.3))
      (λ s. (w, inl refl, t, s)))
      (λ t. let r = count_witness ws (omega (arith, bit_no (p w) t)) in (r.0, inr r.1, r.2, r.3))

  pub count_strict : (l : List ℕ) → ((w : ℕ) → In w l → T (p w) → T (q w)) → (w : ℕ) → In w l → T (q w) → T (not (p w)) → count p l < count q l
  unfolding count
  count_strict [] f w i t s = absurd i
  count_strict (u ∷ us) f w (inl e) t s =
      omega (arith, bit_yes (q u) (subst (λ z. T (q z)) e t), bit_no (p u) (subst (λ z. T (not (p z))) e s), count_mono us (λ z i. f z (inr i)))
  count_strict (u ∷ us) f w (inr i) t s = omega (arith, bit_mono (p u) (q u) (f u (inl refl)), count_strict us (λ z j. f z (inr j)) w i t s)

  -- p within q, and as many: the same
  pub count_same : (l : List ℕ) → ((w : ℕ) → In w l → T (p w) → T (q w)) → count q l ≤ count p l → (w : ℕ) → In w l → T (q w) → T (p w)
  count_same l f h w i t = split (p w) (λ s. s) (λ s. absurd (omega (arith, count_strict l f w i t s)))

  -- p passes only where q does, or at x: at most one more
  pub count_off : (x : ℕ) (l : List ℕ) → Distinct l → ((w : ℕ) → In w l → (w ≡ x → ⊥) → T (p w) → T (q w)) → count p l ≤ suc (count q l)
  unfolding count
  count_off x [] d f = zero-le
  count_off x (w ∷ ws) d f = split (eqb w x)
      (λ t. omega (arith, bit_le (p w), count_mono ws (λ u i. f u (inr i) (λ e. d.0 (subst (λ z. In z ws) (e ∙ sym (eqb→eq w x t)) i)))))
      (λ t. omega (arith, bit_mono (p w) (q w) (f w (inl refl) (neqb w x t)), count_off x ws d.1 (λ u i. f u (inr i))))

  -- a union has at most as many as the two, and as many if they are disjoint
  pub count-or : (l : List ℕ) → count (λ w. p w || q w) l ≤ count p l + count q l
  unfolding count
  count-or [] = zero-le
  count-or (w ∷ ws) = omega (arith, bit_or (p w) (q w), count-or ws)
    where
      bit_or : (a b : Bool) → bit (a || b) ≤ bit a + bit b
      bit_or true b = omega arith
      bit_or false b = omega arith

  pub count_union : (l : List ℕ) → ((w : ℕ) → In w l → T (p w) → T (not (q w))) → count (λ w. p w || q w) l ≡ count p l + count q l
  unfolding count
  count_union [] f = refl
  count_union (w ∷ ws) f = omega (arith, bit-apart (p w) (q w) (f w (inl refl)), count_union ws (λ u i. f u (inr i)))
    where
      bit-apart : (a b : Bool) → (T a → T (not b)) → bit (a || b) ≡ bit a + bit b
      bit-apart true b g = omega (arith, bit_no b (g tt))
      bit-apart false b g = omega arith

-- what passes p in a list without repeats passes q and stands in another list: no more of them
pub count_inject : (p q : ℕ → Bool) (l m : List ℕ) → Distinct l → ((w : ℕ) → In w l → T (p w) → T (q w) × In w m) → count p l ≤ count q m
unfolding count
count_inject p q [] m d f = zero-le
count_inject p q (u ∷ us) m d f = split (p u)
    (λ t.
    let h = f u (inl refl) t in
    let rest : ℕ → Bool = λ w. q w && not (eqb u w) in
    let c = count_inject p rest us m d.1 (λ w i s. (and_i (q w) _ (f w (inr i) s).0 (not_T (eqb u w) (λ e. d.0 (subst (λ z. In z us) (sym (eqb→eq u w e)) i))), (f w (inr i) s).1)) in
    let s = count_strict rest q m (λ w i. and_l (q w) _) u h.1 h.0 (not_T (rest u) (λ e. T_not (eqb u u) (and_r (q u) _ e) (eqb_refl u))) in
    omega (arith, bit_le (p u)))
    (λ t. omega (arith, bit_no (p u) t, count_inject p q us m d.1 (λ w i. f w (inr i))))

-- ---- a list without repeats of numbers below n

module _ (l : List ℕ) (n : ℕ) (d : Distinct l) (f : (w : ℕ) → In w l → w < n) where
  pub distinct-length : length l ≤ n
  distinct-length =
      let a = count-all (λ w. true) l (λ w i. tt) in
      let b = count_inject (λ w. true) (λ w. true) l (below n) d (λ w i t. (tt, (in_below n w).1 (f w i))) in
      omega (arith, count-below-le (λ w. true) n)

  -- and less than n of them if one below n is left out
  pub distinct-other : (v : ℕ) → v < n → (In v l → ⊥) → length l < n
  distinct-other v b g =
      let a = count-all (λ w. true) l (λ w i. tt) in
      let c = count_inject (λ w. true) (λ w. not (eqb w v)) l (below n) d (λ w i t. (not_T (eqb w v) (λ e. g (subst (λ z. In z l) (eqb→eq w v e) i)), (in_below n w).1 (f w i))) in
      let s = count_strict (λ w. not (eqb w v)) (λ w. true) (below n) (λ w i t. tt) v ((in_below n v).1 b) tt (not_T (not (eqb v v)) (λ t. T_not (eqb v v) t (eqb_refl v))) in
      omega (arith, count-below-le (λ w. true) n)

-- a list without repeats of just the numbers below n that pass is as long as their count
pub count-listed : (p : ℕ → Bool) (n : ℕ) (l : List ℕ) → Distinct l → ((w : ℕ) → In w l → (w < n) × T (p w)) → ((w : ℕ) → w < n → T (p w) → In w l)
    → count p (below n) ≡ length l
count-listed p n l d f g =
    let a = count-all p l (λ w i. (f w i).1) in
    let b = count_inject p p l (below n) d (λ w i t. (t, (in_below n w).1 (f w i).0)) in
    let c = count_inject p p (below n) l (distinct-below n) (λ w i t. (t, g w ((in_below n w).0 i) t)) in
    omega arith

-- a mark that is a bit is 1 exactly where it is set
pub bit-one : (b : Bool) → eqb (bit b) 1 ≡ b
bit-one true = refl
bit-one false = refl

-- a byte of at most 1 is the bit of whether it is 1
pub bit_byte : (m : ℕ) → m ≤ 1 → bit (eqb m 1) ≡ m
bit_byte m h = split (eqb m 1)
    (λ t. rw (true_of (eqb m 1) t) (sym (eqb→eq m 1 t)))
    (λ t. let other = neqb m 1 t in rw (false_of (eqb m 1) t) (omega arith))

-- a list copied into zeros reads as the list
pub copied_in : (xs : List ℕ) (m v : ℕ) → get_or (tabulate (λ i. get_or xs i 0) (length xs) ++ drop (length xs) (replicate m 0)) v 0 ≡ get_or xs v 0
copied_in xs m v =
    let n = length xs in
    let spare : List ℕ = drop n (replicate m 0) in
    let whole : tabulate (λ i. get_or xs i 0) n ≡ xs = tabulate-self xs n refl in
    rw whole (split (ltb v n)
    (λ t. get_or-append xs spare 0 v (ltb→lt v n t))
    (λ t.
    let far = nltb→le v n t in
    let rest : n + (v - n) ≡ v = omega arith in
    subst (λ z. get_or (xs ++ spare) z 0 ≡ 0) rest (get_or-append-add xs spare (v - n) 0 ∙ get_or-drop n (replicate m 0) (v - n) 0 ∙ zeros m (n + (v - n)))
    ∙ sym (get_or-eq_default xs 0 far)))
  where
    zeros : (k i : ℕ) → ◌≡◌ {A = ℕ} (get_or (replicate k 0) i 0) 0
    zeros zero i = refl
    zeros (suc k) zero = refl
    zeros (suc k) (suc i) = zeros k i

-- every other place holds what it held
pub set_reads : (xs : List ℕ) (x y v : ℕ) → (x ≡ v → x < length xs) → get_or (set xs x y) v 0 ≡ cond (eqb x v) y (get_or xs v 0)
set_reads xs x y v h = split (eqb x v)
    (λ t.
    let here = eqb→eq x v t in
    rw (true_of (eqb x v) t) (subst (λ z. get_or (set xs x y) z 0 ≡ y) here (get_or-set_same xs x y 0 (h here))))
    (λ t. rw (false_of (eqb x v) t) (get_or-set_other xs x v y 0 (λ e. neqb x v t (sym e))))

-- ---- sum

pub sum-append : (f : ℕ → ℕ) (l m : List ℕ) → sum f (l ++ m) ≡ sum f l + sum f m
unfolding sum
sum-append f [] m = omega arith
sum-append f (u ∷ us) m = omega (arith, sum-append f us m)

-- a loop over a list: none added, one more added, all added
pub sum-start : (f : ℕ → ℕ) (l : List ℕ) → sum f (take 0 l) ≡ 0
unfolding sum
sum-start f l = refl

pub sum_more : (f : ℕ → ℕ) (l : List ℕ) (i : ℕ) → i < length l → sum f (take (i + 1) l) ≡ sum f (take i l) + f (get_or l i 0)
unfolding sum
sum_more f l i h = rw (add-one, take-suc l i 0, sum-append) (omega arith)

pub sum-end : (f : ℕ → ℕ) (l : List ℕ) (i : ℕ) → length l ≤ i → sum f (take i l) ≡ sum f l
sum-end f l i h = ap (sum f) (take_all i l h)

-- a loop over the numbers below a bound
pub sum-below-zero : (f : ℕ → ℕ) → sum f (below 0) ≡ 0
unfolding sum below tabulate
sum-below-zero f = refl

pub sum-below-more : (f : ℕ → ℕ) (i : ℕ) → sum f (below (i + 1)) ≡ sum f (below i) + f i
unfolding sum below tabulate
sum-below-more f i = rw add-one (sum-append f (below i) (i ∷ []) ∙ ap (λ (z : ℕ). sum f (below i) + z) (omega arith))

pub sum-add : (f g : ℕ → ℕ) (l : List ℕ) → sum (λ w. f w + g w) l ≡ sum f l + sum g l
unfolding sum
sum-add f g [] = refl
sum-add f g (u ∷ us) = omega (arith, sum-add f g us)

pub sum_cong : (f g : ℕ → ℕ) (l : List ℕ) → ((w : ℕ) → In w l → f w ≡ g w) → sum f l ≡ sum g l
unfolding sum
sum_cong f g [] e = refl
sum_cong f g (u ∷ us) e = omega (arith, e u (inl refl), sum_cong f g us (λ w i. e w (inr i)))

-- no term is greater: neither is the sum
pub sum_mono : (f g : ℕ → ℕ) (l : List ℕ) → ((w : ℕ) → In w l → f w ≤ g w) → sum f l ≤ sum g l
unfolding sum
sum_mono f g [] h = zero-le
sum_mono f g (u ∷ us) h = omega (arith, h u (inl refl), sum_mono f g us (λ w i. h w (inr i)))

-- sums that agree term by term, two against two
pub sum_pairs : (f g h k : ℕ → ℕ) (l : List ℕ) → ((w : ℕ) → In w l → f w + g w ≡ h w + k w) → sum f l + sum g l ≡ sum h l + sum k l
sum_pairs f g h k l e = omega (arith, sum-add f g l, sum-add h k l, sum_cong (λ w. f w + g w) (λ w. h w + k w) l e)

-- a count is a sum of bits
pub sum_bits : (p : ℕ → Bool) (l : List ℕ) → sum (λ w. bit (p w)) l ≡ count p l
unfolding sum count
sum_bits p [] = refl
sum_bits p (u ∷ us) = omega (arith, sum_bits p us)

-- pairs counted by their first are as many as counted by their second
pub sum_swap : (r : ℕ → ℕ → Bool) (l m : List ℕ) → sum (λ u. count (r u) m) l ≡ sum (λ v. count (λ u. r u v) l) m
unfolding sum count
sum_swap r [] m = sym (zeros m)
  where
    zeros : (m : List ℕ) → sum (λ v. 0) m ≡ 0
    zeros [] = refl
    zeros (v ∷ vs) = omega (arith, zeros vs)
sum_swap r (u ∷ us) m = omega (arith, sum_swap r us m, sum_bits (r u) m, sum-add (λ v. bit (r u v)) (λ v. count (λ w. r w v) us) m)

-- the sum of a number at x, and 0 elsewhere, in a list that has x once
pub sum_one : (x c : ℕ) (l : List ℕ) → Distinct l → In x l → sum (λ w. cond (eqb x w) c 0) l ≡ c
unfolding sum
sum_one x c [] d i = absurd i
sum_one x c (u ∷ us) d (inl e) =
    let here = ap (λ b. cond b c 0) (true_of (eqb x u) (subst (λ z. T (eqb x z)) e (eqb_refl x))) in
    omega (arith, here, rest us (λ j. d.0 (subst (λ z. In z us) e j)))
  where
    rest : (l : List ℕ) → (In x l → ⊥) → sum (λ w. cond (eqb x w) c 0) l ≡ 0
    rest [] f = refl
    rest (u ∷ us) f =
        let other = ap (λ b. cond b c 0) (false_of (eqb x u) (not_T (eqb x u) (λ t. f (inl (eqb→eq x u t))))) in
        omega (arith, other, rest us (λ j. f (inr j)))
sum_one x c (u ∷ us) d (inr i) =
    let other = ap (λ b. cond b c 0) (false_of (eqb x u) (not_T (eqb x u) (λ t. d.0 (subst (λ z. In z us) (eqb→eq x u t) i)))) in
    omega (arith, other, sum_one x c us d.1 i)

-- one number of a list without repeats has its term lowered by one
pub sum_lowered : (f : ℕ → ℕ) (x : ℕ) (l : List ℕ) → Distinct l → In x l → 0 < f x → sum (λ w. cond (eqb x w) (f w - 1) (f w)) l + 1 ≡ sum f l
sum_lowered f x l d i h =
    let lowered : ℕ → ℕ = λ w. cond (eqb x w) (f w - 1) (f w) in
    let one : ℕ → ℕ = λ w. cond (eqb x w) 1 0 in
    let parts = sum_cong f (λ w. lowered w + one w) l (λ w j. split (eqb x w)
    (λ t. rw (true_of (eqb x w) t) (omega (arith, ap f (eqb→eq x w t))))
    (λ t. rw (false_of (eqb x w) t) (omega arith))) in
    omega (arith, parts, sum-add lowered one l, sum_one x 1 l d i)

-- a term is at most the sum
pub sum_term : (f : ℕ → ℕ) (x : ℕ) (l : List ℕ) → In x l → f x ≤ sum f l
unfolding sum
sum_term f x [] i = absurd i
sum_term f x (u ∷ us) (inl e) = rw e (omega arith)
sum_term f x (u ∷ us) (inr i) = omega (arith, sum_term f x us i)

-- as many numbers pass a test as `filter` keeps
pub length-filter : (p : ℕ → Bool) (xs : List ℕ) → length (filter p xs) ≡ count p xs
unfolding count
length-filter p [] = refl
length-filter p (x ∷ xs) =
    split (p x)
    (λ t. rw (true_of (p x) t) (ap suc (length-filter p xs) ∙ omega arith))
    (λ f. rw (false_of (p x) f) (length-filter p xs ∙ omega arith))

-- ---- a count over the numbers that a loop has come to

abbrev pub Counted : (ℕ → Bool) → List ℕ → ℕ → ℕ → Type 0
Counted p part i total = (total ≤ i) × (total ≡ count p (take i part))

pub counted-none : (p : ℕ → Bool) (part : List ℕ) → Counted p part 0 0
counted-none p part = (omega arith, sym (count-start p part))

pub counted_more : (p : ℕ → Bool) (part : List ℕ) (i total : ℕ) (passed : Bool) → i < length part → passed ≡ p (get_or part i 0) → Counted p part i total → Counted p part (i + 1) (total + bit passed)
counted_more p part i total passed h e counted = omega (arith, ap bit e, bit_le passed, count-more p part i h)

pub counted-all : (p : ℕ → Bool) (part : List ℕ) (i total : ℕ) → length part ≤ i → Counted p part i total → total ≡ count p part
counted-all p part i total h counted = counted.1 ∙ count-end p part i h
