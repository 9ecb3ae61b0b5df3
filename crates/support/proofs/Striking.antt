-- Striking out candidates of too little support, over plain lists: each one struck out has too little beside those before it, and in the end
-- the others have enough. Assumes nothing.
use mathlib.Core.Path.{◌≡◌, refl, sym, ap, ◌∙◌, subst}
use mathlib.Core.Logic.{◌⊎◌, inl, inr, ⊎_elim}
use mathlib.Core.Bool.{Bool, true, false, not, cond, ◌&&◌}
use mathlib.Core.List.{List, [], ◌∷◌, ◌++◌}
use Prim.Native.Nat.{ℕ, ◌+◌, ◌-◌, ◌≤◌, ◌<◌}
use native.Mathlib.Nat.{eq-or-lt_of_le}
use native.Mathlib.Numerals.{add-one}
use native.Mathlib.Omega.{arith}
use lib.ListN.{length, take, get_or, set, length-append, length-set, get_or-append}
use lib.Seq.{length-take-le, take-suc, take-suc-set, take_all, take_at, take-append-le, take-set-le, take-take, get_or_at, get_or-take, get_or-set_same, get_or-set_other}
use lib.Dec.{T, ltb, eqb, T_not, not_T, eqb→eq}
use borrow.Author.Tests.{ltb-true, ltb-false}
use Rattle.finite.specs.Count.{bit, count, In, Distinct}
use Rattle.finite.specs.Search.{member}
use Rattle.finite.proofs.Tests.{and_i, and_l, and_r, nand_i, split, same, true_of, of_true, of_false, eqb_of, neqb}
use Rattle.finite.proofs.Count.{bit_yes, bit_no, bit_mono, in_at, in_append, in_take, in_take-more, distinct_snoc, distinct-before, distinct-length, distinct-other, count_mono, count_cong, count_none}
use Rattle.finite.proofs.Search.{member_i, member-e, member_no, member_snoc, member-other, count-one}
use Rattle.table.specs.Table.{vertices, neighbors, SoundTable}
use Rattle.candidates.specs.Reaching.{alike, Queued}
use Rattle.support.specs.Striking.{supports_of, marked, State, state, out, store, cross, strike_of, weaken_of, Listed, gone, loss_of, Ordered, Weighed, Settled}

-- ---- what the marks say

mark_two : (b c : Bool) → ◌≡◌ {A = ℕ} (cond b 1 (cond c 2 0)) 2 → T c × T (not b)
mark_two true c e = absurd (omega arith)
mark_two false true e = (tt, tt)
mark_two false false e = absurd (omega arith)

mark-some : (b c : Bool) → (T b → T c) → not (eqb (cond b 1 (cond c 2 0)) 0) ≡ c
mark-some true c f = sym (true_of c (f tt))
mark-some false true f = refl
mark-some false false f = refl

module _ {n : ℕ} {C : ℕ → Bool} {st : State} (k : Listed n C st) where
  -- there are `end` of them, no more than n
  pub out-length : length (out st) ≡ st.end
  out-length = length-take-le st.end st.struck k.room

  -- a mark is 2 for those still in
  pub still_in : (v : ℕ) → get_or st.marks v 0 ≡ 2 → T (C v) × (In v (out st) → ⊥)
  still_in v e =
      let r = mark_two (member v (out st)) (C v) (sym (k.marked v) ∙ e) in
      (r.0, λ i. T_not (member v (out st)) r.1 (member_i v (out st) i))

  in_still : (v : ℕ) → T (C v) → (In v (out st) → ⊥) → get_or st.marks v 0 ≡ 2
  in_still v c f =
      let m : member v (out st) ≡ false = member_no v (out st) f in
      let e : C v ≡ true = true_of (C v) c in
      k.marked v ∙ rw (m, e)

  -- and not 0 for all in C
  pub marked_all : (v : ℕ) → marked st.marks v ≡ C v
  marked_all v = ap (λ m. not (eqb m 0)) (k.marked v) ∙ mark-some (member v (out st)) (C v) (λ t. k.within v (member-e v (out st) t))

  pub out_within : st.end ≤ n
  out_within = omega (arith, out-length, distinct-length (out st) n k.distinct (λ w i. k.small w (k.within w i)))

  -- one still in leaves room in the list
  pub out-room : (v : ℕ) → T (C v) → (In v (out st) → ⊥) → st.end < n
  out-room v c f = omega (arith, out-length, distinct-other (out st) n k.distinct (λ w i. k.small w (k.within w i)) v (k.small v c) f)

  -- support may change
  listed-store : (v c : ℕ) → Listed n C (store v c st)
  listed-store v c = record {
    marks_long = k.marks_long;
    support_long = omega (arith, k.support_long, length-set st.support v c);
    struck_long = k.struck_long;
    room = k.room;
    small = k.small;
    distinct = k.distinct;
    within = k.within;
    marked = k.marked;
  }

  module _ (v : ℕ) (c : T (C v)) (f : In v (out st) → ⊥) where
    cross-list : out (cross v st) ≡ out st ++ v ∷ []
    cross-list = rw add-one (take-suc-set st.struck st.end v (omega (arith, k.struck_long, out-room v c f)))

    -- struck out, it is listed
    listed-cross : Listed n C (cross v st)
    listed-cross = record {
      marks_long = omega (arith, k.marks_long, length-set st.marks v 1);
      support_long = k.support_long;
      struck_long = omega (arith, k.struck_long, length-set st.struck st.end v);
      room = omega (arith, k.struck_long, out-room v c f, length-set st.struck st.end v);
      small = k.small;
      distinct = rw cross-list (distinct_snoc (out st) v k.distinct f);
      within = λ w i. ⊎_elim (k.within w) (⊎_elim (λ e. subst (λ z. T (C z)) (sym e) c) (λ j. absurd j)) ((in_append (out st) (v ∷ []) w).0 (rw cross-list at i));
      marked = λ w. rw cross-list (split (eqb w v)
          (λ t.
          let e : w ≡ v = eqb→eq w v t in
          let m : member v (out st ++ v ∷ []) ≡ true = true_of (member v (out st ++ v ∷ [])) (member_snoc v (out st)) in
          rw (e, m) (get_or-set_same st.marks v 1 0 (omega (arith, k.marks_long, k.small v c))))
          (λ t.
          let m : member w (out st ++ v ∷ []) ≡ member w (out st) = member-other w v (out st) (neqb w v t) in
          rw m (get_or-set_other st.marks v w 1 0 (neqb w v t) ∙ k.marked w)));
    }

  -- the one at place `head`
  module _ (head : ℕ) (waits : head < st.end) where
    abbrev here : ℕ
    here = get_or st.struck head 0

    here_place : get_or (out st) head 0 ≡ here
    here_place = get_or-take st.end st.struck head 0 waits

    -- is a vertex
    pub here-vertex : here < n
    here-vertex = k.small here (k.within here (subst (λ z. In z (out st)) here_place (in_at (out st) head 0 (omega (arith, out-length)))))

    -- and does not stand before that place
    here-new : In here (take head st.struck) → ⊥
    here-new i =
        let front : take head (out st) ≡ take head st.struck = take-take head st.end st.struck (omega arith) in
        distinct-before (out st) head k.distinct (omega (arith, out-length)) (rw (here_place, front) i)

-- ---- cases of a step

strike_by : (P : State → Type 0) (levels : List ℕ) (v : ℕ) (st : State) → (get_or levels v 0 < get_or st.support v 0 → P st) → (get_or st.support v 0 ≤ get_or levels v 0 → P (cross v st))
    → P (strike_of levels v st)
unfolding strike_of
strike_by P levels v st f g = go (ltb (get_or levels v 0) (get_or st.support v 0)) refl
  where
    go : (b : Bool) → ltb (get_or levels v 0) (get_or st.support v 0) ≡ b → P (cond b st (cross v st))
    go true e = f (ltb-true (get_or levels v 0) (get_or st.support v 0) e)
    go false e = g (ltb-false (get_or levels v 0) (get_or st.support v 0) e)

weaken_by : (P : State → Type 0) (levels : List ℕ) (u w : ℕ) (st : State)
    → (get_or st.marks w 0 ≡ 2 → get_or levels w 0 ≡ get_or levels u 0 → P (strike_of levels w (store w (get_or st.support w 0 - 1) st)))
    → ((get_or st.marks w 0 ≡ 2 → get_or levels w 0 ≡ get_or levels u 0 → ⊥) → P st) → P (weaken_of levels u w st)
unfolding weaken_of
weaken_by P levels u w st f g = go (eqb (get_or st.marks w 0) 2 && alike levels w u) refl
  where
    go : (b : Bool) → eqb (get_or st.marks w 0) 2 && alike levels w u ≡ b → P (cond b (strike_of levels w (store w (get_or st.support w 0 - 1) st)) st)
    go true e =
        let t = of_true (eqb (get_or st.marks w 0) 2 && alike levels w u) e in
        f (eqb→eq (get_or st.marks w 0) 2 (and_l (eqb (get_or st.marks w 0) 2) _ t)) (eqb→eq (get_or levels w 0) (get_or levels u 0) (and_r (eqb (get_or st.marks w 0) 2) _ t))
    go false e = g (λ m d. T_not (eqb (get_or st.marks w 0) 2 && alike levels w u) (of_false (eqb (get_or st.marks w 0) 2 && alike levels w u) e)
        (and_i (eqb (get_or st.marks w 0) 2) _ (eqb_of (get_or st.marks w 0) 2 m) (eqb_of (get_or levels w 0) (get_or levels u 0) d)))

-- the list of those struck out only grows, at its end
pub weaken_end : (levels : List ℕ) (u w : ℕ) (st : State) → st.end ≤ (weaken_of levels u w st).end
weaken_end levels u w st = weaken_by (λ r. st.end ≤ r.end) levels u w st
    (λ m e. strike_by (λ r. st.end ≤ r.end) levels w (store w (get_or st.support w 0 - 1) st) (λ g. omega arith) (λ g. omega arith))
    (λ no. omega arith)

pub weaken_front : (levels : List ℕ) (u w : ℕ) (st : State) (i : ℕ) → i ≤ st.end → take i (weaken_of levels u w st).struck ≡ take i st.struck
weaken_front levels u w st i h = weaken_by (λ r. take i r.struck ≡ take i st.struck) levels u w st
    (λ m e. strike_by (λ r. take i r.struck ≡ take i st.struck) levels w (store w (get_or st.support w 0 - 1) st) (λ g. refl) (λ g. take-set-le i st.struck st.end w h))
    (λ no. refl)

-- ---- the support counted

-- equal sets support alike
pub support_cong : (a levels : List ℕ) (M N : ℕ → Bool) (x v : ℕ) (part : List ℕ) → ((p : ℕ) → M p ≡ N p) → count (supports_of a levels M x v) part ≡ count (supports_of a levels N x v) part
unfolding supports_of
support_cong a levels M N x v part e = count_cong (supports_of a levels M x v) (supports_of a levels N x v) part (λ p i. let f : M p ≡ N p = e p in rw f)

-- how many of its neighbors support v beside those in q
abbrev pub support_in : List ℕ → List ℕ → List ℕ → List ℕ → ℕ → List ℕ → ℕ → ℕ
support_in s l a levels x q v = count (supports_of a levels (λ p. member p q) x v) (neighbors s l v)

-- of the candidates q those before place i are weighed: S is their support
pub record Weighing (n : ℕ) (levels : List ℕ) (S : ℕ → ℕ) (q : List ℕ) (i : ℕ) (st : State) : Type 0 where
  pub listed : Listed n (λ v. member v q) st
  pub seen : (v : ℕ) → In v (out st) → In v (take i q)
  pub counted : (v : ℕ) → In v (take i q) → get_or st.support v 0 ≡ S v
  pub weak : (v : ℕ) → In v (out st) → S v ≤ get_or levels v 0
  pub strong : (v : ℕ) → In v (take i q) → (In v (out st) → ⊥) → get_or levels v 0 < S v

-- none weighed
pub weigh_start : {n : ℕ} {levels : List ℕ} {S : ℕ → ℕ} {marks queue support struck : List ℕ} {tail : ℕ} → Queued n marks queue tail → n ≤ length support → n ≤ length struck
    → Weighing n levels S (take tail queue) 0 (state marks support struck 0)
unfolding Rattle.finite.specs.Search.any
weigh_start {queue = queue} {tail = tail} k a b = record {
  listed = record {
    marks_long = k.long;
    support_long = a;
    struck_long = b;
    room = omega arith;
    small = λ v t. k.within v (member-e v (take tail queue) t);
    distinct = tt;
    within = λ v i. absurd i;
    marked = k.marked;
  };
  seen = λ v i. absurd i;
  counted = λ v i. absurd i;
  weak = λ v i. absurd i;
  strong = λ v i. absurd i;
}

module _ {n : ℕ} {levels : List ℕ} {S : ℕ → ℕ} {q : List ℕ} {i : ℕ} {st : State} (k : Weighing n levels S q i st) where
  -- one more weighed, and struck out if its support does not exceed its level
  pub weigh_next : Distinct q → i < length q → (v : ℕ) → get_or q i 0 ≡ v → Weighing n levels S q (i + 1) (strike_of levels v (store v (S v) st))
  weigh_next d h v e =
      let c : T (member v q) = member_i v q (subst (λ z. In z q) e (in_at q i 0 h)) in
      let f : (In v (out st) → ⊥) = λ j. distinct-before q i d h (subst (λ z. In z (take i q)) (sym e) (k.seen v j)) in
      let more : (w : ℕ) → In w (take (i + 1) q) → In w (take i q) ⊎ (w ≡ v) = λ w j. ⊎_elim inl (λ z. inr (z ∙ e)) ((in_take-more q i w h).0 j) in
      let before : (w : ℕ) → In w (take i q) → In w (take (i + 1) q) = λ w j. (in_take-more q i w h).1 (inl j) in
      let here : get_or (set st.support v (S v)) v 0 ≡ S v = get_or-set_same st.support v (S v) 0 (omega (arith, k.listed.support_long, k.listed.small v c)) in
      let counts : (w : ℕ) → In w (take (i + 1) q) → get_or (set st.support v (S v)) w 0 ≡ S w = λ w j. split (eqb w v)
      (λ t. let z : w ≡ v = eqb→eq w v t in rw z here)
      (λ t. get_or-set_other st.support v w (S v) 0 (neqb w v t) ∙ k.counted w (⊎_elim (λ y. y) (λ z. absurd (neqb w v t z)) (more w j))) in
      let l = listed-store k.listed v (S v) in
      let z = cross-list l v c f in
      strike_by (Weighing n levels S q (i + 1)) levels v (store v (S v) st)
      (λ g. record {
        listed = l;
        seen = λ w j. before w (k.seen w j);
        counted = counts;
        weak = k.weak;
        strong = λ w j o. ⊎_elim (λ y. k.strong w y o) (λ y. rw y (omega arith)) (more w j);
      })
      (λ g. record {
        listed = listed-cross l v c f;
        seen = λ w j. ⊎_elim (λ y. before w (k.seen w y)) (⊎_elim (λ y. (in_take-more q i w h).1 (inr (y ∙ sym e))) (λ y. absurd y)) ((in_append (out st) (v ∷ []) w).0 (rw z at j));
        counted = counts;
        weak = λ w j. ⊎_elim (k.weak w) (⊎_elim (λ y. rw y (omega arith)) (λ y. absurd y)) ((in_append (out st) (v ∷ []) w).0 (rw z at j));
        strong = λ w j o. ⊎_elim
            (λ y. k.strong w y (λ m. o (rw z ((in_append (out st) (v ∷ []) w).1 (inl m)))))
            (λ y. absurd (o (rw z ((in_append (out st) (v ∷ []) w).1 (inr (inl y))))))
            (more w j);
      })

  -- one not yet weighed leaves room in the list of those struck out
  pub weigh_room : Distinct q → i < length q → st.end < n
  weigh_room d h =
      let v = get_or q i 0 in
      out-room k.listed v (member_i v q (in_at q i 0 h)) (λ j. distinct-before q i d h (k.seen v j))

  -- all weighed
  pub weigh_end : length q ≤ i → Weighed n levels (marked st.marks) st
  weigh_end h =
      let e : (v : ℕ) → marked st.marks v ≡ member v q = marked_all k.listed in
      let all : take i q ≡ q = take_all i q h in
      let inside : (v : ℕ) → T (marked st.marks v) → In v (take i q) = λ v t. rw all (member-e v q (subst T (e v) t)) in
      record {
        listed = record {
          marks_long = k.listed.marks_long;
          support_long = k.listed.support_long;
          struck_long = k.listed.struck_long;
          room = k.listed.room;
          small = λ v t. k.listed.small v (subst T (e v) t);
          distinct = k.listed.distinct;
          within = λ v i. subst T (sym (e v)) (k.listed.within v i);
          marked = λ v. k.listed.marked v ∙ ap (λ b. cond (member v (out st)) 1 (cond b 2 0)) (sym (e v));
        };
        weak = λ v i. omega (arith, k.weak v i, k.counted v (k.seen v i));
        strong = λ v t f. omega (arith, k.strong v (inside v t) f, k.counted v (inside v t));
      }

-- ---- supporters lost

module _ {s l : List ℕ} (table : SoundTable s l) (levels : List ℕ) where
  abbrev loss : List ℕ → ℕ → ℕ
  loss = loss_of s l levels

  -- one more struck out: its neighbors of its level lose a supporter
  loss_snoc : (d : List ℕ) (u v : ℕ) → u < vertices s → v < vertices s → (In u d → ⊥)
      → loss (d ++ u ∷ []) v ≡ loss d v + bit (member v (neighbors s l u) && alike levels v u)
  loss_snoc d u v bu bv f = split (alike levels v u)
      (λ t.
      let e : get_or levels u 0 ≡ get_or levels v 0 = sym (eqb→eq (get_or levels v 0) (get_or levels u 0) t) in
      let one = count-one (gone levels (d ++ u ∷ []) v) (gone levels d v) u (neighbors s l v) (table.distinct v bv)
      (and_i (member u (d ++ u ∷ [])) _ (member_snoc u d) (eqb_of (get_or levels u 0) (get_or levels v 0) e))
      (not_T (gone levels d v u) (λ m. f (member-e u d (and_l (member u d) _ m))))
      (λ p ne. ap (λ b. b && alike levels p v) (member-other p u d ne)) in
      let beside : member u (neighbors s l v) ≡ member v (neighbors s l u) && alike levels v u =
      same (member u (neighbors s l v)) (member v (neighbors s l u) && alike levels v u)
      (λ m. and_i (member v (neighbors s l u)) _ (member_i v (neighbors s l u) (table.symmetric v u bv (member-e u (neighbors s l v) m))) t)
      (λ m. member_i u (neighbors s l v) (table.symmetric u v bu (member-e v (neighbors s l u) (and_l (member v (neighbors s l u)) _ m)))) in
      one ∙ ap (λ b. loss d v + bit b) beside)
      (λ t.
      let none = bit_no (member v (neighbors s l u) && alike levels v u) (nand_i (member v (neighbors s l u)) _ (λ m. t)) in
      let other : (p : ℕ) → T (alike levels p v) → p ≡ u → ⊥ = λ p g z.
      neqb (get_or levels v 0) (get_or levels u 0) t (sym (eqb→eq (get_or levels p 0) (get_or levels v 0) g) ∙ ap (λ y. get_or levels y 0) z) in
      omega (
        arith,
        count_cong (gone levels (d ++ u ∷ []) v) (gone levels d v) (neighbors s l v) (λ p i. split (alike levels p v)
            (λ g. ap (λ b. b && alike levels p v) (member-other p u d (other p g)))
            (λ g.
            same (gone levels (d ++ u ∷ []) v p) (gone levels d v p)
            (λ m. absurd (T_not (alike levels p v) g (and_r (member p (d ++ u ∷ [])) _ m)))
            (λ m. absurd (T_not (alike levels p v) g (and_r (member p d) _ m))))),
      ))

  -- more struck out: no less lost
  loss_mono : (d z : List ℕ) (v : ℕ) → ((p : ℕ) → In p d → In p z) → loss d v ≤ loss z v
  loss_mono d z v f = count_mono (gone levels d v) (gone levels z v) (neighbors s l v)
      (λ p i m. and_i (member p z) _ (member_i p z (f p (member-e p d (and_l (member p d) _ m)))) (and_r (member p d) _ m))

  -- nothing is lost at the start
  loss-none : (v : ℕ) → loss [] v ≡ 0
  unfolding Rattle.finite.specs.Search.any
  loss-none v = count_none (gone levels [] v) (neighbors s l v) (λ p i. tt)

  -- ---- an order of striking out

  ordered_snoc : (S : ℕ → ℕ) (z : List ℕ) (v : ℕ) → Ordered s l levels S z → S v ≤ get_or levels v 0 + loss z v → Ordered s l levels S (z ++ v ∷ [])
  ordered_snoc S z v o h i b = ⊎_elim
      (λ e.
      let last : get_or (z ++ v ∷ []) i 0 ≡ v = get_or_at z v [] 0 i (sym e) in
      let front : take i (z ++ v ∷ []) ≡ z = take_at z (v ∷ []) i (sym e) in
      rw (last, front) h)
      (λ lt.
      let old : get_or (z ++ v ∷ []) i 0 ≡ get_or z i 0 = get_or-append z (v ∷ []) 0 i lt in
      let front : take i (z ++ v ∷ []) ≡ take i z = take-append-le i z (v ∷ []) (omega arith) in
      rw (old, front) (o i lt))
      (eq-or-lt_of_le (let c : i ≤ length z = omega (arith, length-append z (v ∷ [])) in c))

-- while striking out: of the support S of each one still in, `lost` is counted off
pub record Striking (s l levels : List ℕ) (S : ℕ → ℕ) (C : ℕ → Bool) (lost : ℕ → ℕ) (st : State) : Type 0 where
  pub listed : Listed (vertices s) C st
  pub ordered : Ordered s l levels S (out st)
  pub counted : (v : ℕ) → T (C v) → (In v (out st) → ⊥) → get_or st.support v 0 + lost v ≡ S v
  pub strong : (v : ℕ) → T (C v) → (In v (out st) → ⊥) → get_or levels v 0 < get_or st.support v 0

-- how many supporters v loses with those in d, and with u, if v is among the neighbors of u seen so far
abbrev pub lost_to : List ℕ → List ℕ → List ℕ → List ℕ → ℕ → List ℕ → ℕ → ℕ
lost_to s l levels d u seen v = loss_of s l levels d v + bit (member v seen && alike levels v u)

module _ {s l : List ℕ} (table : SoundTable s l) {levels : List ℕ} {S : ℕ → ℕ} {C : ℕ → Bool} where
  -- the same losses, said otherwise
  lost_as : {lost : ℕ → ℕ} (lost₁ : ℕ → ℕ) {st : State} → ((v : ℕ) → T (C v) → lost₁ v ≡ lost v) → Striking s l levels S C lost st → Striking s l levels S C lost₁ st
  lost_as lost₁ e k = record {
    listed = k.listed;
    ordered = k.ordered;
    counted = λ v c f. omega (arith, k.counted v c f, e v c);
    strong = k.strong;
  }

  -- w loses the supporter u, if it is of its level
  module _ {lost : ℕ → ℕ} {st : State} (k : Striking s l levels S C lost st) (lost₁ : ℕ → ℕ) (u w : ℕ)
      (rest : (v : ℕ) → (v ≡ w → ⊥) → lost₁ v ≡ lost v)
      (other : (get_or levels w 0 ≡ get_or levels u 0 → ⊥) → lost₁ w ≡ lost w)
      (more : get_or levels w 0 ≡ get_or levels u 0 → lost₁ w ≡ lost w + 1)
      (most : lost₁ w ≤ loss_of s l levels (out st) w) where
    -- it is counted off, and w struck out if too little is left
    weaken_keeps : Striking s l levels S C lost₁ (weaken_of levels u w st)
    weaken_keeps = weaken_by (Striking s l levels S C lost₁) levels u w st
        (λ m e.
        let alive = still_in k.listed w m in
        let c = alive.0 in
        let f = alive.1 in
        let less = get_or st.support w 0 - 1 in
        let here : get_or (set st.support w less) w 0 ≡ less = get_or-set_same st.support w less 0 (omega (arith, k.listed.support_long, k.listed.small w c)) in
        let listed = listed-store k.listed w less in
        let crossed = cross-list listed w c f in
        let counts : (v : ℕ) → T (C v) → (In v (out st) → ⊥) → get_or (set st.support w less) v 0 + lost₁ v ≡ S v = λ v a o. split (eqb v w)
        (λ t. let z : v ≡ w = eqb→eq v w t in rw z (omega (arith, here, k.counted w c f, k.strong w c f, more e)))
        (λ t. omega (arith, get_or-set_other st.support w v less 0 (neqb v w t), k.counted v a o, rest v (neqb v w t))) in
        let elsewhere : (v : ℕ) → T (C v) → (In v (out st) → ⊥) → T (not (eqb v w)) → get_or levels v 0 < get_or (set st.support w less) v 0 = λ v a o t.
        omega (arith, get_or-set_other st.support w v less 0 (neqb v w t), k.strong v a o) in
        strike_by (Striking s l levels S C lost₁) levels w (store w less st)
        (λ g. record {
          listed = listed;
          ordered = k.ordered;
          counted = counts;
          strong = λ v a o. split (eqb v w) (λ t. let z : v ≡ w = eqb→eq v w t in rw z g) (elsewhere v a o);
        })
        (λ g.
        let old : (v : ℕ) → (In v (out (cross w (store w less st))) → ⊥) → In v (out st) → ⊥ = λ v o i. o (rw crossed ((in_append (out st) (w ∷ []) v).1 (inl i))) in
        record {
          listed = listed-cross listed w c f;
          ordered = rw crossed (ordered_snoc table levels S (out st) w k.ordered (omega (arith, counts w c f, most)));
          counted = λ v a o. counts v a (old v o);
          strong = λ v a o. elsewhere v a (old v o) (not_T (eqb v w) (λ t. o (rw crossed ((in_append (out st) (w ∷ []) v).1 (inr (inl (eqb→eq v w t)))))));
        }))
        (λ no. record {
          listed = k.listed;
          ordered = k.ordered;
          counted = λ v c f. split (eqb v w)
              (λ t.
              let z : v ≡ w = eqb→eq v w t in
              let is-in = in_still k.listed v c f in
              let same-loss = other (λ e. no (rw z at is-in) e) in
              omega (arith, k.counted v c f, ap lost z, ap lost₁ z))
              (λ t. omega (arith, k.counted v c f, rest v (neqb v w t)));
          strong = k.strong;
        })

  -- ---- one struck out is withdrawn from its neighbors

  module _ {first : State} (head : ℕ) (begun : Striking s l levels S C (loss_of s l levels (take head first.struck)) first) (waits : head < first.end) where
    abbrev held : Listed (vertices s) C first
    held = begun.listed

    abbrev u : ℕ
    u = get_or first.struck head 0

    abbrev d : List ℕ
    d = take head first.struck

    abbrev lost_by : List ℕ → ℕ → ℕ
    lost_by = lost_to s l levels d u

    bu : u < vertices s
    bu = here-vertex held head waits

    front-list : take (head + 1) first.struck ≡ d ++ u ∷ []
    front-list = rw add-one (take-suc first.struck head 0 (omega (arith, held.room)))

    -- no neighbor has lost it
    pub withdraw_start : Striking s l levels S C (lost_by (take 0 (neighbors s l u))) first
    unfolding Rattle.finite.specs.Search.any
    withdraw_start = lost_as (lost_by []) (λ v c. omega (arith, bit_no (member v [] && alike levels v u) tt)) begun

    -- those before the place of u, and u, stay where they are
    abbrev Front : State → Type 0
    Front st = (head < st.end) × (take (head + 1) st.struck ≡ take (head + 1) first.struck)

    module _ (j : ℕ) (inside : j < length (neighbors s l u)) where
      abbrev w : ℕ
      w = get_or (neighbors s l u) j 0

      abbrev seen : List ℕ
      seen = take j (neighbors s l u)

      abbrev seen₁ : List ℕ
      seen₁ = take (j + 1) (neighbors s l u)

      bw : w < vertices s
      bw = table.range u w bu (in_at (neighbors s l u) j 0 inside)

      rest : (v : ℕ) → (v ≡ w → ⊥) → lost_by seen₁ v ≡ lost_by seen v
      rest v f = ap (λ b. loss_of s l levels d v + bit (b && alike levels v u)) (same (member v seen₁) (member v seen)
          (λ t. member_i v seen (⊎_elim (λ i. i) (λ e. absurd (f e)) ((in_take-more (neighbors s l u) j v inside).0 (member-e v seen₁ t))))
          (λ t. member_i v seen₁ ((in_take-more (neighbors s l u) j v inside).1 (inl (member-e v seen t)))))

      other : (get_or levels w 0 ≡ get_or levels u 0 → ⊥) → lost_by seen₁ w ≡ lost_by seen w
      other f =
          let no = not_T (alike levels w u) (λ t. f (eqb→eq (get_or levels w 0) (get_or levels u 0) t)) in
          omega (
            arith,
            bit_no (member w seen₁ && alike levels w u) (nand_i (member w seen₁) _ (λ t. no)),
            bit_no (member w seen && alike levels w u) (nand_i (member w seen) _ (λ t. no)),
          )

      now_seen : In w seen₁
      now_seen = (in_take-more (neighbors s l u) j w inside).1 (inr refl)

      not_seen : In w seen → ⊥
      not_seen = distinct-before (neighbors s l u) j (table.distinct u bu) inside

      more : get_or levels w 0 ≡ get_or levels u 0 → lost_by seen₁ w ≡ lost_by seen w + 1
      more e = omega (
        arith,
        bit_yes (member w seen₁ && alike levels w u) (and_i (member w seen₁) _ (member_i w seen₁ now_seen) (eqb_of (get_or levels w 0) (get_or levels u 0) e)),
        bit_no (member w seen && alike levels w u) (not_T (member w seen && alike levels w u) (λ t. not_seen (member-e w seen (and_l (member w seen) _ t)))),
      )

      most : (st : State) → Front st → lost_by seen₁ w ≤ loss_of s l levels (out st) w
      most st front =
          let all = loss_snoc table levels d u w bu bw (here-new held head waits) in
          let part = bit_mono (member w seen₁ && alike levels w u) (member w (neighbors s l u) && alike levels w u)
          (λ t. and_i (member w (neighbors s l u)) _ (member_i w (neighbors s l u) (in_take (neighbors s l u) (j + 1) w (member-e w seen₁ (and_l (member w seen₁) _ t)))) (and_r (member w seen₁) _ t)) in
          let at : take (head + 1) (out st) ≡ d ++ u ∷ [] = take-take (head + 1) st.end st.struck (omega (arith, front.0)) ∙ front.1 ∙ front-list in
          let mono = loss_mono table levels (d ++ u ∷ []) (out st) w (λ p i. in_take (out st) (head + 1) p (rw at i)) in
          omega arith

      -- its neighbor w loses it
      pub withdraw_next : {st : State} → Front st → Striking s l levels S C (lost_by seen) st → Striking s l levels S C (lost_by seen₁) (weaken_of levels u w st)
      withdraw_next {st} front k = weaken_keeps k (lost_by seen₁) u w rest other more (most st front)

    -- all its neighbors have lost it
    pub withdraw_end : {st : State} → Front st → (j : ℕ) → length (neighbors s l u) ≤ j → Striking s l levels S C (lost_by (take j (neighbors s l u))) st
        → Striking s l levels S C (loss_of s l levels (take (head + 1) st.struck)) st
    withdraw_end {st} front j h k =
        let all : take j (neighbors s l u) ≡ neighbors s l u = take_all j (neighbors s l u) h in
        let at : take (head + 1) st.struck ≡ d ++ u ∷ [] = front.1 ∙ front-list in
        rw at (lost_as (loss_of s l levels (d ++ u ∷ [])) (λ v c. loss_snoc table levels d u v bu (held.small v c) (here-new held head waits)) (rw all at k))

  -- ---- from the weighed to the settled

  -- all withdrawn: the others keep enough
  pub settle_end : {st : State} (head : ℕ) → head ≤ st.end → st.end ≤ head → Striking s l levels S C (loss_of s l levels (take head st.struck)) st → Settled s l levels S C st
  settle_end {st} head a b k =
      let e : head ≡ st.end = omega arith in
      let k₁ : Striking s l levels S C (loss_of s l levels (out st)) st = rw e at k in
      record {
        listed = k.listed;
        ordered = k.ordered;
        enough = λ v c f. omega (arith, k₁.counted v c f, k₁.strong v c f);
      }

-- weighed, and nobody withdrawn
pub settle_start : {s l : List ℕ} → SoundTable s l → {levels : List ℕ} {C : ℕ → Bool} {st : State} → Weighed (vertices s) levels C st → Striking s l levels (λ v. get_or st.support v 0) C (loss_of s l levels []) st
settle_start table {levels} {st = st} k = record {
  listed = k.listed;
  ordered = λ i h. omega (arith, k.weak (get_or (out st) i 0) (in_at (out st) i 0 h));
  counted = λ v c f. omega (arith, loss-none table levels v);
  strong = k.strong;
}
