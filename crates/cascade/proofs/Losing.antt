-- One vertex withdrawn from one neighbor: what the cascade holds before it holds after it. Assumes nothing.
use mathlib.Core.Path.{◌≡◌, refl, sym, ap, ◌∙◌, subst}
use mathlib.Core.Logic.{inl, inr, ⊎_elim}
use mathlib.Core.Bool.{Bool, true, false, not, cond, and-true, ◌&&◌, ◌||◌}
use mathlib.Core.List.{List, [], ◌∷◌, ◌++◌}
use Prim.Native.Nat.{ℕ, suc, ◌+◌, ◌-◌, ◌≤◌, ◌<◌}
use native.Mathlib.Numerals.{add-one}
use native.Mathlib.Omega.{arith}
use lib.ListN.{take, get_or, set, length-set}
use lib.Seq.{length-take-le, take-suc-set, get_or-take, get_or-set_same, get_or-set_other}
use lib.Dec.{T, leb, eqb, le→leb, T_not, not_T, eqb→eq, nltb→le}
use borrow.Author.Tests.{ne_eqb, le-ltb}
use Rattle.finite.specs.Count.{bit, count, In}
use Rattle.finite.proofs.Tests.{and_i, and_l, and_r, or_r, or-e, split, same, nand, true_of, of_true, false_of, neqb}
use Rattle.finite.proofs.Count.{in_at, in_append, distinct_snoc, distinct-length, distinct-other, count-length, count_cong}
use Rattle.finite.proofs.Search.{member_yes, count-one}
use Rattle.table.specs.Table.{vertices, neighbors}
use Rattle.table.proofs.Laws.{neighbors-few}
use Rattle.anchored.specs.Graph.{Graph, Simple}
use Rattle.anchored.specs.Core.{level}
use Rattle.anchored.specs.Followers.{adding}
use Rattle.anchored.specs.Collapse.{exposed}
use Rattle.anchored.proofs.Core.{level-lt, level-anchored}
use Rattle.anchored.proofs.Anchor.{free_of}
use Rattle.anchored.proofs.Falls.{holds, fallen, held-before, struck-falls, lost_exposed}
use Rattle.pool.specs.Input.{graph_of, anchored_by}
use Rattle.pool.specs.Sheet.{Leveled}
use Rattle.pool.proofs.Laws.{simple}
use Rattle.cascade.specs.Cascade.{upholds, lapses, holds_of, loses, fell, relies_of, held_by, tight, Falling}

-- between two states of being out: u is withdrawn from w, and nobody else from anybody
pub record Withdraws (out next : ℕ → ℕ → Bool) (u w : ℕ) : Type 0 where
  pub before : out w u ≡ false
  pub after : next w u ≡ true
  pub other : (v p : ℕ) → (v ≡ w → p ≡ u → ⊥) → out v p ≡ next v p

-- one that holds w whether out or not
kept_by : (a b : Bool) → T (not (a && b)) → a && not (false && b) ≡ a && not (true && b)
kept_by true true t = absurd t
kept_by true false t = refl
kept_by false b t = refl

module _ {s l a levels : List ℕ} (h : Leveled s l a levels) (x : ℕ) where
  abbrev G : Graph
  G = graph_of s l

  abbrev A : ℕ → Bool
  A = anchored_by a

  abbrev lev : ℕ → ℕ
  lev = level G A

  L : Simple G
  L = simple h.admitted.table

  -- how many hold w beside those out
  abbrev left : (ℕ → ℕ → Bool) → ℕ → ℕ
  left out w = count (holds_of levels x (out w) w) (neighbors s l w)

  -- counted over the sheet as defined
  upholds_is : (w p : ℕ) → w < vertices s → T (not (A w)) → p < vertices s → upholds levels w p ≡ A p || leb (lev w) (lev p)
  upholds_is w p bw f bp = rw (h.hold w bw, h.hold p bp) (same (leb (lev w) (lev p)) (A p || leb (lev w) (lev p)) (or_r (A p) _)
      (λ t. or-e (A p) _ t
      (λ m. le→leb (lev w) (lev p) (omega (arith, level-anchored G L A p m, level-lt G L A w bw f, h.admitted.table.small)))
      (λ m. m)))

  pub left_is : (out : ℕ → Bool) (w : ℕ) → w < vertices s → T (not (A w)) → count (holds_of levels x out w) (neighbors s l w) ≡ count (holds G A x out w) (neighbors s l w)
  unfolding holds_of
  left_is out w b f = count_cong (holds_of levels x out w) (holds G A x out w) (neighbors s l w) (λ p i.
      let bp = L.range w p b i in
      let up = upholds_is w p b f bp in
      let alike : eqb (get_or levels p 0) (get_or levels w 0) ≡ eqb (lev p) (lev w) = rw (h.hold p bp, h.hold w b) in
      rw (up, alike))

  -- few enough to be told from 65,535
  left-small : (out : ℕ → ℕ → Bool) (w : ℕ) → w < vertices s → left out w < 65535
  left-small out w b =
      let table = h.admitted.table in
      omega (arith, table.small, count-length (holds_of levels x (out w) w) (neighbors s l w), neighbors-few s l table w b)

  -- where nobody is withdrawn all of no lower level hold w, and these are enough
  pub nobody-out : (w : ℕ) → count (upholds levels w) (neighbors s l w) ≡ count (holds_of levels x (λ p. false) w) (neighbors s l w)
  unfolding holds_of
  nobody-out w = count_cong (upholds levels w) (holds_of levels x (λ p. false) w) (neighbors s l w) (λ p i. sym (and-true (upholds levels w p)))

  enough-first : (w : ℕ) → w < vertices s → T (not (A w)) → get_or levels w 0 ≤ count (upholds levels w) (neighbors s l w)
  enough-first w b f = omega (arith, nobody-out w, left_is (λ p. false) w b f, held-before G L A x w b f, h.hold w b)

  -- who is not found to fall is held by enough
  pub held-stands : (support : List ℕ) (w : ℕ) → w < vertices s → T (not (A w)) → T (not (fell levels support w)) → get_or levels w 0 ≤ held_by levels s l support w
  unfolding held_by
  held-stands support w b f t = split (eqb (get_or support w 0) 65535)
      (λ e. let fresh = true_of (eqb (get_or support w 0) 65535) e in rw fresh (enough-first w b f))
      (λ e. let counted = false_of (eqb (get_or support w 0) 65535) e in rw counted (nltb→le (get_or support w 0) (get_or levels w 0) t))

  -- ---- others out, and the list of those fallen

  module _ {out : ℕ → ℕ → Bool} {support queue : List ℕ} {end : ℕ} where
    -- beside others out, as long as as many hold each vertex
    falling_beside : (next : ℕ → ℕ → Bool) → ((w p : ℕ) → T (next w p) → In p (take end queue)) → ((w : ℕ) → w < vertices s → T (not (adding A x w)) → (In w (take end queue) → ⊥) → left out w ≡ left next w)
        → Falling s l a levels x out support queue end → Falling s l a levels x next support queue end
    falling_beside next f e k = record {
      support_long = k.support_long;
      fallen_long = k.fallen_long;
      room = k.room;
      distinct = k.distinct;
      self = k.self;
      down = k.down;
      within = f;
      listed = k.listed;
      kept = λ w b m o. k.kept w b m o ∙ e w b m o;
      touched = k.touched;
      untouched = k.untouched;
    }

    -- for every edge the same ones are out
    pub falling_cong : (next : ℕ → ℕ → Bool) → ((w p : ℕ) → w < vertices s → In p (neighbors s l w) → out w p ≡ next w p) → ((w p : ℕ) → T (next w p) → In p (take end queue))
        → Falling s l a levels x out support queue end → Falling s l a levels x next support queue end
    unfolding holds_of
    falling_cong next e f = falling_beside next f (λ w b m o.
        count_cong (holds_of levels x (out w) w) (holds_of levels x (next w) w) (neighbors s l w) (λ p i. let q = e w p b i in rw q))

    -- the list is no longer than the vertices, and holds vertices
    pub list-within : Falling s l a levels x out support queue end → end ≤ vertices s
    list-within k = omega (arith, length-take-le end queue k.room, distinct-length (take end queue) (vertices s) k.distinct (λ v i. (k.down v i).0))

    pub listed_at : Falling s l a levels x out support queue end → {head : ℕ} → head < end → In (get_or queue head 0) (take end queue)
    listed_at k {head} inside = subst (λ z. In z (take end queue)) (get_or-take end queue head 0 inside) (in_at (take end queue) head 0 (omega (arith, inside, length-take-le end queue k.room)))

  -- ---- u withdrawn from w

  module _ {out next : ℕ → ℕ → Bool} {u w : ℕ} (m : Withdraws out next u w) where
    left_other : (v : ℕ) → (v ≡ w → ⊥) → left out v ≡ left next v
    unfolding holds_of
    left_other v f = count_cong (holds_of levels x (out v) v) (holds_of levels x (next v) v) (neighbors s l v) (λ p i. let e = m.other v p (λ q r. f q) in rw e)

    -- any other holds w as before
    beside : (p : ℕ) → (p ≡ u → ⊥) → holds_of levels x (out w) w p ≡ holds_of levels x (next w) w p
    unfolding holds_of
    beside p f = let e = m.other w p (λ q r. f r) in rw e

    left-same : T (not (loses levels x u w)) → left out w ≡ left next w
    unfolding holds_of
    left-same t = count_cong (holds_of levels x (out w) w) (holds_of levels x (next w) w) (neighbors s l w) (λ p i. split (eqb p u)
        (λ e. let here = eqb→eq p u e in let was = m.before in let is = m.after in rw (here, was, is) (kept_by (upholds levels w u) (lapses levels x w u) t))
        (λ e. beside p (neqb p u e)))

    left_less : T (loses levels x u w) → w < vertices s → In u (neighbors s l w) → left out w ≡ suc (left next w)
    unfolding holds_of
    left_less t b i =
        let up = and_l (upholds levels w u) _ t in
        let gone = and_r (upholds levels w u) _ t in
        let stood : T (holds_of levels x (out w) w u) = let was = m.before in rw was (and_i (upholds levels w u) _ up tt) in
        let stands : T (not (holds_of levels x (next w) w u)) = not_T (holds_of levels x (next w) w u) (λ g.
        let n = and_r (upholds levels w u) _ g in T_not (next w u && lapses levels x w u) n (and_i (next w u) _ (of_true (next w u) m.after) gone)) in
        let one = count-one (holds_of levels x (out w) w) (holds_of levels x (next w) w) u (neighbors s l w) (L.distinct w b) stood stands beside in
        let there = member_yes u (neighbors s l w) i in
        omega (arith, ap bit there)

    module _ {support queue : List ℕ} {end : ℕ} (k : Falling s l a levels x out support queue end) (iu : In u (take end queue)) where
      next-within : (v p : ℕ) → T (next v p) → In p (take end queue)
      next-within v p t = split (eqb v w)
          (λ e. split (eqb p u)
          (λ q. subst (λ z. In z (take end queue)) (sym (eqb→eq p u q)) iu)
          (λ q. k.within v p (subst T (sym (m.other v p (λ r z. neqb p u q z))) t)))
          (λ e. k.within v p (subst T (sym (m.other v p (λ r z. neqb v w e r))) t))

      -- w does not rely on u: nothing changes
      pub falling_skip : T (not (relies_of levels a support x u w)) → Falling s l a levels x next support queue end
      unfolding relies_of
      falling_skip t = falling_beside next next-within
          (λ v b f o. split (eqb v w)
          (λ e.
          let here = eqb→eq v w e in
          let free : T (not (adding A x w)) = subst (λ z. T (not (adding A x z))) here f in
          let stands = subst (λ z. T (not (fell levels support z))) here (not_T (fell levels support v) (λ q. o ((k.listed v b f).1 q))) in
          rw here (left-same (nand (not (fell levels support w) && not (adding A x w)) _ t (and_i (not (fell levels support w)) _ stands free))))
          (λ e. left_other v (neqb v w e)))
          k

      -- w relies on u: one less holds it
      module _ (t : T (relies_of levels a support x u w)) (b : w < vertices s) (i : In u (neighbors s l w)) where
        free : T (not (adding A x w))
        unfolding relies_of
        free = and_r (not (fell levels support w)) _ (and_l (not (fell levels support w) && not (adding A x w)) _ t)

        stands : T (not (fell levels support w))
        unfolding relies_of
        stands = and_l (not (fell levels support w)) _ (and_l (not (fell levels support w) && not (adding A x w)) _ t)

        loss : T (loses levels x u w)
        unfolding relies_of
        loss = and_r (not (fell levels support w) && not (adding A x w)) _ t

        new : In w (take end queue) → ⊥
        new j = T_not (fell levels support w) stands ((k.listed w b free).0 j)

        abbrev held : ℕ
        held = held_by levels s l support w

        abbrev less : List ℕ
        less = set support w (held - 1)

        pub held-less : held ≡ suc (left next w)
        held-less = k.kept w b free new ∙ left_less loss b i

        -- kept anew
        less-here : get_or less w 0 ≡ left next w
        less-here = get_or-set_same support w (held - 1) 0 (omega (arith, k.support_long)) ∙ omega (arith, held-less)

        less_other : (v : ℕ) → (v ≡ w → ⊥) → get_or less v 0 ≡ get_or support v 0
        less_other v f = get_or-set_other support w v (held - 1) 0 f

        less-kept : (v : ℕ) → v < vertices s → T (not (adding A x v)) → (In v (take end queue) → ⊥) → held_by levels s l less v ≡ left next v
        unfolding held_by
        less-kept v c f o = split (eqb v w)
            (λ e.
            let here = eqb→eq v w e in
            let small = ne_eqb (get_or less w 0) 65535 (λ z. absurd (omega (arith, less-here, left-small next w b))) in
            rw (here, small) less-here)
            (λ e.
            let apart = neqb v w e in
            let same_kept = less_other v apart in
            rw same_kept (k.kept v c f o ∙ left_other v apart))

        -- found to fall as before, but for w
        fell-other : (v : ℕ) → (v ≡ w → ⊥) → fell levels less v ≡ fell levels support v
        fell-other v f = let e = less_other v f in rw e

        less-untouched : (v : ℕ) → v < vertices s → T (adding A x v) → get_or less v 0 ≡ 65535
        less-untouched v c m =
            less_other v (λ e. T_not (adding A x w) free (subst (λ z. T (adding A x z)) e m)) ∙ k.untouched v c m

        -- w is in a component to be searched: x holds it, or one of its level that falls
        near-w : T (exposed G A x w)
        near-w =
            let down = k.down u iu in
            let aw = free_of A x w free in
            let alike : eqb (get_or levels u 0) (get_or levels w 0) ≡ eqb (lev u) (lev w) = rw (h.hold u down.0, h.hold w b) in
            lost_exposed G L A x (k.down x k.self).0 u w b aw i (subst T (upholds_is w u b aw down.0) (and_l (upholds levels w u) _ loss))
            (subst (λ z. T (eqb x u || z)) alike (and_r (upholds levels w u) _ loss)) down.1

        less-touched : (v : ℕ) → v < vertices s → (get_or less v 0 ≡ 65535 → ⊥) → T (exposed G A x v)
        less-touched v c f = split (eqb v w)
            (λ e. subst (λ z. T (exposed G A x z)) (sym (eqb→eq v w e)) near-w)
            (λ e. k.touched v c (λ q. f (less_other v (neqb v w e) ∙ q)))

        -- one to spare: w stays
        falling_weaken : (held ≡ get_or levels w 0 → ⊥) → Falling s l a levels x next less queue end
        falling_weaken ne = record {
          support_long = omega (arith, k.support_long, length-set support w (held - 1));
          fallen_long = k.fallen_long;
          room = k.room;
          distinct = k.distinct;
          self = k.self;
          down = k.down;
          within = next-within;
          listed = λ v c f. split (eqb v w)
              (λ e.
              let here = eqb→eq v w e in
              let still = le-ltb (get_or less w 0) (get_or levels w 0) (omega (arith, less-here, held-less, held-stands support w b (free_of A x w free) stands, ne)) in
              rw (here, still) (λ j. absurd (new j), λ q. absurd q))
              (λ e. let before = fell-other v (neqb v w e) in rw before (k.listed v c f));
          kept = less-kept;
          touched = less-touched;
          untouched = less-untouched;
        }

        -- just enough: w falls
        module _ (e : held ≡ get_or levels w 0) where
          pub place : end < vertices s
          place = omega (arith, length-take-le end queue k.room, distinct-other (take end queue) (vertices s) k.distinct (λ v j. (k.down v j).0) w b new)

          longer : take (end + 1) (set queue end w) ≡ take end queue ++ w ∷ []
          longer = rw add-one (take-suc-set queue end w (omega (arith, place, k.fallen_long)))

          goes : T (fallen G A x w)
          goes = or_r (eqb x w) _ (struck-falls G L A x (next w) (λ p c m. (k.down p (next-within w p m)).1) w b free
              (omega (arith, held-less, left_is (next w) w b (free_of A x w free), h.hold w b)))

          falling-found : Falling s l a levels x next less (set queue end w) (end + 1)
          falling-found = record {
            support_long = omega (arith, k.support_long, length-set support w (held - 1));
            fallen_long = omega (arith, k.fallen_long, length-set queue end w);
            room = omega (arith, place, k.fallen_long, length-set queue end w);
            distinct = rw longer (distinct_snoc (take end queue) w k.distinct new);
            self = rw longer ((in_append (take end queue) (w ∷ []) x).1 (inl k.self));
            down = rw longer (λ v j. ⊎_elim (k.down v) (⊎_elim (λ q. subst (λ z. (z < vertices s) × T (fallen G A x z)) (sym q) (b, goes)) (λ m. absurd m)) ((in_append (take end queue) (w ∷ []) v).0 j));
            within = rw longer (λ v p m. (in_append (take end queue) (w ∷ []) p).1 (inl (next-within v p m)));
            listed = rw longer (λ v c f. split (eqb v w)
                (λ q.
                let here = eqb→eq v w q in
                rw here (λ j. le→leb (suc (get_or less w 0)) (get_or levels w 0) (omega (arith, less-here, held-less)), λ j. (in_append (take end queue) (w ∷ []) w).1 (inr (inl refl))))
                (λ q.
                let apart = neqb v w q in
                let before = fell-other v apart in
                let r = k.listed v c f in
                rw before (
                  λ j. r.0 (⊎_elim (λ m. m) (⊎_elim (λ z. absurd (apart z)) (λ m. absurd m)) ((in_append (take end queue) (w ∷ []) v).0 j)),
                  λ j. (in_append (take end queue) (w ∷ []) v).1 (inl (r.1 j)),
                )));
            kept = rw longer (λ v c f o. less-kept v c f (λ j. o ((in_append (take end queue) (w ∷ []) v).1 (inl j))));
            touched = less-touched;
            untouched = less-untouched;
          }

        -- w loses a holder, and goes to the list's end if that was one it needed
        pub falling_touch : Falling s l a levels x next less (cond (tight levels s l support w) (set queue end w) queue) (end + bit (tight levels s l support w))
        falling_touch = split (tight levels s l support w)
            (λ m. let yes = true_of (tight levels s l support w) m in rw yes (falling-found (eqb→eq held (get_or levels w 0) m)))
            (λ m.
            let no = false_of (tight levels s l support w) m in
            let all : end + 0 ≡ end = omega arith in
            rw (no, all) (falling_weaken (neqb held (get_or levels w 0) m)))
