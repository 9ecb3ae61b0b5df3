-- The steps of the peeling keep its record, and at the end the sheet is the defined one. Assumes nothing.
use mathlib.Core.Path.{◌≡◌, refl, sym, ap, ◌∙◌, subst}
use mathlib.Core.Logic.{◌↔◌, inl, inr, ⊎_elim}
use mathlib.Core.Bool.{Bool, false, not, ◌&&◌, ◌||◌}
use mathlib.Core.List.{List, [], ◌∷◌, ◌++◌}
use Prim.Native.Nat.{ℕ, ◌+◌, ◌-◌, ◌≤◌, ◌<◌, zero-le}
use native.Mathlib.Nat.{le_trans}
use native.Mathlib.Omega.{arith}
use lib.ListN.{length}
use lib.Dec.{T, ltb, eqb, T_not, not_T, lt→ltb, eqb→eq}
use Rattle.finite.specs.Count.{bit, below, count, In}
use Rattle.finite.specs.Search.{any, member}
use Rattle.finite.specs.Pairs.{pair_le}
use Rattle.finite.proofs.Tests.{and_i, and_l, and_r, nand_i, or_l, or_r, or-e, or-not, split, same, true_of, eqb_of, neqb}
use Rattle.finite.proofs.Count.{bit_yes, bit_no, in_append, distinct_snoc, distinct-below, in_below, count-length, count-below-le, count-some, count_none, count-all, count_mono, count_cong, count_witness, count_strict}
use Rattle.finite.proofs.Search.{member_i, member-e, member-past, count-one}
use Rattle.finite.proofs.Pairs.{pair_lt, pair_eq, pair-e, pair_trans, pair-first, pair-before}
use Rattle.anchored.specs.Graph.{Graph, Simple}
use Rattle.anchored.specs.Core.{level, layer}
use Rattle.anchored.specs.Sheet.{at_least, support, Fits}
use Rattle.anchored.proofs.Core.{degree-lt}
use Rattle.anchored.proofs.Sheet.{local_agree}
use Rattle.peel.specs.Peeling.{unset, present, Stands, Struck, Peeling, Told}

-- ---- a vertex gets its level and its layer

-- g is f, with x at w
abbrev pub Puts : (ℕ → ℕ) → (ℕ → ℕ) → ℕ → ℕ → Type 0
Puts f g w x = (g w ≡ x) × ((v : ℕ) → (v ≡ w → ⊥) → g v ≡ f v)

module _ (G : Graph) (A : ℕ → Bool) (lev lay lev' lay' : ℕ → ℕ) (w k l : ℕ) (low : k < 65535) (none : lev w ≡ 65535) (level : Puts lev lev' w k) (layer : Puts lay lay' w l) where
  -- who is at or above a pair is not changed: before, the vertex had 65,535, and now it has no smaller pair
  at_least-kept : (x y : ℕ) → T (pair_le x y k l) → (u : ℕ) → at_least A lev lay x y u ≡ at_least A lev' lay' x y u
  at_least-kept x y t u = split (eqb u w)
      (λ e. subst (λ z. at_least A lev lay x y z ≡ at_least A lev' lay' x y z) (sym (eqb→eq u w e)) (ap (λ b. A w || b)
      (true_of (pair_le x y (lev w) (lay w)) (pair_lt x y (lev w) (lay w) (omega (arith, pair-first x y k l t)))
      ∙ sym (true_of (pair_le x y (lev' w) (lay' w)) (rw (level.0, layer.0) t)))))
      (λ e. let d = neqb u w e in rw (level.1 u d, layer.1 u d))

  support-kept : (v x y : ℕ) → T (pair_le x y k l) → support G A lev lay v x y ≡ support G A lev' lay' v x y
  support-kept v x y t = count_cong (at_least A lev lay x y) (at_least A lev' lay' x y) (G.neighbors v) (λ u i. at_least-kept x y t u)

  -- so what fits goes on to fit
  fits_kept : (v : ℕ) → (v ≡ w → ⊥) → T (pair_le (lev v) (lay v) k l) → Fits G A lev lay v → Fits G A lev' lay' v
  fits_kept v d t F =
      let e = level.1 v d in
      let f = layer.1 v d in
      let smaller : (y : ℕ) → y ≤ lay v → T (pair_le (lev v) y k l)
      = λ y h. pair_trans (lev v) y (lev v) (lay v) k l (pair_eq (lev v) y (lev v) (lay v) refl h) t in
      record {
        positive = rw f F.positive;
        enough = rw e (subst (λ z. lev v ≤ z) (support-kept v (lev v) 0 (smaller 0 zero-le)) F.enough);
        few = rw (e, f) (subst (λ z. z ≤ lev v) (support-kept v (lev v) (lay v) t) F.few);
        later = λ h. rw (e, f) (subst (λ z. lev v < z) (support-kept v (lev v) (lay v - 1) (smaller (lay v - 1) (omega arith))) (F.later (rw f at h)));
      }

-- ---- what the record says

module _ {G : Graph} {A : ℕ → Bool} {deg lev lay : ℕ → ℕ} {k turn : ℕ} {waiting next due : List ℕ} {seen done : ℕ}
    (P : Peeling G A deg lev lay k turn waiting next due seen done)
  where
    abbrev here : ℕ → Bool
    here = present A lev lay k turn waiting

    -- who is present is anchored or of level k or more, and of pair (k, turn) or more
    here-at_least : (l : ℕ) → l ≤ turn → (u : ℕ) → T (here u) → T (at_least A lev lay k l u)
    here-at_least l h u t = or-e (at_least A lev lay k (turn + 1) u) _ t
        (λ s. or-e (A u) _ s (or_l (A u) _) (λ r. or_r (A u) _ (pair_trans k l k (turn + 1) (lev u) (lay u) (pair_eq k l k (turn + 1) refl (omega arith)) r)))
        (λ s. let r = P.waits u (member-e u waiting s) in or_r (A u) _ (pair_eq k l (lev u) (lay u) (sym r.2) (omega (arith, r.3))))

    -- the queue has room for a vertex without a level
    pub room : (w : ℕ) → w < G.size → T (not (A w)) → lev w ≡ 65535 → done < G.size
    room w b a none =
        let some = count-some (unset A lev) (below G.size) w ((in_below G.size w).1 b) (and_i (not (A w)) _ a (eqb_of (lev w) 65535 none)) in
        omega (arith, P.total, count-below-le (λ v. not (A v)) G.size)

    -- no more vertices have a level than there are
    pub room-all : done ≤ G.size
    room-all = omega (arith, P.total, count-below-le (λ v. not (A v)) G.size)

    -- a vertex whose k neighbors present are too few for the next level, and too many for the turn before, gets level k and the next layer
    module _ (w : ℕ) (b : w < G.size) (a : T (not (A w))) (none : lev w ≡ 65535) (many : count here (G.neighbors w) ≡ k)
        (struck : 0 < turn → Struck G A lev lay k turn waiting w)
        (lev' lay' : ℕ → ℕ) (level' : Puts lev lev' w k) (layer' : Puts lay lay' w (turn + 1))
      where
        next-pair : T (pair_le k (turn + 1) k (turn + 1))
        next-pair = pair_eq k (turn + 1) k (turn + 1) refl (omega arith)

        support-new : (x y : ℕ) → T (pair_le x y k (turn + 1)) → support G A lev lay w x y ≡ support G A lev' lay' w x y
        support-new x y t = support-kept G A lev lay lev' lay' w k (turn + 1) P.low none level' layer' w x y t

        settled_fits : Fits G A lev' lay' w
        settled_fits = record {
          positive = omega (arith, layer'.0);
          enough = rw (level'.0, ← support-new k 0 (pair_eq k 0 k (turn + 1) refl zero-le))
              (le_trans (omega (arith, many)) (count_mono here (at_least A lev lay k 0) (G.neighbors w) (λ u i. here-at_least 0 zero-le u)));
          few = rw (level'.0, layer'.0, ← support-new k (turn + 1) next-pair)
              (le_trans (count_mono (at_least A lev lay k (turn + 1)) here (G.neighbors w) (λ u i. or_l (at_least A lev lay k (turn + 1) u) _)) (omega (arith, many)));
          later = λ h.
              let one : turn + 1 - 1 ≡ turn = omega arith in
              let gone = struck (omega (arith, layer'.0)) in
              rw (level'.0, layer'.0, one, ← support-new k turn (pair_eq k turn k (turn + 1) refl (omega arith)))
              (le_trans (omega (arith, many)) (count_strict here (at_least A lev lay k turn) (G.neighbors w) (λ u i. here-at_least turn (omega arith) u) gone.0 gone.1
              (or_r (A gone.0) _ (pair_eq k turn (lev gone.0) (lay gone.0) (sym gone.2) (omega (arith, gone.3)))) gone.4));
        }

        -- every other vertex keeps its place, and w had none
        other : (v x y : ℕ) → x < 65535 → lev v ≡ x → lay v ≡ y → (lev' v ≡ x) × (lay' v ≡ y)
        other v x y h e f =
            let apart : v ≡ w → ⊥ = λ d. absurd (omega (arith, ap lev d)) in
            (level'.1 v apart ∙ e, layer'.1 v apart ∙ f)

        here-kept : (u : ℕ) → here u ≡ present A lev' lay' k turn waiting u
        here-kept u = ap (λ c. c || member u waiting) (at_least-kept G A lev lay lev' lay' w k (turn + 1) P.low none level' layer' k (turn + 1) next-pair u)

        stays : (l v : ℕ) → Stands G A lev lay k l v → Stands G A lev' lay' k l v
        stays l v s = let o = other v k l P.low s.2 s.3 in (s.0, s.1, o.0, o.1)

        settled_placed : (v : ℕ) → v < G.size → T (not (A v)) → (lev' v ≡ 65535 → ⊥) → Fits G A lev' lay' v × T (pair_le (lev' v) (lay' v) k (turn + 1))
        settled_placed v c f given = split (eqb v w)
            (λ t. subst (λ z. Fits G A lev' lay' z × T (pair_le (lev' z) (lay' z) k (turn + 1))) (sym (eqb→eq v w t)) (settled_fits, rw (level'.0, layer'.0) next-pair))
            (λ t.
            let apart = neqb v w t in
            let before = P.placed v c f (λ e. given (level'.1 v apart ∙ e)) in
            (fits_kept G A lev lay lev' lay' w k (turn + 1) P.low none level' layer' v apart before.1 before.0, rw (level'.1 v apart, layer'.1 v apart) before.1))

        settled_comes : (v : ℕ) → In v (next ++ w ∷ []) ↔ Stands G A lev' lay' k (turn + 1) v
        settled_comes v = (
          λ i. ⊎_elim
              (λ j. stays (turn + 1) v ((P.comes v).0 j))
              (⊎_elim (λ e. subst (Stands G A lev' lay' k (turn + 1)) (sym e) (b, a, level'.0, layer'.0)) (λ j. absurd j))
              ((in_append next (w ∷ []) v).0 i),
          λ s. (in_append next (w ∷ []) v).1 (split (eqb v w)
              (λ t. inr (inl (eqb→eq v w t)))
              (λ t. let apart = neqb v w t in inl ((P.comes v).1 (s.0, s.1, sym (level'.1 v apart) ∙ s.2, sym (layer'.1 v apart) ∙ s.3)))),
        )

        settled_struck : (v : ℕ) → Struck G A lev lay k turn waiting v → Struck G A lev' lay' k turn waiting v
        settled_struck v s = let o = other s.0 k turn P.low s.2 s.3 in (s.0, s.1, o.0, o.1, subst (λ c. T (not c)) (here-kept s.0) s.4)

        settled_total : done + 1 + count (unset A lev') (below G.size) ≡ count (λ v. not (A v)) (below G.size)
        settled_total =
            let less = count-one (unset A lev) (unset A lev') w (below G.size) (distinct-below G.size)
            (and_i (not (A w)) _ a (eqb_of (lev w) 65535 none))
            (not_T (unset A lev' w) (λ t. absurd (omega (arith, eqb→eq (lev' w) 65535 (and_r (not (A w)) _ t), level'.0, P.low))))
            (λ u d. ap (λ z. not (A u) && eqb z 65535) (sym (level'.1 u d))) in
            omega (arith, P.total, bit_yes (member w (below G.size)) (member_i w (below G.size) ((in_below G.size w).1 b)))

        pub settle : Peeling G A deg lev' lay' k turn waiting (next ++ w ∷ []) due seen (done + 1)
        settle = record {
          simple = P.simple;
          low = P.low;
          anchored = λ v c t. let apart : v ≡ w → ⊥ = λ e. T_not (A w) a (subst (λ z. T (A z)) e t) in let e = P.anchored v c t in (level'.1 v apart ∙ e.0, layer'.1 v apart ∙ e.1);
          placed = settled_placed;
          waits = λ v i. stays turn v (P.waits v i);
          waits_once = P.waits_once;
          comes = settled_comes;
          comes_once = distinct_snoc next w P.comes_once (λ i. absurd (omega (arith, ((P.comes w).0 i).2, P.low)));
          owed = λ v i. let o = P.owed v i in (o.0, settled_struck v o.1);
          owed_once = P.owed_once;
          degree = λ v c f e.
              let apart : v ≡ w → ⊥ = λ d. absurd (omega (arith, ap lev' d, level'.0, P.low)) in
              let o = P.degree v c f (sym (level'.1 v apart) ∙ e) in
              (o.0 ∙ ap (λ z. z + bit (member v due)) (count_cong here (present A lev' lay' k turn waiting) (G.neighbors v) (λ u i. here-kept u)), o.1, o.2);
          total = settled_total;
        }

-- ---- striking the neighbors of a vertex that was removed

module _ {G : Graph} {A : ℕ → Bool} {deg lev lay : ℕ → ℕ} {k turn : ℕ} {waiting next due : List ℕ} {w done : ℕ}
    (P : Peeling G A deg lev lay k turn waiting next (w ∷ due) G.size done)
  where
    -- with the degree of w lowered by one, if that matters
    struck_off : (deg' : ℕ → ℕ) → ((v : ℕ) → (v ≡ w → ⊥) → deg' v ≡ deg v) → (T (not (A w)) → lev w ≡ 65535 → (deg w ≡ deg' w + 1) × (k < deg' w))
        → Peeling G A deg' lev lay k turn waiting next due G.size done
    struck_off deg' others own = record {
      simple = P.simple;
      low = P.low;
      anchored = P.anchored;
      placed = P.placed;
      waits = P.waits;
      waits_once = P.waits_once;
      comes = P.comes;
      comes_once = P.comes_once;
      owed = λ v i. P.owed v (inr i);
      owed_once = P.owed_once.1;
      degree = λ v b a none. let o = P.degree v b a none in split (eqb v w)
          (λ t.
          let e = eqb→eq v w t in
          let d = own (subst (λ z. T (not (A z))) e a) (subst (λ z. lev z ≡ 65535) e none) in
          let off = bit_no (member v due) (not_T (member v due) (λ m. P.owed_once.0 (subst (λ z. In z due) e (member-e v due m)))) in
          let on : bit (member v (w ∷ due)) ≡ 1 = bit_yes (member v (w ∷ due)) (member_i v (w ∷ due) (inl e)) in
          let old : deg v ≡ deg w = ap deg e in
          let new : deg' v ≡ deg' w = ap deg' e in
          (omega (arith, o.0), omega arith, λ h. omega arith))
          (λ t.
          let apart = neqb v w t in
          rw (others v apart) (o.0 ∙ ap (λ b. count (present A lev lay k turn waiting) (G.neighbors v) + bit b) (member-past v w due apart), o.1, o.2));
      total = P.total;
    }

module _ {G : Graph} {A : ℕ → Bool} {deg lev lay : ℕ → ℕ} {k turn : ℕ} {waiting next due : List ℕ} {w done : ℕ}
    (P : Peeling G A deg lev lay k turn waiting next (w ∷ due) G.size done)
  where
    -- a vertex without a level, when it is struck, has more than k neighbors left
    pub struck-above : T (not (A w)) → lev w ≡ 65535 → k < deg w
    struck-above a none = let b = (P.owed w (inl refl)).0 in (P.degree w b a none).2 b

    -- it is not left with k: a degree above k is lowered, and stays above
    pub lower : (deg' : ℕ → ℕ) → Puts deg deg' w (deg w - bit (ltb k (deg w))) → (deg w ≡ k + 1 → ⊥) → Peeling G A deg' lev lay k turn waiting next due G.size done
    lower deg' degree' more = struck_off P deg' degree'.1 (λ a none.
        let above = struck-above a none in
        let one = bit_yes (ltb k (deg w)) (lt→ltb k (deg w) above) in
        omega (arith, degree'.0))

    -- its degree falls to k: it is of the next turn
    pub fall : T (not (A w)) → lev w ≡ 65535 → deg w ≡ k + 1 → (deg' lev' lay' : ℕ → ℕ) → Puts deg deg' w k → Puts lev lev' w k → Puts lay lay' w (turn + 1)
        → Peeling G A deg' lev' lay' k turn waiting (next ++ w ∷ []) due G.size (done + 1)
    fall a none small deg' lev' lay' degree' level' layer' =
        let o = P.owed w (inl refl) in
        let d = P.degree w o.0 a none in
        let many : count (present A lev lay k turn waiting) (G.neighbors w) ≡ k = omega (arith, d.0, d.2 o.0, bit_yes (member w (w ∷ due)) (member_i w (w ∷ due) (inl refl))) in
        let low = P.low in
        struck_off (settle P w o.0 a none many (λ h. o.1) lev' lay' level' layer') deg' degree'.1 (λ f e. absurd (omega (arith, level'.0)))

-- ---- removing the vertices of a turn

-- the next vertex that waits is removed, and its neighbors are due
pub pop : {G : Graph} {A : ℕ → Bool} {deg lev lay : ℕ → ℕ} {k turn p done : ℕ} {waiting next : List ℕ}
    → Peeling G A deg lev lay k turn (p ∷ waiting) next [] G.size done → Peeling G A deg lev lay k turn waiting next (G.neighbors p) G.size done
unfolding any
pop {G} {A} {deg} {lev} {lay} {k} {turn} {p} {done} {waiting} {next} P =
    let own = P.waits p (inl refl) in
    let gone : T (not (present A lev lay k turn waiting p))
    = or-not (at_least A lev lay k (turn + 1) p) _
    (or-not (A p) _ own.1 (not_T (pair_le k (turn + 1) (lev p) (lay p)) (λ t. pair-before k turn (rw (own.2, own.3) at t))))
    (not_T (member p waiting) (λ m. P.waits_once.0 (member-e p waiting m))) in
    record {
      simple = P.simple;
      low = P.low;
      anchored = P.anchored;
      placed = P.placed;
      waits = λ v i. P.waits v (inr i);
      waits_once = P.waits_once.1;
      comes = P.comes;
      comes_once = P.comes_once;
      owed = λ v i. (P.simple.range p v own.0 i, (p, P.simple.symmetric p v own.0 i, own.2, own.3, gone));
      owed_once = P.simple.distinct p own.0;
      degree = λ v b a none.
          let o = P.degree v b a none in
          let one = count-one (present A lev lay k turn (p ∷ waiting)) (present A lev lay k turn waiting) p (G.neighbors v) (P.simple.distinct v b)
          (or_r (at_least A lev lay k (turn + 1) p) _ (member_i p (p ∷ waiting) (inl refl))) gone
          (λ u d. ap (λ c. at_least A lev lay k (turn + 1) u || c) (member-past u p waiting d)) in
          let both : member p (G.neighbors v) ≡ member v (G.neighbors p)
          = same (member p (G.neighbors v)) (member v (G.neighbors p))
          (λ t. member_i v (G.neighbors p) (P.simple.symmetric v p b (member-e p (G.neighbors v) t)))
          (λ t. member_i p (G.neighbors v) (P.simple.symmetric p v own.0 (member-e v (G.neighbors p) t))) in
          (omega (arith, o.0, ap bit both), o.1, o.2);
      total = P.total;
    }

module _ {G : Graph} {A : ℕ → Bool} {deg lev lay : ℕ → ℕ} {k turn seen done : ℕ} {next : List ℕ} (P : Peeling G A deg lev lay k turn [] next [] seen done) where
  -- a vertex with a level that is at or above the next turn's pair is of the next turn
  at_next : (u : ℕ) → u < G.size → T (not (A u)) → (lev u ≡ 65535 → ⊥) → T (pair_le k (turn + 1) (lev u) (lay u)) → In u next
  at_next u b a given t =
      let top = (P.placed u b a given).1 in
      (P.comes u).1 (pair-e k (turn + 1) (lev u) (lay u) t
      (λ h. absurd (omega (arith, pair-first (lev u) (lay u) k (turn + 1) top)))
      (λ e h. (b, a, sym e, pair-e (lev u) (lay u) k (turn + 1) top (λ g. absurd (omega arith)) (λ d g. omega arith))))

  -- all of a turn are removed: those of the next turn wait
  pub advance : Peeling G A deg lev lay k (turn + 1) next [] [] seen done
  unfolding any
  advance =
      let up : T (pair_le k (turn + 1) k (turn + 1 + 1)) = pair_eq k (turn + 1) k (turn + 1 + 1) refl (omega arith) in
      record {
        simple = P.simple;
        low = P.low;
        anchored = P.anchored;
        placed = λ v b a given. let o = P.placed v b a given in (o.0, pair_trans (lev v) (lay v) k (turn + 1) k (turn + 1 + 1) o.1 up);
        waits = λ v. (P.comes v).0;
        waits_once = P.comes_once;
        comes = λ v. (
          λ i. absurd i,
          λ s. absurd (
              let top = (P.placed v s.0 s.1 (λ e. absurd (omega (arith, s.2, P.low)))).1 in
              pair-before k (turn + 1) (rw (s.2, s.3) at top)),
        );
        comes_once = tt;
        owed = λ v i. absurd i;
        owed_once = tt;
        degree = λ v b a none.
            let o = P.degree v b a none in
            let all : count (present A lev lay k turn []) (G.neighbors v) ≡ count (present A lev lay k (turn + 1) next) (G.neighbors v)
            = count_cong (present A lev lay k turn []) (present A lev lay k (turn + 1) next) (G.neighbors v) (λ u i. same (present A lev lay k turn [] u) (present A lev lay k (turn + 1) next u)
            (λ t. or-e (at_least A lev lay k (turn + 1) u) _ t
            (λ s. split (A u)
            (λ h. or_l (at_least A lev lay k (turn + 1 + 1) u) _ (or_l (A u) _ h))
            (λ h. or-e (A u) _ s (λ d. absurd (T_not (A u) h d)) (λ d. split (eqb (lev u) 65535)
            (λ e. or_l (at_least A lev lay k (turn + 1 + 1) u) _ (or_r (A u) _ (pair_lt k (turn + 1 + 1) (lev u) (lay u) (omega (arith, eqb→eq (lev u) 65535 e, P.low)))))
            (λ e. or_r (at_least A lev lay k (turn + 1 + 1) u) _ (member_i u next (at_next u (P.simple.range v u b i) h (neqb (lev u) 65535 e) d))))))
            (λ s. absurd s))
            (λ t. or_l (at_least A lev lay k (turn + 1) u) _ (or-e (at_least A lev lay k (turn + 1 + 1) u) _ t
            (λ s. or-e (A u) _ s (or_l (A u) _) (λ d. or_r (A u) _ (pair_trans k (turn + 1) k (turn + 1 + 1) (lev u) (lay u) up d)))
            (λ s. let r = (P.comes u).0 (member-e u next s) in or_r (A u) _ (pair_eq k (turn + 1) (lev u) (lay u) (sym r.2) (omega (arith, r.3))))))) in
            (omega (arith, o.0), o.1, o.2);
        total = P.total;
      }

-- the shell is done: the next one begins
pub rise : {G : Graph} {A : ℕ → Bool} {deg lev lay : ℕ → ℕ} {k turn done : ℕ}
    → Peeling G A deg lev lay k turn [] [] [] G.size done → k + 1 < 65535 → Peeling G A deg lev lay (k + 1) 0 [] [] [] 0 done
unfolding any
rise {G} {A} {deg} {lev} {lay} {k} {turn} {done} P low =
    let up : T (pair_le k (turn + 1) (k + 1) (0 + 1)) = pair_lt k (turn + 1) (k + 1) (0 + 1) (omega arith) in
    record {
      simple = P.simple;
      low = low;
      anchored = P.anchored;
      placed = λ v b a given. let o = P.placed v b a given in (o.0, pair_trans (lev v) (lay v) k (turn + 1) (k + 1) (0 + 1) o.1 up);
      waits = λ v i. absurd i;
      waits_once = tt;
      comes = λ v. (
        λ i. absurd i,
        λ s. absurd (
            let top = (P.placed v s.0 s.1 (λ e. absurd (omega (arith, s.2)))).1 in
            omega (arith, s.2, pair-first (lev v) (lay v) k (turn + 1) top)),
      );
      comes_once = tt;
      owed = λ v i. absurd i;
      owed_once = tt;
      degree = λ v b a none.
          let o = P.degree v b a none in
          let all : count (present A lev lay k turn []) (G.neighbors v) ≡ count (present A lev lay (k + 1) 0 []) (G.neighbors v)
          = count_cong (present A lev lay k turn []) (present A lev lay (k + 1) 0 []) (G.neighbors v) (λ u i. same (present A lev lay k turn [] u) (present A lev lay (k + 1) 0 [] u)
          (λ t. or_l (at_least A lev lay (k + 1) (0 + 1) u) _ (or-e (at_least A lev lay k (turn + 1) u) _ t
          (λ s. split (A u) (or_l (A u) _) (λ h. or-e (A u) _ s (or_l (A u) _) (λ d. split (eqb (lev u) 65535)
          (λ e. or_r (A u) _ (pair_lt (k + 1) (0 + 1) (lev u) (lay u) (omega (arith, eqb→eq (lev u) 65535 e))))
          (λ e. absurd (at_next P u (P.simple.range v u b i) h (neqb (lev u) 65535 e) d)))))
          (λ s. absurd s)))
          (λ t. or_l (at_least A lev lay k (turn + 1) u) _ (or-e (at_least A lev lay (k + 1) (0 + 1) u) _ t
          (λ s. or-e (A u) _ s (or_l (A u) _) (λ d. or_r (A u) _ (pair_trans k (turn + 1) (k + 1) (0 + 1) (lev u) (lay u) up d)))
          (λ s. absurd s)))) in
          (omega (arith, o.0), omega (arith, o.2 b), λ h. absurd (omega arith));
      total = P.total;
    }

-- ---- the first turn of a shell: every vertex is looked at

module _ {G : Graph} {A : ℕ → Bool} {deg lev lay : ℕ → ℕ} {k seen done : ℕ} {next : List ℕ} (P : Peeling G A deg lev lay k 0 [] next [] seen done) where
  -- a vertex that has no level after it was seen has more than k neighbors present
  pub look : (T (not (A seen)) → lev seen ≡ 65535 → k < deg seen) → Peeling G A deg lev lay k 0 [] next [] (seen + 1) done
  look above = record {
    simple = P.simple;
    low = P.low;
    anchored = P.anchored;
    placed = P.placed;
    waits = P.waits;
    waits_once = P.waits_once;
    comes = P.comes;
    comes_once = P.comes_once;
    owed = P.owed;
    owed_once = P.owed_once;
    degree = λ v b a none. let o = P.degree v b a none in (
      o.0,
      o.1,
      λ h. split (eqb v seen)
          (λ t.
          let e = eqb→eq v seen t in
          let m = above (subst (λ z. T (not (A z))) e a) (subst (λ z. lev z ≡ 65535) e none) in
          subst (λ z. k < deg z) (sym e) m)
          (λ t. let apart = neqb v seen t in o.2 (omega arith)),
    );
    total = P.total;
  }

-- a vertex with no more than k neighbors present is of turn 1
pub seed : {G : Graph} {A : ℕ → Bool} {deg lev lay : ℕ → ℕ} {k seen done : ℕ} {next : List ℕ} → Peeling G A deg lev lay k 0 [] next [] seen done
    → seen < G.size → T (not (A seen)) → lev seen ≡ 65535 → deg seen ≤ k → (lev' lay' : ℕ → ℕ) → Puts lev lev' seen k → Puts lay lay' seen 1
    → Peeling G A deg lev' lay' k 0 [] (next ++ seen ∷ []) [] (seen + 1) (done + 1)
unfolding any
seed {G} {A} {deg} {lev} {lay} {k} {seen} P b a none small lev' lay' level' layer' =
    let o = P.degree seen b a none in
    let low = P.low in
    let many : count (present A lev lay k 0 []) (G.neighbors seen) ≡ k = omega (arith, o.0, o.1) in
    look (settle P seen b a none many (λ h. absurd (omega arith)) lev' lay' level' layer') (λ f e. absurd (omega (arith, level'.0)))

-- ---- what the degrees tell

module _ {G : Graph} {A : ℕ → Bool} {deg lev : ℕ → ℕ} {k seen : ℕ} (D : Told G A deg lev k seen) where
  -- a vertex of a degree above k has no level yet
  pub told-above : (v : ℕ) → v < G.size → k < deg v → T (not (A v)) × (lev v ≡ 65535)
  told-above v b above = split (unset A lev v)
      (λ t. (and_l (not (A v)) _ t, eqb→eq (lev v) 65535 (and_r (not (A v)) _ t)))
      (λ t. absurd (omega (arith, D.closed v b t)))

  -- nor has one of degree k, if it is not anchored and was not seen
  pub told_unseen : (v : ℕ) → v < G.size → T (not (A v)) → seen ≤ v → k ≤ deg v → lev v ≡ 65535
  told_unseen v b a late many = split (eqb (lev v) 65535)
      (λ t. eqb→eq (lev v) 65535 t)
      (λ t. absurd (omega (arith, D.before v b a (neqb (lev v) 65535 t) late)))

  -- when w is seen, and gets another degree or a level, they go on to tell it if the degree of w does
  pub told-on : (deg' lev' : ℕ → ℕ) (w seen' : ℕ) → seen ≤ seen' → w < seen' → ((v : ℕ) → (v ≡ w → ⊥) → deg' v ≡ deg v) → ((v : ℕ) → (v ≡ w → ⊥) → lev' v ≡ lev v)
      → (T (not (unset A lev' w)) → deg' w ≤ k) → Told G A deg' lev' k seen'
  told-on deg' lev' w seen' more passed degrees levels own = record {
    closed = λ v b t. split (eqb v w)
        (λ h. let e = eqb→eq v w h in subst (λ u. deg' u ≤ k) (sym e) (own (subst (λ u. T (not (unset A lev' u))) e t)))
        (λ h.
        let apart = neqb v w h in
        omega (arith, D.closed v b (subst (λ z. T (not (not (A v) && eqb z 65535))) (levels v apart) t), degrees v apart));
    before = λ v b a given late.
        let apart : v ≡ w → ⊥ = λ e. absurd (omega arith) in
        omega (arith, D.before v b a (λ e. given (levels v apart ∙ e)) (omega arith), degrees v apart);
  }

  -- in the next shell nobody is seen
  pub told_rise : Told G A deg lev (k + 1) 0
  told_rise = record {
    closed = λ v b t. omega (arith, D.closed v b t);
    before = λ v b a given late.
        let level = nand_i (not (A v)) (eqb (lev v) 65535) (λ t. not_T (eqb (lev v) 65535) (λ e. given (eqb→eq (lev v) 65535 e))) in
        omega (arith, D.closed v b level);
  }

-- ---- the beginning and the end

-- nobody has a level, and an anchored vertex has degree 0
pub told_begin : (G : Graph) (A : ℕ → Bool) (deg lev : ℕ → ℕ) → ((v : ℕ) → v < G.size → T (A v) → deg v ≡ 0) → ((v : ℕ) → v < G.size → lev v ≡ 65535) → Told G A deg lev 0 0
told_begin G A deg lev none level = record {
  closed = λ v b t. split (A v)
      (λ h. omega (arith, none v b h))
      (λ h. absurd (T_not (unset A lev v) t (and_i (not (A v)) _ h (eqb_of (lev v) 65535 (level v b)))));
  before = λ v b a given late. absurd (given (level v b));
}

-- nobody has a level, and every neighbor is present
pub begin : (G : Graph) → Simple G → (A : ℕ → Bool) (deg lev lay : ℕ → ℕ) → ((v : ℕ) → v < G.size → T (not (A v)) → deg v ≡ length (G.neighbors v))
    → ((v : ℕ) → v < G.size → lev v ≡ 65535) → ((v : ℕ) → v < G.size → lay v ≡ 0) → Peeling G A deg lev lay 0 0 [] [] [] 0 0
unfolding any
begin G L A deg lev lay degree' level' layer' = record {
  simple = L;
  low = omega arith;
  anchored = λ v b t. (level' v b, layer' v b);
  placed = λ v b a given. absurd (given (level' v b));
  waits = λ v i. absurd i;
  waits_once = tt;
  comes = λ v. (λ i. absurd i, λ s. absurd (omega (arith, level' v s.0, s.2)));
  comes_once = tt;
  owed = λ v i. absurd i;
  owed_once = tt;
  degree = λ v b a none.
      let all = count-all (present A lev lay 0 0 []) (G.neighbors v) (λ u i.
      or_l (at_least A lev lay 0 (0 + 1) u) _ (or_r (A u) _ (pair_lt 0 (0 + 1) (lev u) (lay u) (omega (arith, level' u (L.range v u b i)))))) in
      (omega (arith, degree' v b a), omega arith, λ h. absurd (omega arith));
  total = omega (
    arith,
    count_cong (unset A lev) (λ v. not (A v)) (below G.size) (λ v i.
        same (unset A lev v) (not (A v)) (and_l (not (A v)) _) (λ t. and_i (not (A v)) _ t (eqb_of (lev v) 65535 (level' v ((in_below G.size v).0 i))))),
  );
}

module _ {G : Graph} {A : ℕ → Bool} {deg lev lay : ℕ → ℕ} {k turn seen done : ℕ} (P : Peeling G A deg lev lay k turn [] [] [] seen done) where
  -- while a vertex has no level, k is below the number of vertices: that vertex has k neighbors
  pub k-below : done < count (λ v. not (A v)) (below G.size) → k < G.size
  unfolding any
  k-below h =
      let r = count_witness (unset A lev) (λ v. false) (below G.size) (omega (arith, P.total, count_none (λ v. false) (below G.size) (λ v i. tt))) in
      let v = r.0 in
      let b = (in_below G.size v).0 r.1 in
      let o = P.degree v b (and_l (not (A v)) _ r.2) (eqb→eq (lev v) 65535 (and_r (not (A v)) _ r.2)) in
      omega (arith, o.0, o.1, count-length (present A lev lay k turn []) (G.neighbors v), degree-lt G P.simple A v b)

  -- when all have a level, levels and layers are the defined ones
  pub finish : count (λ v. not (A v)) (below G.size) ≤ done → (v : ℕ) → v < G.size → (lev v ≡ level G A v) × (lay v ≡ layer G A v)
  finish h = (local_agree G P.simple A lev lay).0 (record {
    anchored = P.anchored;
    free = λ v b a. (P.placed v b a (λ e. absurd (omega (arith, P.total, count-some (unset A lev) (below G.size) v ((in_below G.size v).1 b) (and_i (not (A v)) _ a (eqb_of (lev v) 65535 e)))))).0;
  })
