-- Those who fall when x is collapsed are the least set that, with x, leaves all others enough neighbors: striking out in any order finds
-- exactly them, and they are near x. Assumes nothing.
use Prim.Native.Nat.{ℕ, zero, suc, ◌≤◌, ◌<◌}
use mathlib.Core.Path.{◌≡◌, refl, sym, ◌∙◌, subst}
use mathlib.Core.Logic.{inl, inr, ⊎_elim}
use mathlib.Core.Bool.{Bool, false, not, ◌&&◌, ◌||◌}
use mathlib.Core.List.{List, ◌∷◌}
use lib.ListN.{length, take, get_or}
use lib.Seq.{take_all}
use lib.Dec.{T, leb, ltb, eqb, leb→le, le→leb, nleb→lt, T_not, not_T, eqb→eq, eqb_refl}
use native.Mathlib.Omega.{arith}
use native.Mathlib.Nat.{le_trans}
use native.Mathlib.Numerals.{add-one}
use Rattle.finite.specs.Count.{count, In}
use Rattle.finite.specs.Search.{member}
use Rattle.finite.specs.Sets.{has}
use Rattle.finite.proofs.Tests.{and_i, and_l, and_r, or_l, or_r, or-e, split, same, not-or, or-not, eqb_of, neqb, nand, nand_i}
use Rattle.finite.proofs.Count.{count_mono, count_cong, in_take-more}
use Rattle.finite.proofs.Search.{any_i, any-e, member_i, member-e, member-past}
use Rattle.anchored.specs.Graph.{Graph, Simple}
use Rattle.anchored.specs.Core.{Solid, core, level, higher}
use Rattle.anchored.specs.Component.{stay, hop, component, together}
use Rattle.anchored.specs.Followers.{adding}
use Rattle.anchored.specs.Collapse.{collapse, falls, exposed}
use Rattle.anchored.proofs.Core.{core_solid, core-largest, core-anchored, level_in, level-max, in_core}
use Rattle.anchored.proofs.Anchor.{free_of, other_of, free-adding}
use Rattle.anchored.proofs.Component.{component_iff}
use Rattle.anchored.proofs.Collapse.{in_gone, collapse-simple, count-gone, other_i, level_sinks, fall_by_one}

module _ (G : Graph) (A : ℕ → Bool) (x : ℕ) where
  -- p holds w beside those out: anchored or of w's level or more, unless it is out and is x or of w's level
  abbrev pub holds : (ℕ → Bool) → ℕ → ℕ → Bool
  holds out w p = (A p || leb (level G A w) (level G A p)) && not (out p && (eqb x p || eqb (level G A p) (level G A w)))

  -- each vertex that is not anchored, not x and not out has enough that hold it
  abbrev pub Held : (ℕ → Bool) → Type 0
  Held out = (w : ℕ) → w < G.size → T (not (adding A x w)) → T (not (out w)) → level G A w ≤ count (holds out w) (G.neighbors w)

  -- x and those who fall
  abbrev pub fallen : ℕ → Bool
  fallen v = eqb x v || falls G A x v

module _ (G : Graph) (L : Simple G) (A : ℕ → Bool) (x : ℕ) where
  abbrev lev : ℕ → ℕ
  lev = level G A

  abbrev after : ℕ → ℕ
  after = level (collapse G x) A

  S : Simple (collapse G x)
  S = collapse-simple G L x

  fall_i : (v : ℕ) → T (not (adding A x v)) → after v < lev v → T (falls G A x v)
  unfolding falls
  fall_i v a h = and_i (not (adding A x v)) _ a (le→leb (suc (after v)) (lev v) h)

  fall_e : (v : ℕ) → T (falls G A x v) → T (not (adding A x v)) × (after v < lev v)
  unfolding falls
  fall_e v h = (and_l (not (adding A x v)) _ h, leb→le (suc (after v)) (lev v) (and_r (not (adding A x v)) _ h))

  -- one who falls falls by one
  pub fall_one : (v : ℕ) → v < G.size → T (falls G A x v) → lev v ≡ suc (after v)
  fall_one v b f = let r = fall_e v f in omega (arith, fall_by_one G L x A v b r.0)

  stays : (v : ℕ) → T (not (adding A x v)) → T (not (falls G A x v)) → lev v ≤ after v
  stays v a h = split (leb (lev v) (after v)) (leb→le (lev v) (after v)) (λ t. absurd (T_not (falls G A x v) h (fall_i v a (nleb→lt (lev v) (after v) t))))

  -- more out hold no more
  pub holds_anti : (M N : ℕ → Bool) (w p : ℕ) → (T (M p) → T (N p)) → T (holds G A x N w p) → T (holds G A x M w p)
  holds_anti M N w p f h = and_i (A p || leb (lev w) (lev p)) _ (and_l (A p || leb (lev w) (lev p)) _ h)
      (nand_i (M p) _ (λ t. nand (N p) _ (and_r (A p || leb (lev w) (lev p)) _ h) (f t)))

  -- nobody out: those of the core hold
  pub held-before : (w : ℕ) → w < G.size → T (not (A w)) → lev w ≤ count (holds G A x (λ p. false) w) (G.neighbors w)
  held-before w b a =
      le_trans (core_solid G L A (lev w) w b (level_in G L A w b a) a)
      (count_mono (has (core G A (lev w))) (holds G A x (λ p. false) w) (G.neighbors w) (λ p i h.
      and_i (A p || leb (lev w) (lev p)) _ (split (A p) (or_l (A p) _) (λ f. or_r (A p) _ (le→leb (lev w) (lev p) (level-max G L A p (lev w) f h)))) tt))

  -- those who stay hold one another
  pub stays-held : Held G A x (fallen G A x)
  stays-held w b a n =
      let free = free_of A x w a in
      let up = stays w a (not-or (eqb x w) _ n).1 in
      subst (λ z. lev w ≤ z) (count-gone G L x (holds G A x (fallen G A x) w) w (other_of A x w a) ∙ count_cong _ _ (G.neighbors w) (λ p i. drop-x p))
      (le_trans (core_solid (collapse G x) S A (lev w) w b (in_core (collapse G x) S A w (lev w) b free up) free)
      (count_mono (has (core (collapse G x) A (lev w))) (holds G A x (fallen G A x) w) ((collapse G x).neighbors w) (λ p i h.
      let g = (in_gone G L x w p).0 i in
      let bp = L.range w p b g.0 in
      split (A p)
      (λ t. and_i (A p || leb (lev w) (lev p)) _ (or_l (A p) _ t) (nand_i (fallen G A x p) _ (λ o.
      or-e (eqb x p) _ o (λ e. absurd (g.2 (eqb→eq x p e))) (λ f. absurd (T_not (A p) (free_of A x p (fall_e p f).0) t)))))
      (λ t.
      let ap = free-adding A x p t g.2 in
      let high = level-max (collapse G x) S A p (lev w) t h in
      let sink = level_sinks G L x A p bp ap in
      and_i (A p || leb (lev w) (lev p)) _ (or_r (A p) _ (le→leb (lev w) (lev p) (omega arith))) (nand_i (fallen G A x p) _ (λ o.
      or-e (eqb x p) _ o (λ e. absurd (g.2 (eqb→eq x p e))) (λ f.
      let low = (fall_e p f).1 in
      not_T (eqb x p || eqb (lev p) (lev w)) (λ q. or-e (eqb x p) _ q (λ e. g.2 (eqb→eq x p e)) (λ e. absurd (omega (arith, eqb→eq (lev p) (lev w) e)))))))))))
    where
      drop-x : (p : ℕ) → not (eqb x p) && holds G A x (fallen G A x) w p ≡ holds G A x (fallen G A x) w p
      drop-x p = same (not (eqb x p) && holds G A x (fallen G A x) w p) (holds G A x (fallen G A x) w p) (and_r (not (eqb x p)) _) (λ h.
          and_i (not (eqb x p)) _ (not_T (eqb x p) (λ e. T_not (fallen G A x p && (eqb x p || eqb (lev p) (lev w))) (and_r (A p || leb (lev w) (lev p)) _ h)
          (and_i (fallen G A x p) _ (or_l (eqb x p) _ e) (or_l (eqb x p) _ e)))) h)

  -- if x is out and all others have enough, none of them falls
  module _ (out : ℕ → Bool) (self : T (out x)) (held : Held G A x out) where
    -- the core with x collapsed, and those of level k that are not out
    kept : ℕ → ℕ → Bool
    kept k w = has (core (collapse G x) A k) w || (not (adding A x w) && not (out w) && eqb (lev w) k)

    kept_solid : (k : ℕ) → Solid (collapse G x) A k (kept k)
    unfolding kept
    kept_solid k w b h a = or-e (has (core (collapse G x) A k) w) _ h
        (λ c. le_trans (core_solid (collapse G x) S A k w b c a) (count_mono (has (core (collapse G x) A k)) (kept k) ((collapse G x).neighbors w) (λ p i. or_l (has (core (collapse G x) A k) p) _)))
        (λ c.
        let both = and_l (not (adding A x w) && not (out w)) _ c in
        let e = eqb→eq (lev w) k (and_r (not (adding A x w) && not (out w)) _ c) in
        let aw = and_l (not (adding A x w)) _ both in
        let enough = held w b aw (and_r (not (adding A x w)) _ both) in
        subst (λ z. k ≤ z) (sym (count-gone G L x (kept k) w (other_of A x w aw)))
        (le_trans (subst (λ z. z ≤ count (holds G A x out w) (G.neighbors w)) e enough) (count_mono (holds G A x out w) (λ p. not (eqb x p) && kept k p) (G.neighbors w) (λ p i g.
        let bp = L.range w p b i in
        let near = and_l (A p || leb (lev w) (lev p)) _ g in
        let inside = and_r (A p || leb (lev w) (lev p)) _ g in
        let apart : x ≡ p → ⊥ = λ q. T_not (out p && (eqb x p || eqb (lev p) (lev w))) inside (and_i (out p) _ (subst (λ z. T (out z)) q self) (or_l (eqb x p) _ (eqb_of x p q))) in
        other_i G L x (kept k) p apart (split (A p)
        (λ t. or_l (has (core (collapse G x) A k) p) _ (core-anchored (collapse G x) S A k p bp t))
        (λ t.
        let ap = free-adding A x p t apart in
        let no_less : lev w ≤ lev p = or-e (A p) _ near (λ q. absurd (T_not (A p) t q)) (leb→le (lev w) (lev p)) in
        split (eqb (lev p) (lev w))
        (λ q. or_r (has (core (collapse G x) A k) p) _ (and_i (not (adding A x p) && not (out p)) _
        (and_i (not (adding A x p)) _ ap (not_T (out p) (λ o. T_not (out p && (eqb x p || eqb (lev p) (lev w))) inside (and_i (out p) _ o (or_r (eqb x p) _ q)))))
        (eqb_of (lev p) k (eqb→eq (lev p) (lev w) q ∙ e))))
        (λ q.
        let ne = neqb (lev p) (lev w) q in
        or_l (has (core (collapse G x) A k) p) _ (in_core (collapse G x) S A p k bp t (omega (arith, fall_by_one G L x A p bp ap))))))))))

    pub held_stays : (v : ℕ) → v < G.size → T (not (adding A x v)) → T (not (out v)) → T (not (falls G A x v))
    unfolding kept
    held_stays v b a n = not_T (falls G A x v) (λ f.
        let low = (fall_e v f).1 in
        absurd (omega (
          arith,
          level-max (collapse G x) S A v (lev v) (free_of A x v a) (core-largest (collapse G x) S A (lev v) (kept (lev v)) (kept_solid (lev v)) v b
              (or_r (has (core (collapse G x) A (lev v)) v) _ (and_i (not (adding A x v) && not (out v)) _ (and_i (not (adding A x v)) _ a n) (eqb_of (lev v) (lev v) (omega arith))))),
        )))

  -- a vertex that too few hold falls, beside whatever set of x and some that fall they are counted
  pub struck-falls : (out : ℕ → Bool) → ((v : ℕ) → v < G.size → T (out v) → T (fallen G A x v)) → (w : ℕ) → w < G.size → T (not (adding A x w))
      → count (holds G A x out w) (G.neighbors w) < lev w → T (falls G A x w)
  struck-falls out f w b a h = split (falls G A x w) (λ t. t) (λ t.
      let n : T (not (fallen G A x w)) = or-not (eqb x w) (falls G A x w) (not_T (eqb x w) (λ e. other_of A x w a (eqb→eq x w e))) t in
      let c = count_mono (holds G A x (fallen G A x) w) (holds G A x out w) (G.neighbors w) (λ p i. holds_anti out (fallen G A x) w p (f p (L.range w p b i))) in
      absurd (omega (arith, stays-held w b a n)))

  -- a set of x and some that fall, that leaves all others enough, is x and all that fall: striking out in any order is right
  pub settled_falls : (out : ℕ → Bool) → T (out x) → Held G A x out → ((v : ℕ) → v < G.size → T (out v) → T (fallen G A x v))
      → (v : ℕ) → v < G.size → T (not (adding A x v)) → out v ≡ falls G A x v
  settled_falls out self held f v b a = same (out v) (falls G A x v)
      (λ t. or-e (eqb x v) _ (f v b t) (λ e. absurd (other_of A x v a (eqb→eq x v e))) (λ g. g))
      (λ t. split (out v) (λ o. o) (λ o. absurd (T_not (falls G A x v) (held_stays out self held v b a o) t)))

  -- an order of striking out: each of z, not anchored and not x, is left with too few by x and those before it
  abbrev pub Struck : List ℕ → Type 0
  Struck z = (i : ℕ) → i < length z → let w = get_or z i 0 in (w < G.size) × T (not (adding A x w)) × (count (holds G A x (λ p. member p (x ∷ take i z)) w) (G.neighbors w) < lev w)

  first : (v : ℕ) → v ≡ x → T (fallen G A x v)
  first v e = or_l (eqb x v) _ (eqb_of x v (sym e))

  struck-down : (z : List ℕ) → Struck z → (i : ℕ) → i ≤ length z → (v : ℕ) → In v (x ∷ take i z) → T (fallen G A x v)
  struck-down z s zero h v j = ⊎_elim (first v) (λ k. absurd k) j
  struck-down z s (suc i) h v j =
      let before = struck-down z s i (omega arith) in
      let r = s i h in
      ⊎_elim (first v) (λ k. ⊎_elim
      (λ m. before v (inr m))
      (λ e. subst (λ w. T (fallen G A x w)) (sym e) (or_r (eqb x (get_or z i 0)) _
      (struck-falls (λ p. member p (x ∷ take i z)) (λ p b t. before p (member-e p (x ∷ take i z) t)) (get_or z i 0) r.0 r.1 r.2)))
      ((in_take-more z i v h).0 (subst (λ m. In v (take m z)) (sym (add-one i)) k))) j

  -- whatever the order, once all others have enough exactly those who fall are struck out
  pub any_order : (z : List ℕ) → Struck z → Held G A x (λ p. member p (x ∷ z)) → (v : ℕ) → v < G.size → T (not (adding A x v)) → member v z ≡ falls G A x v
  any_order z s held v b a =
      sym (member-past v x z (λ e. other_of A x v a (sym e)))
      ∙ settled_falls (λ p. member p (x ∷ z)) (member_i x (x ∷ z) (inl refl)) held
      (λ p c t. let all : take (length z) z ≡ z = take_all (length z) z (omega arith) in
      struck-down z s (length z) (omega arith) p (rw all (member-e p (x ∷ z) t))) v b a

  -- ---- where to search

  -- a component is exposed as a whole
  exposed-same : (v w : ℕ) → component G A v ≡ component G A w → lev v ≡ lev w → T (exposed G A x v) → T (exposed G A x w)
  unfolding exposed together
  exposed-same v w c e h = or-e (together G A v x) _ h
      (λ t. or_l (together G A w x) _ (move x t))
      (λ t.
      let found = any-e (together G A v) (G.neighbors x) (and_r (higher G A (lev v) x) _ t) in
      or_r (together G A w x) _ (and_i (higher G A (lev w) x) _ (subst (λ k. T (higher G A k x)) e (and_l (higher G A (lev v) x) _ t))
      (any_i (together G A w) (G.neighbors x) found.0 found.1 (move found.0 found.2))))
    where
      move : (p : ℕ) → T (together G A v p) → T (together G A w p)
      move p t = subst (λ k. T (not (A p) && eqb k (component G A p))) c t

  joined_same : (v w : ℕ) → v < G.size → w < G.size → T (not (A v)) → T (not (A w)) → In v (G.neighbors w) → lev v ≡ lev w → component G A v ≡ component G A w
  joined_same v w bv bw av aw i e = (component_iff G L A v w bv bw av aw).1 (hop (stay refl) bw aw i e)

  -- a neighbor of the same level is exposed with a vertex
  exposed_along : (u w : ℕ) → u < G.size → w < G.size → T (not (A u)) → T (not (A w)) → In u (G.neighbors w) → lev u ≡ lev w → T (exposed G A x u) → T (exposed G A x w)
  exposed_along u w bu bw au aw i e = exposed-same u w (joined_same u w bu bw au aw i e) e

  -- and so is whom x holds
  exposed_beside : x < G.size → (w : ℕ) → w < G.size → T (not (A w)) → In x (G.neighbors w) → T (A x || leb (lev w) (lev x)) → T (exposed G A x w)
  unfolding exposed higher together
  exposed_beside bx w b a i r =
      let back = L.symmetric w x b i in
      let lower : T (higher G A (lev w) x) → T (exposed G A x w) = λ t. or_r (together G A w x) _ (and_i (higher G A (lev w) x) _ t
      (any_i (together G A w) (G.neighbors x) w back (and_i (not (A w)) _ a (eqb_refl (component G A w))))) in
      split (A x)
      (λ t. lower (or_l (A x) _ t))
      (λ t. split (ltb (lev w) (lev x))
      (λ m. lower (or_r (A x) _ m))
      (λ m.
      let high = or-e (A x) _ r (λ q. absurd (T_not (A x) t q)) (leb→le (lev w) (lev x)) in
      let alike : lev w ≡ lev x = omega (arith, high, nleb→lt (suc (lev w)) (lev x) m) in
      or_l (together G A w x) _ (and_i (not (A x)) _ t (eqb_of (component G A w) (component G A x) (joined_same w x b bx a t back alike)))))

  -- x, and those of exposed components who fall
  near : ℕ → Bool
  near p = eqb x p || (falls G A x p && exposed G A x p)

  -- whom one of them held, and holds no longer, is exposed
  exposed_by : x < G.size → (u w : ℕ) → w < G.size → T (not (A w)) → In u (G.neighbors w) → T (A u || leb (lev w) (lev u)) → T (eqb x u || eqb (lev u) (lev w)) → T (near u) → T (exposed G A x w)
  unfolding near
  exposed_by bx u w b a i up q o =
      let by-x : T (eqb x u) → T (exposed G A x w) = λ e.
      let z = sym (eqb→eq x u e) in
      exposed_beside bx w b a (subst (λ y. In y (G.neighbors w)) z i) (subst (λ y. T (A y || leb (lev w) (lev y))) z up) in
      or-e (eqb x u) _ o by-x (λ f. or-e (eqb x u) _ q by-x (λ k.
      exposed_along u w (L.range w u b i) b (free_of A x u (fall_e u (and_l (falls G A x u) _ f)).0) a i (eqb→eq (lev u) (lev w) k) (and_r (falls G A x u) _ f)))

  -- so they leave all others enough
  near-held : x < G.size → Held G A x near
  unfolding near
  near-held bx w b a n = split (exposed G A x w)
      (λ e.
      let other = not-or (eqb x w) _ n in
      let still : T (not (falls G A x w)) = not_T (falls G A x w) (λ f. T_not (exposed G A x w) (nand (falls G A x w) _ other.1 f) e) in
      le_trans (stays-held w b a (or-not (eqb x w) _ other.0 still)) (count_mono (holds G A x (fallen G A x) w) (holds G A x near w) (G.neighbors w) (λ p i.
      holds_anti near (fallen G A x) w p (λ o. or-e (eqb x p) _ o (or_l (eqb x p) _) (λ f. or_r (eqb x p) _ (and_l (falls G A x p) _ f))))))
      (λ e.
      let free = free_of A x w a in
      le_trans (held-before w b free) (count_mono (holds G A x (λ p. false) w) (holds G A x near w) (G.neighbors w) (λ p i g.
      let up = and_l (A p || leb (lev w) (lev p)) _ g in
      and_i (A p || leb (lev w) (lev p)) _ up (nand_i (near p) _ (λ o. not_T (eqb x p || eqb (lev p) (lev w)) (λ q.
      T_not (exposed G A x w) e (exposed_by bx p w b free i up q o)))))))

  -- those who fall are in x's own component, or in lower ones that x has a neighbor in; for an anchored x in any that it has one in
  pub falls-exposed : x < G.size → (v : ℕ) → v < G.size → T (falls G A x v) → T (exposed G A x v)
  unfolding near
  falls-exposed bx v b f = split (exposed G A x v) (λ t. t) (λ t.
      let a = (fall_e v f).0 in
      let apart : T (not (near v)) = or-not (eqb x v) _ (not_T (eqb x v) (λ e. other_of A x v a (eqb→eq x v e))) (nand_i (falls G A x v) _ (λ g. t)) in
      absurd (T_not (falls G A x v) (held_stays near (or_l (eqb x x) _ (eqb_refl x)) (near-held bx) v b a apart) f))

  -- whom x or one who falls held, and holds no longer, is exposed
  pub lost_exposed : x < G.size → (u w : ℕ) → w < G.size → T (not (A w)) → In u (G.neighbors w) → T (A u || leb (lev w) (lev u)) → T (eqb x u || eqb (lev u) (lev w)) → T (fallen G A x u)
      → T (exposed G A x w)
  unfolding near
  lost_exposed bx u w b a i up q o = exposed_by bx u w b a i up q (or-e (eqb x u) _ o (or_l (eqb x u) _) (λ f.
      or_r (eqb x u) _ (and_i (falls G A x u) _ f (falls-exposed bx u (L.range w u b i) f))))
