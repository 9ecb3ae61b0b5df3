-- Two pools side by side, (G, A) and (H, B), with a set S that is a component of one level in both: what a vertex u outside the
-- change sees of S is the same, its followers, the layers, its candidates. So a row that sees no change keeps both counts. Assumes nothing.
use Prim.Native.Nat.{ℕ, suc, ◌+◌, ◌-◌, ◌≤◌, ◌<◌}
use mathlib.Core.Path.{◌≡◌, refl, sym, ◌∙◌, subst}
use mathlib.Core.Logic.{◌↔◌}
use mathlib.Core.Bool.{Bool, not, ◌&&◌, ◌||◌}
use lib.Dec.{T, leb, ltb, eqb, leb→le, le→leb, nleb→lt, T_not, not_T, eqb→eq}
use native.Mathlib.Omega.{arith}
use native.Mathlib.Nat.{le_trans}
use Rattle.finite.specs.Count.{count, below, In}
use Rattle.finite.specs.Search.{member}
use Rattle.finite.specs.Sets.{has}
use Rattle.finite.specs.Pairs.{pair_le}
use Rattle.finite.proofs.Tests.{and_i, and_l, and_r, or_l, or_r, or-e, split, same, neqb}
use Rattle.finite.proofs.Count.{count_mono, count_cong, count-or, count_union, count_inject, in_below}
use Rattle.finite.proofs.Search.{member_i, member-e}
use Rattle.finite.proofs.Pairs.{strong, pair_lt, pair_eq, pair-e, pair_no}
use Rattle.anchored.specs.Graph.{Graph, Simple}
use Rattle.anchored.specs.Core.{Solid, core, level, layer, greater, higher}
use Rattle.anchored.specs.Component.{Joined, stay, hop}
use Rattle.anchored.specs.Followers.{adding, follows, followers, first_step, Walk, start, step, candidates, reached}
use Rattle.anchored.specs.Sheet.{at_least}
use Rattle.anchored.proofs.Core.{core_solid, core-largest, core-anchored, level-max, in_core, layer-positive}
use Rattle.anchored.proofs.Sheet.{defined_local}
use Rattle.anchored.proofs.Anchor.{other_of, free-adding, core-adding, core-less}
use Rattle.anchored.proofs.Candidates.{walk_free, walk_candidate, candidate_walk, follower_walk, walk_enters}

-- S is a component of level k in both pools, with the same edges inside, and each member has as many neighbors above it in one as in the other
pub record Alike (G H : Graph) (A B : ℕ → Bool) (k : ℕ) (S : ℕ → Bool) : Type 0 where
  pub free : (w : ℕ) → w < G.size → T (S w) → T (not (A w)) × T (not (B w))
  pub here : (w : ℕ) → w < G.size → T (S w) → (level G A w ≡ k) × (level H B w ≡ k)
  -- a neighbor, not anchored, of the same level is in it
  pub closed : (w p : ℕ) → w < G.size → T (S w) → In p (G.neighbors w) → T (not (A p)) → level G A p ≡ k → T (S p)
  pub closed' : (w p : ℕ) → w < G.size → T (S w) → In p (H.neighbors w) → T (not (B p)) → level H B p ≡ k → T (S p)
  pub above : (w : ℕ) → w < G.size → T (S w) → count (higher G A k) (G.neighbors w) ≡ count (higher H B k) (H.neighbors w)
  pub inside : (w p : ℕ) → w < G.size → T (S w) → T (S p) → In p (G.neighbors w) ↔ In p (H.neighbors w)

pub flip : (G H : Graph) (A B : ℕ → Bool) (k : ℕ) (S : ℕ → Bool) → G.size ≡ H.size → Alike G H A B k S → Alike H G B A k S
flip G H A B k S e C = record {
  free = λ w b s. let r = C.free w (omega arith) s in (r.1, r.0);
  here = λ w b s. let r = C.here w (omega arith) s in (r.1, r.0);
  closed = λ w p b. C.closed' w p (omega arith);
  closed' = λ w p b. C.closed w p (omega arith);
  above = λ w b s. sym (C.above w (omega arith) s);
  inside = λ w p b s t. let r = C.inside w p (omega arith) s t in (r.1, r.0);
}

-- where u is next to S and not above it in the first pool, so it is in the second
abbrev pub Sees : Graph → Graph → (ℕ → Bool) → (ℕ → Bool) → ℕ → ℕ → (ℕ → Bool) → Type 0
Sees G H A B u k S = (w : ℕ) → w < G.size → T (S w) → In u (G.neighbors w) → T (not (higher G A k u)) → T (not (higher H B k u)) × In u (H.neighbors w)

not-higher : (G : Graph) (A : ℕ → Bool) (k p : ℕ) → T (not (A p)) → level G A p ≤ k → T (not (higher G A k p))
unfolding higher
not-higher G A k p a h = not_T (higher G A k p) (λ t. or-e (A p) _ t (T_not (A p) a) (λ q. absurd (omega (arith, leb→le (suc k) (level G A p) q))))

not-higher-e : (G : Graph) (A : ℕ → Bool) (k p : ℕ) → T (not (higher G A k p)) → T (not (A p)) × (level G A p ≤ k)
unfolding higher
not-higher-e G A k p t = (
  not_T (A p) (λ q. T_not (higher G A k p) t (or_l (A p) _ q)),
  (let n = nleb→lt (suc k) (level G A p) (not_T (ltb k (level G A p)) (λ q. T_not (higher G A k p) t (or_r (A p) _ q))) in omega arith),
)

-- ---- followers in S carry over

module _ (G H : Graph) (L : Simple G) (M : Simple H) (sz : G.size ≡ H.size) (A B : ℕ → Bool) (u k : ℕ) (S : ℕ → Bool) (C : Alike G H A B k S) (see : Sees G H A B u k S) where
  abbrev core₁ : ℕ → Bool
  core₁ = has (core G (adding A u) (suc k))

  abbrev core₂ : ℕ → Bool
  core₂ = has (core H (adding B u) (suc k))

  -- what anchoring u adds to the neighbors above k: u, and the vertices of S in the raised core
  extra₁ : ℕ → Bool
  extra₁ p = not (higher G A k p) && (eqb u p || (S p && core₁ p))

  extra₂ : ℕ → Bool
  extra₂ p = not (higher H B k p) && (eqb u p || (S p && core₁ p))

  -- the raised core of the second pool, with what S has of that of the first
  carried : ℕ → Bool
  carried w = core₂ w || (core₁ w && S w)

  covers : (w p : ℕ) → w < G.size → T (S w) → In p (G.neighbors w) → T (core₁ p) → T (higher G A k p || extra₁ p)
  unfolding extra₁
  covers w p b s i h = split (higher G A k p) (or_l (higher G A k p) _) (λ o. or_r (higher G A k p) _ (and_i (not (higher G A k p)) _ o (split (eqb u p) (or_l (eqb u p) _) (λ t.
      let low = not-higher-e G A k p o in
      let c = level-max G L A p k low.0 (core-less G L A u k p h (neqb u p t)) in
      or_r (eqb u p) _ (and_i (S p) _ (C.closed w p b s i low.0 (omega (arith, low.1))) h)))))

  keeps : (w p : ℕ) → w < G.size → T (S w) → In p (G.neighbors w) → T (extra₁ p) → T (extra₂ p) × In p (H.neighbors w)
  unfolding extra₁ extra₂
  keeps w p b s i h = or-e (eqb u p) _ (and_r (not (higher G A k p)) _ h)
      (λ t.
      let e = eqb→eq u p t in
      let r = see w b s (subst (λ z. In z (G.neighbors w)) (sym e) i) (subst (λ z. T (not (higher G A k z))) (sym e) (and_l (not (higher G A k p)) _ h)) in
      (and_i (not (higher H B k p)) _ (subst (λ z. T (not (higher H B k z))) e r.0) (or_l (eqb u p) _ t), subst (λ z. In z (H.neighbors w)) e r.1))
      (λ t.
      let sp = and_l (S p) _ t in
      let bp = L.range w p b i in
      (and_i (not (higher H B k p)) _ (not-higher H B k p (C.free p bp sp).1 (omega (arith, (C.here p bp sp).1))) (or_r (eqb u p) _ t), (C.inside w p b s sp).0 i))

  lands : (w p : ℕ) → w < G.size → In p (H.neighbors w) → T (higher H B k p || extra₂ p) → T (carried p)
  unfolding higher extra₂ carried
  lands w p b i h =
      let bp = M.range w p (omega arith) i in
      or-e (higher H B k p) _ h
      (λ t. or_l (core₂ p) _ (core-adding H M B u (suc k) p (split (B p) (core-anchored H M B (suc k) p bp) (λ a.
      or-e (B p) _ t (λ q. absurd (T_not (B p) a q)) (λ q. in_core H M B p (suc k) bp a (leb→le (suc k) (level H B p) q))))))
      (λ t. or-e (eqb u p) _ (and_r (not (higher H B k p)) _ t)
      (λ q. or_l (core₂ p) _ (core-anchored H M (adding B u) (suc k) p bp (or_r (B p) _ q)))
      (λ q. or_r (core₂ p) _ (and_i (core₁ p) (S p) (and_r (S p) _ q) (and_l (S p) _ q))))

  carried_solid : Solid H (adding B u) (suc k) carried
  unfolding carried extra₂
  carried_solid w b h a = or-e (core₂ w) _ h
      (λ t. le_trans (core_solid H M (adding B u) (suc k) w b t a) (count_mono core₂ carried (H.neighbors w) (λ p i. or_l (core₂ p) _)))
      (λ t.
      let b' : w < G.size = omega arith in
      let s = and_r (core₁ w) _ t in
      let c0 = core_solid G L (adding A u) (suc k) w b' (and_l (core₁ w) _ t) (free-adding A u w (C.free w b' s).0 (other_of B u w a)) in
      let c1 = count_mono core₁ (λ p. higher G A k p || extra₁ p) (G.neighbors w) (λ p i. covers w p b' s i) in
      let c2 = count-or (higher G A k) extra₁ (G.neighbors w) in
      let c3 = C.above w b' s in
      let c4 = count_inject extra₁ extra₂ (G.neighbors w) (H.neighbors w) (L.distinct w b') (λ p i. keeps w p b' s i) in
      let c5 = count_union (higher H B k) extra₂ (H.neighbors w) (λ p i o. not_T (extra₂ p) (λ q. T_not (higher H B k p) (and_l (not (higher H B k p)) _ q) o)) in
      let c6 = count_mono (λ p. higher H B k p || extra₂ p) carried (H.neighbors w) (λ p i. lands w p b' i) in
      omega arith)

  pub follows-carried : (v : ℕ) → v < G.size → T (S v) → T (follows G A u v) → T (follows H B u v)
  unfolding follows carried
  follows-carried v b s h =
      let a = and_l (not (adding A u v)) _ h in
      let e = C.here v b s in
      let r = leb→le (suc (level G A v)) (level G (adding A u) v) (and_r (not (adding A u v)) _ h) in
      let a' = free-adding B u v (C.free v b s).1 (other_of A u v a) in
      let c = in_core G L (adding A u) v (suc k) b a (omega arith) in
      let d = level-max H M (adding B u) v (suc k) a' (core-largest H M (adding B u) (suc k) carried carried_solid v (omega arith) (or_r (core₂ v) _ (and_i (core₁ v) (S v) c s))) in
      and_i (not (adding B u v)) _ a' (le→leb (suc (level H B v)) (level H (adding B u) v) (omega arith))

-- ---- layers in S agree: by induction on the layer

-- a vertex of S in layer l or later
in_layer : Graph → (ℕ → Bool) → (ℕ → Bool) → ℕ → ℕ → Bool
in_layer G A S l p = S p && leb l (layer G A p)

abbrev support : Graph → (ℕ → Bool) → ℕ → ℕ → ℕ → ℕ
support G A v k l = count (at_least A (level G A) (layer G A) k l) (G.neighbors v)

-- the layers of S up to l in the first pool are its layers in the second
Same : Graph → Graph → (ℕ → Bool) → (ℕ → Bool) → (ℕ → Bool) → ℕ → Type 0
Same G H A B S l = (v : ℕ) → v < G.size → T (S v) → layer G A v ≡ l → layer H B v ≡ l

module _ (G H : Graph) (L : Simple G) (M : Simple H) (sz : G.size ≡ H.size) (A B : ℕ → Bool) (k : ℕ) (S : ℕ → Bool) (C : Alike G H A B k S) where
  -- the neighbors at or above (k, l) are those above k and those of S in layer l or later
  split_support : (v l : ℕ) → v < G.size → T (S v) → support G A v k l ≡ count (higher G A k) (G.neighbors v) + count (in_layer G A S l) (G.neighbors v)
  unfolding in_layer higher
  split_support v l b s =
      count_cong (at_least A (level G A) (layer G A) k l) (λ p. higher G A k p || in_layer G A S l p) (G.neighbors v) (λ p i.
      let bp = L.range v p b i in
      same (at_least A (level G A) (layer G A) k l p) (higher G A k p || in_layer G A S l p)
      (λ h. split (higher G A k p) (or_l (higher G A k p) _) (λ o.
      let low = not-higher-e G A k p o in
      or_r (higher G A k p) _ (or-e (A p) _ h (λ a. absurd (T_not (A p) low.0 a)) (λ t. pair-e k l (level G A p) (layer G A p) t
      (λ g. absurd (omega (arith, low.1)))
      (λ e g. and_i (S p) _ (C.closed v p b s i low.0 (sym e)) (le→leb l (layer G A p) g))))))
      (λ h. or-e (higher G A k p) _ h
      (λ t. or-e (A p) _ t (or_l (A p) _) (λ q. or_r (A p) _ (pair_lt k l (level G A p) (layer G A p) (leb→le (suc k) (level G A p) q))))
      (λ t. let sp = and_l (S p) _ t in or_r (A p) _ (pair_eq k l (level G A p) (layer G A p) (sym (C.here p bp sp).0) (leb→le l (layer G A p) (and_r (S p) _ t))))))
      ∙ count_union (higher G A k) (in_layer G A S l) (G.neighbors v) (λ p i o. not_T (in_layer G A S l p) (λ t.
      let bp = L.range v p b i in
      let sp = and_l (S p) _ t in
      T_not (higher G A k p) (not-higher G A k p (C.free p bp sp).0 (omega (arith, (C.here p bp sp).0))) o))

  -- where the lower layers of the second pool are those of the first, the first has no more support
  support-le : (v l : ℕ) → v < G.size → T (S v) → ((j : ℕ) → j < l → Same H G B A S j) → count (in_layer G A S l) (G.neighbors v) ≤ count (in_layer H B S l) (H.neighbors v)
  unfolding in_layer Same
  support-le v l b s back = count_inject (in_layer G A S l) (in_layer H B S l) (G.neighbors v) (H.neighbors v) (L.distinct v b) (λ p i t.
      let sp = and_l (S p) _ t in
      let bp = L.range v p b i in
      let deep = leb→le l (layer G A p) (and_r (S p) _ t) in (
        and_i (S p) _ sp (split (leb l (layer H B p)) (λ q. q) (λ q. absurd (omega (arith, nleb→lt l (layer H B p) q, back (layer H B p) (nleb→lt l (layer H B p) q) p (omega arith) sp refl)))),
        (C.inside v p b s sp).0 i,
      ))

module _ (G H : Graph) (L : Simple G) (M : Simple H) (sz : G.size ≡ H.size) (A B : ℕ → Bool) (k : ℕ) (S : ℕ → Bool) (C : Alike G H A B k S) where
  layer-step : (l : ℕ) → ((j : ℕ) → j < l → Same G H A B S j) → ((j : ℕ) → j < l → Same H G B A S j) → Same G H A B S l
  unfolding Same
  layer-step l there back v b s e =
      let b' : v < H.size = omega arith in
      let here = C.here v b s in
      let C' = flip G H A B k S sz C in
      let few : support G A v k l ≤ k = subst (λ z. support G A v z.0 z.1 ≤ z.0) (pair_of here.0 e) ((defined_local G L A).free v b (C.free v b s).0).few in
      let le : support H B v k l ≤ support G A v k l = omega (arith, split_support G H L M sz A B k S C v l b s, split_support H G M L (sym sz) B A k S C' v l b' s, support-le H G M L (sym sz) B A k S C' v l b' s there, C.above v b s) in
      split (leb (layer H B v) l)
      (λ t. split (leb l (layer H B v))
      (λ q. omega (arith, leb→le (layer H B v) l t, leb→le l (layer H B v) q))
      (λ q. absurd (omega (arith, nleb→lt l (layer H B v) q, back (layer H B v) (nleb→lt l (layer H B v) q) v b' s refl))))
      (λ t.
      let late = nleb→lt (layer H B v) l t in
      let pos = layer-positive G L A v b (C.free v b s).0 in
      let many = ((defined_local H M B).free v b' (C.free v b s).1).later (omega arith) in
      let many' : k < support H B v k (layer H B v - 1) = subst (λ z. z < support H B v z (layer H B v - 1)) here.1 many in
      let anti = count_mono (at_least B (level H B) (layer H B) k (layer H B v - 1)) (at_least B (level H B) (layer H B) k l) (H.neighbors v) (λ p i h. or-e (B p) _ h (or_l (B p) _) (λ d. or_r (B p) _
      (pair-e k (layer H B v - 1) (level H B p) (layer H B p) d (pair_lt k l (level H B p) (layer H B p)) (λ f g. pair_eq k l (level H B p) (layer H B p) f (omega arith))))) in
      absurd (omega arith))
    where
      pair_of : {a b c d : ℕ} → a ≡ c → b ≡ d → ◌≡◌ {A = ℕ × ℕ} (a, b) (c, d)
      pair_of e f = rw (e, f)

pub layers_agree : (G H : Graph) → Simple G → Simple H → G.size ≡ H.size → (A B : ℕ → Bool) (k : ℕ) (S : ℕ → Bool) → Alike G H A B k S
    → (v : ℕ) → v < G.size → T (S v) → layer G A v ≡ layer H B v
unfolding Same
layers_agree G H L M sz A B k S C v b s =
    sym ((strong (λ l. Same G H A B S l × Same H G B A S l) (λ l ih. (
      layer-step G H L M sz A B k S C l (λ j h. (ih j h).0) (λ j h. (ih j h).1),
      layer-step H G M L (sym sz) B A k S (flip G H A B k S sz C) l (λ j h. (ih j h).1) (λ j h. (ih j h).0),
    ))
    (layer G A v)).0 v b s refl)

-- ---- candidates in S carry over

module _ (G H : Graph) (L : Simple G) (M : Simple H) (sz : G.size ≡ H.size) (A B : ℕ → Bool) (u k : ℕ) (bu : u < G.size) (au : T (not (A u))) (au' : T (not (B u))) (S : ℕ → Bool) (C : Alike G H A B k S) (see : Sees G H A B u k S) where
  -- joined to a member of S: a member
  joined-inside : (f v : ℕ) → f < G.size → T (S f) → Joined G A f v → (v < G.size) × T (S v)
  joined-inside f v b s (stay e) = (subst (λ z. z < G.size) e b, subst (λ z. T (S z)) e s)
  joined-inside f v b s (hop {w = w} j bz az i e) =
      let r = joined-inside f w b s j in
      (bz, C.closed w v r.0 r.1 (L.symmetric v w bz i) az (sym e ∙ (C.here w r.0 r.1).0))

  -- the pair of u stays below that of a member of S next to it
  greater-carried : (f : ℕ) → f < G.size → T (S f) → In u (G.neighbors f) → T (greater G A f u) → T (greater H B f u)
  unfolding greater
  greater-carried f b s i g =
      let here = C.here f b s in
      let same-layer = layers_agree G H L M sz A B k S C f b s in
      let low : (level G A u ≤ k) × (level G A u ≡ k → layer G A u < layer G A f) = pair_no (level G A f) (layer G A f) (level G A u) (layer G A u) g (λ h. (omega arith, λ e. absurd (omega arith))) (λ e h. (omega arith, λ q. h)) in
      let r = see f b s i (not-higher G A k u au low.0) in
      let low' = (not-higher-e H B k u r.0).1 in
      not_T (pair_le (level H B f) (layer H B f) (level H B u) (layer H B u)) (λ t. pair-e (level H B f) (layer H B f) (level H B u) (layer H B u) t
      (λ h. absurd (omega arith))
      (λ e h.
      let su = C.closed' f u b s r.1 au' (omega arith) in
      let there = C.here u bu su in
      absurd (omega (arith, low.1 there.0, layers_agree G H L M sz A B k S C u bu su))))

  not-above : (f : ℕ) → f < G.size → T (S f) → T (greater G A f u) → T (not (higher G A k u))
  unfolding greater
  not-above f b s g = not-higher G A k u au (pair_no (level G A f) (layer G A f) (level G A u) (layer G A u) g (λ h. omega (arith, (C.here f b s).0)) (λ e h. omega (arith, (C.here f b s).0)))

  -- an upstair walk from u that ends in S
  walk_carried : (v : ℕ) → Walk G A u v → T (S v) → Walk H B u v
  unfolding first_step
  walk_carried v (start b t) s =
      let g = and_r (not (A v) && member v (G.neighbors u)) _ t in
      let i = L.symmetric u v bu (member-e v (G.neighbors u) (and_r (not (A v)) _ (and_l (not (A v) && member v (G.neighbors u)) _ t))) in
      let r = see v b s i (not-above v b s g) in
      start {v = v} (omega arith) (and_i (not (B v) && member v (H.neighbors u)) _ (and_i (not (B v)) _ (C.free v b s).1 (member_i v (H.neighbors u) (M.symmetric v u (omega arith) r.1))) (greater-carried v b s i g))
  walk_carried v (step {w = w} j b a i e h) s =
      let bw = L.range v w b i in
      let sw = C.closed v w b s i (walk_free G L A u j) (e ∙ (C.here v b s).0) in
      step {v = v} (walk_carried w j sw) (omega arith) (C.free v b s).1 ((C.inside v w b s sw).0 i) ((C.here w bw sw).1 ∙ sym (C.here v b s).1)
      (omega (arith, layers_agree G H L M sz A B k S C w bw sw, layers_agree G H L M sz A B k S C v b s))

-- ---- a row that sees only what is alike has the same followers and the same candidates

-- every first step of u in the first pool leads into a set that is alike in both
abbrev pub Untouched : Graph → Graph → (ℕ → Bool) → (ℕ → Bool) → ℕ → Type 0
Untouched G H A B u = (f : ℕ) → f < G.size → T (first_step G A u f) → (k : ℕ) × (S : ℕ → Bool) × Alike G H A B k S × Sees G H A B u k S × T (S f)

module _ (G H : Graph) (L : Simple G) (M : Simple H) (sz : G.size ≡ H.size) (A B : ℕ → Bool) (u : ℕ) (bu : u < G.size) (au : T (not (A u))) (au' : T (not (B u))) (K : Untouched G H A B u) where
  keep_follower : (v : ℕ) → v < G.size → T (follows G A u v) → T (follows H B u v)
  keep_follower v b h =
      let w = walk_enters G L A u v (follower_walk G L A u v b h) in
      let r = K w.0 w.1 w.2 in
      let s = joined-inside G H L M sz A B u r.0 bu au au' r.1 r.2 r.3 w.0 v w.1 r.4 w.3 in
      follows-carried G H L M sz A B u r.0 r.1 r.2 r.3 v b s.1 h

  keep_candidate : (v : ℕ) → T (has (candidates G A u) v) → T (has (candidates H B u) v)
  keep_candidate v h =
      let p = candidate_walk G L A u v h in
      let w = walk_enters G L A u v p in
      let r = K w.0 w.1 w.2 in
      let s = joined-inside G H L M sz A B u r.0 bu au au' r.1 r.2 r.3 w.0 v w.1 r.4 w.3 in
      walk_candidate H M B u v (walk_carried G H L M sz A B u r.0 bu au au' r.1 r.2 r.3 v p s.1)

module _ (G H : Graph) (L : Simple G) (M : Simple H) (sz : G.size ≡ H.size) (A B : ℕ → Bool) (u : ℕ) (bu : u < G.size) (au : T (not (A u))) (au' : T (not (B u)))
    (there : Untouched G H A B u) (back : Untouched H G B A u)
  where
    pub follows_same : (v : ℕ) → v < G.size → follows G A u v ≡ follows H B u v
    follows_same v b = same (follows G A u v) (follows H B u v) (keep_follower G H L M sz A B u bu au au' there v b) (keep_follower H G M L (sym sz) B A u (omega arith) au' au back v (omega arith))

    pub candidates-same : (v : ℕ) → has (candidates G A u) v ≡ has (candidates H B u) v
    candidates-same v = same _ _ (keep_candidate G H L M sz A B u bu au au' there v) (keep_candidate H G M L (sym sz) B A u (omega arith) au' au back v)

    pub followers-same : followers G A u ≡ followers H B u
    unfolding followers
    followers-same = subst (λ n. count (follows G A u) (below G.size) ≡ count (follows H B u) (below n)) sz (count_cong (follows G A u) (follows H B u) (below G.size) (λ v i. follows_same v ((in_below G.size v).0 i)))

    pub reached-same : reached G A u ≡ reached H B u
    unfolding reached
    reached-same = subst (λ n. count (has (candidates G A u)) (below G.size) ≡ count (has (candidates H B u)) (below n)) sz (count_cong (has (candidates G A u)) (has (candidates H B u)) (below G.size) (λ v i. candidates-same v))
