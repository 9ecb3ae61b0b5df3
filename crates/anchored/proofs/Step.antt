-- An event, from the graph G and the anchors A to H and B: an undisturbed component is alike before and after, so a row that is not
-- recomputed keeps its followers, its candidates, its level and its net yield. Assumes nothing.
use Prim.Native.Nat.{ℕ, ◌-◌, ◌<◌}
use mathlib.Core.Path.{◌≡◌, refl, sym, ap, ap₂, ◌∙◌, subst}
use mathlib.Core.Bool.{Bool, not, ◌&&◌, ◌||◌, beq}
use lib.IntN.{pos, ◌-ℤ◌}
use lib.Dec.{T, eqb, ltb, T_not, not_T, eqb→eq}
use native.Mathlib.Omega.{arith}
use Rattle.finite.specs.Count.{In}
use Rattle.finite.specs.Search.{member}
use Rattle.finite.proofs.Tests.{and_i, and_l, and_r, or-e, not-or, not-not, split, eqb_of, beq_e, false_of}
use Rattle.finite.proofs.Search.{any_i, all-below-e, member_i, member-e}
use Rattle.anchored.specs.Graph.{Graph, Simple}
use Rattle.anchored.specs.Core.{level, greater, higher}
use Rattle.anchored.specs.Component.{Joined, stay, hop, component, together}
use Rattle.anchored.specs.Followers.{follows, followers, first_step, reached}
use Rattle.anchored.specs.Yield.{bare_level, climb, net}
use Rattle.anchored.specs.Step.{above, same_inside, undisturbed, sees_disturbed, sees_new, moved, recomputed}
use Rattle.anchored.proofs.Component.{joined-level, joined-lt, joined_free, component_iff}
use Rattle.anchored.proofs.Reuse.{Alike, Sees, Untouched, flip}
use Rattle.anchored.proofs.Reuse as reuse

-- ---- the component of v as a set

module _ (G : Graph) (L : Simple G) (A : ℕ → Bool) where
  pub together-joined : (v w : ℕ) → v < G.size → w < G.size → T (not (A v)) → T (together G A v w) → Joined G A v w
  unfolding together
  together-joined v w bv bw av h = (component_iff G L A v w bv bw av (and_l (not (A w)) _ h)).0 (eqb→eq (component G A v) (component G A w) (and_r (not (A w)) _ h))

  pub joined-together : (v w : ℕ) → v < G.size → T (not (A v)) → Joined G A v w → T (together G A v w)
  unfolding together
  joined-together v w bv av k =
      let aw = joined_free G L A v w av k in
      and_i (not (A w)) _ aw (eqb_of (component G A v) (component G A w) ((component_iff G L A v w bv (joined-lt G L A v w bv k) av aw).1 k))

  -- it is of one level, and closed under edges inside that level
  pub together-level : (v w : ℕ) → v < G.size → w < G.size → T (not (A v)) → T (together G A v w) → level G A w ≡ level G A v
  together-level v w bv bw av h = sym (joined-level G L A v w (together-joined v w bv bw av h))

  pub together-next : (v w p : ℕ) → v < G.size → w < G.size → T (not (A v)) → T (together G A v w) → In p (G.neighbors w) → T (not (A p)) → level G A p ≡ level G A v → T (together G A v p)
  together-next v w p bv bw av h i ap e =
      joined-together v p bv av (hop (together-joined v w bv bw av h) (L.range w p bw i) ap (L.symmetric w p bw i) (together-level v w bv bw av h ∙ sym e))

-- ---- an undisturbed component is alike before and after

module _ (G H : Graph) (L : Simple G) (M : Simple H) (sz : G.size ≡ H.size) (A B : ℕ → Bool) (f : ℕ) (b : f < G.size) (c : T (undisturbed G H A B f)) where
  abbrev held : ℕ → Bool
  held w = eqb (above G A w) (above H B w) && same_inside G H A B f w

  abbrev each : ℕ → Bool
  each w = beq (together G A f w) (together H B f w) && (not (together G A f w) || held w)

  undisturbed_parts : T (not (A f)) × T (not (B f)) × (level G A f ≡ level H B f) × ((w : ℕ) → w < G.size → T (each w))
  unfolding undisturbed
  undisturbed_parts =
      let three = and_l (not (A f) && not (B f) && eqb (level G A f) (level H B f)) _ c in
      let two = and_l (not (A f) && not (B f)) _ three in (
        and_l (not (A f)) _ two,
        and_r (not (A f)) _ two,
        eqb→eq (level G A f) (level H B f) (and_r (not (A f) && not (B f)) _ three),
        all-below-e each G.size (and_r (not (A f) && not (B f) && eqb (level G A f) (level H B f)) _ c),
      )

  pub free_before : T (not (A f))
  free_before = undisturbed_parts.0

  pub free_after : T (not (B f))
  free_after = undisturbed_parts.1

  pub level-stays : level G A f ≡ level H B f
  level-stays = undisturbed_parts.2

  pub together-stays : (w : ℕ) → w < G.size → together G A f w ≡ together H B f w
  together-stays w bw = beq_e (together G A f w) (together H B f w) (and_l (beq (together G A f w) (together H B f w)) _ (undisturbed_parts.3 w bw))

  holds : (w : ℕ) → w < G.size → T (together G A f w) → T (held w)
  holds w bw s = or-e (not (together G A f w)) _ (and_r (beq (together G A f w) (together H B f w)) _ (undisturbed_parts.3 w bw))
      (λ t. absurd (T_not (together G A f w) t s)) (λ t. t)

  pub above-stays : (w : ℕ) → w < G.size → T (together G A f w) → above G A w ≡ above H B w
  above-stays w bw s = eqb→eq (above G A w) (above H B w) (and_l (eqb (above G A w) (above H B w)) _ (holds w bw s))

  pub inside-stays : (w p : ℕ) → w < G.size → p < G.size → T (together G A f w) → T (together G A f p) → member p (G.neighbors w) ≡ member p (H.neighbors w)
  unfolding same_inside
  inside-stays w p bw bp s t =
      let here = all-below-e (λ q. not (together G A f q) || beq (member q (G.neighbors w)) (member q (H.neighbors w))) G.size (and_r (eqb (above G A w) (above H B w)) _ (holds w bw s)) p bp in
      or-e (not (together G A f p)) _ here (λ q. absurd (T_not (together G A f p) q t)) (beq_e (member p (G.neighbors w)) (member p (H.neighbors w)))

  pub undisturbed-alike : Alike G H A B (level G A f) (together G A f)
  unfolding together above
  undisturbed-alike =
      let b' : f < H.size = omega arith in
      let same-level : (w : ℕ) → w < G.size → T (together G A f w) → (level G A w ≡ level G A f) × (level H B w ≡ level G A f)
      = λ w bw s. (together-level G L A f w b bw free_before s, together-level H M B f w b' (omega arith) free_after (subst T (together-stays w bw) s) ∙ sym level-stays) in
      record {
        free = λ w bw s. (and_l (not (A w)) _ s, and_l (not (B w)) _ (subst T (together-stays w bw) s));
        here = same-level;
        closed = λ w p bw s i ap e. together-next G L A f w p b bw free_before s i ap e;
        closed' = λ w p bw s i bp e.
            let bp' = M.range w p (omega arith) i in
            subst T (sym (together-stays p (omega arith))) (together-next H M B f w p b' (omega arith) free_after (subst T (together-stays w bw) s) i bp (e ∙ level-stays));
        above = λ w bw s. let r = same-level w bw s in rw (r.0, r.1) at (above-stays w bw s);
        inside = λ w p bw s t. (
          λ i. member-e p (H.neighbors w) (subst T (inside-stays w p bw (L.range w p bw i) s t) (member_i p (G.neighbors w) i)),
          λ i.
              let bp : p < G.size = subst (λ n. p < n) (sym sz) (M.range w p (omega arith) i) in
              member-e p (G.neighbors w) (subst T (sym (inside-stays w p bw bp s t)) (member_i p (H.neighbors w) i)),
        );
      }

-- ---- a row that is not recomputed, of a vertex u whose neighbors the event leaves

module _ (G H : Graph) (L : Simple G) (M : Simple H) (sz : G.size ≡ H.size) (A B : ℕ → Bool) (ends : ℕ → Bool) (u : ℕ) (bu : u < G.size)
    (au : T (not (A u))) (au' : T (not (B u))) (same : G.neighbors u ≡ H.neighbors u) (kept : T (not (recomputed G H A B ends u)))
  where
    not_seen : T (not (sees_disturbed G H A B u)) × T (not (sees_new G H A B u)) × T (not (moved G H A B u))
    unfolding recomputed
    not_seen =
        let none = not_T (sees_disturbed G H A B u || sees_new G H A B u || moved G H A B u || ends u) (λ t. T_not (recomputed G H A B ends u) kept (and_i (not (B u)) _ au' t)) in
        let three = (not-or (sees_disturbed G H A B u || sees_new G H A B u || moved G H A B u) (ends u) none).0 in
        let two = not-or (sees_disturbed G H A B u || sees_new G H A B u) (moved G H A B u) three in
        let one = not-or (sees_disturbed G H A B u) (sees_new G H A B u) two.0 in
        (one.0, one.1, two.1)

    -- its level and bare level are those before
    both : T (eqb (level G A u) (level H B u) && eqb (bare_level G u) (bare_level H u))
    unfolding moved
    both = not-not (eqb (level G A u) (level H B u) && eqb (bare_level G u) (bare_level H u)) not_seen.2

    pub kept-level : level G A u ≡ level H B u
    kept-level = eqb→eq (level G A u) (level H B u) (and_l (eqb (level G A u) (level H B u)) _ both)

    pub kept_bare : bare_level G u ≡ bare_level H u
    kept_bare = eqb→eq (bare_level G u) (bare_level H u) (and_r (eqb (level G A u) (level H B u)) _ both)

    -- its first steps lead into undisturbed components, before the event and after it
    steps_before : (f : ℕ) → T (first_step G A u f) → T (undisturbed G H A B f)
    unfolding sees_disturbed first_step
    steps_before f t = split (undisturbed G H A B f) (λ q. q) (λ q.
        let i = member-e f (G.neighbors u) (and_r (not (A f)) _ (and_l (not (A f) && member f (G.neighbors u)) _ t)) in
        absurd (T_not (sees_disturbed G H A B u) not_seen.0
        (any_i (λ z. not (A z) && greater G A z u && not (undisturbed G H A B z)) (G.neighbors u) f i
        (and_i (not (A f) && greater G A f u) _ (and_i (not (A f)) _ (and_l (not (A f)) _ (and_l (not (A f) && member f (G.neighbors u)) _ t)) (and_r (not (A f) && member f (G.neighbors u)) _ t)) q))))

    steps_after : (f : ℕ) → T (first_step H B u f) → T (undisturbed G H A B f)
    unfolding sees_new first_step
    steps_after f t = split (undisturbed G H A B f) (λ q. q) (λ q.
        let i = member-e f (H.neighbors u) (and_r (not (B f)) _ (and_l (not (B f) && member f (H.neighbors u)) _ t)) in
        absurd (T_not (sees_new G H A B u) not_seen.1
        (any_i (λ z. not (B z) && greater H B z u && not (undisturbed G H A B z)) (H.neighbors u) f i
        (and_i (not (B f) && greater H B f u) _ (and_i (not (B f)) _ (and_l (not (B f)) _ (and_l (not (B f) && member f (H.neighbors u)) _ t)) (and_r (not (B f) && member f (H.neighbors u)) _ t)) q))))

    -- it is above a level after the event exactly when it was before
    higher-same : (k : ℕ) → higher G A k u ≡ higher H B k u
    unfolding higher
    higher-same k = rw (false_of (A u) au, false_of (B u) au') (ap (ltb k) kept-level)

    sees_there : (k : ℕ) (S : ℕ → Bool) → Sees G H A B u k S
    sees_there k S w b s i h = (
      subst (λ z. T (not z)) (higher-same k) h,
      M.symmetric u w (omega arith) (subst (λ l. In w l) same (L.symmetric w u b i)),
    )

    sees_back : (k : ℕ) (S : ℕ → Bool) → Sees H G B A u k S
    sees_back k S w b s i h = (
      subst (λ z. T (not z)) (sym (higher-same k)) h,
      L.symmetric u w bu (subst (λ l. In w l) (sym same) (M.symmetric w u b i)),
    )

    there : Untouched G H A B u
    there f b t =
        let q = steps_before f t in
        let C = undisturbed-alike G H L M sz A B f b q in
        (level G A f, together G A f, C, sees_there (level G A f) (together G A f), joined-together G L A f f b (free_before G H L M sz A B f b q) (stay refl))

    back : Untouched H G B A u
    back f b t =
        let q = steps_after f t in
        let b' : f < G.size = omega arith in
        let C = undisturbed-alike G H L M sz A B f b' q in
        (level G A f, together G A f, flip G H A B (level G A f) (together G A f) sz C, sees_back (level G A f) (together G A f), joined-together G L A f f b' (free_before G H L M sz A B f b' q) (stay refl))

    pub kept-follows : (v : ℕ) → v < G.size → follows G A u v ≡ follows H B u v
    kept-follows = reuse.follows_same G H L M sz A B u bu au au' there back

    pub kept-followers : followers G A u ≡ followers H B u
    kept-followers = reuse.followers-same G H L M sz A B u bu au au' there back

    pub kept_reached : reached G A u ≡ reached H B u
    kept_reached = reuse.reached-same G H L M sz A B u bu au au' there back

    pub kept-net : net G A u ≡ net H B u
    unfolding net climb
    kept-net = ap₂ (λ (f c : ℕ). pos f -ℤ pos c) kept-followers (ap₂ ◌-◌ kept-level kept_bare)
