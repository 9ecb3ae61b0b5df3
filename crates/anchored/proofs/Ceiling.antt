-- The ceiling of a search alone satisfies its own equation, and is never below what the search reaches, so that it tells whom a round will not choose.
-- Assumes nothing.
use Prim.Native.Nat.{ℕ, zero, suc, ◌+◌, ◌-◌, ◌≤◌, ◌<◌, zero-le}
use mathlib.Core.Path.{◌≡◌, refl, sym, ap, ◌∙◌, subst}
use mathlib.Core.Logic.{inl, inr}
use mathlib.Core.Bool.{Bool, true, false, not, cond, ◌&&◌, ◌||◌}
use mathlib.Core.List.{List, [], ◌∷◌}
use lib.IntN.{pos, ◌-ℤ◌}
use lib.Signed.{le_z}
use lib.Dec.{T, ltb, eqb, eqb→eq, eqb_refl, leb→le, le→leb, T_not, not_T}
use native.Mathlib.Omega.{arith}
use Rattle.finite.specs.Count.{In, count, sum, below}
use Rattle.finite.specs.Search.{any, member}
use Rattle.finite.specs.Sets.{has}
use Rattle.finite.proofs.Tests.{and_i, and_l, and_r, or_l, or_r, or-e, same, false_of, eqb_of}
use Rattle.finite.proofs.Count.{sum_cong, sum_mono, in_below, distinct-below, count-below-le, count_mono, count_none, count_off}
use Rattle.finite.proofs.Search.{any_i, any-e, member-e, count-any}
use Rattle.finite.proofs.Pairs.{strong}
use Rattle.finite.proofs.Signed.{le_z_chains, sub_mono}
use Rattle.anchored.specs.Graph.{Graph, Simple}
use Rattle.anchored.specs.Core.{level, layer}
use Rattle.anchored.specs.Followers.{follows, followers, first_step, Walk, start, step, onward, candidates, reached}
use Rattle.anchored.specs.Yield.{climb, net, choice_of}
use Rattle.anchored.specs.Ceiling.{further_step, sum_steps, capped, ceiling_within, ceiling_from, ceiling, walks_within, walks, outdone}
use Rattle.anchored.proofs.Core.{layer-le}
use Rattle.anchored.proofs.Candidates.{walk_free, candidate_walk, follower_candidate}
use Rattle.anchored.proofs.Choice.{choice_of_greatest, choice_of-some, choice_of-skips}
-- the computed cases come before the theorems, so that a wrong definition is refused at a figure
use Rattle.anchored.specs.CeilingCases.{ceiling-cases}

-- ---- a further step

-- what a further step is
module _ (G : Graph) (A : ℕ → Bool) (u w : ℕ) where
  abbrev alike : Bool
  alike = not (A w) && eqb (level G A u) (level G A w)

  pub further-free : T (further_step G A u w) → T (not (A w))
  unfolding further_step
  further-free t = and_l (not (A w)) _ (and_l alike _ t)

  pub further-level : T (further_step G A u w) → level G A u ≡ level G A w
  unfolding further_step
  further-level t = eqb→eq (level G A u) (level G A w) (and_r (not (A w)) _ (and_l alike _ t))

  pub further-layer : T (further_step G A u w) → layer G A u < layer G A w
  unfolding further_step
  further-layer t = leb→le (suc (layer G A u)) (layer G A w) (and_r alike _ t)

  pub further_i : T (not (A w)) → level G A u ≡ level G A w → layer G A u < layer G A w → T (further_step G A u w)
  unfolding further_step
  further_i a e h = and_i alike _ (and_i (not (A w)) _ a (eqb_of (level G A u) (level G A w) e)) (le→leb (suc (layer G A u)) (layer G A w) h)

-- who is found by a search is a further step from somebody whom it has reached
pub onward-further : (G : Graph) (A : ℕ → Bool) (s : List Bool) (v : ℕ) → onward G A s v ≡ any (λ u. has s u && further_step G A u v) (G.neighbors v)
unfolding onward
onward-further G A s v = same (onward G A s v) (any found (G.neighbors v))
    (λ t.
    let r = any-e near (G.neighbors v) (and_r (not (A v)) _ t) in
    let u = r.0 in
    let p = and_l (has s u && eqb (level G A u) (level G A v)) _ r.2 in
    let step = further_i G A u v (and_l (not (A v)) _ t) (eqb→eq (level G A u) (level G A v) (and_r (has s u) _ p)) (leb→le (suc (layer G A u)) (layer G A v) (and_r (has s u && eqb (level G A u) (level G A v)) _ r.2)) in
    any_i found (G.neighbors v) u r.1 (and_i (has s u) _ (and_l (has s u) _ p) step))
    (λ t.
    let r = any-e found (G.neighbors v) t in
    let u = r.0 in
    let f = and_r (has s u) _ r.2 in
    let beside = and_i (has s u) _ (and_l (has s u) _ r.2) (eqb_of (level G A u) (level G A v) (further-level G A u v f)) in
    and_i (not (A v)) _ (further-free G A u v f) (any_i near (G.neighbors v) u r.1 (and_i (has s u && eqb (level G A u) (level G A v)) _ beside (le→leb (suc (layer G A u)) (layer G A v) (further-layer G A u v f)))))
  where
    near : ℕ → Bool
    near u = has s u && eqb (level G A u) (level G A v) && ltb (layer G A u) (layer G A v)

    found : ℕ → Bool
    found u = has s u && further_step G A u v

-- ---- sums over steps

-- sums over steps that agree
pub steps_cong : (steps steps' : ℕ → Bool) (from from' : ℕ → ℕ) (l : List ℕ) → ((w : ℕ) → In w l → steps w ≡ steps' w) → ((w : ℕ) → In w l → T (steps w) → from w ≡ from' w)
    → sum_steps steps from l ≡ sum_steps steps' from' l
unfolding sum_steps
steps_cong steps steps' from from' l e f =
    sum_cong (λ w. cond (steps w) (1 + from w) 0) (λ w. cond (steps' w) (1 + from' w) 0) l (λ w i. term (steps w) (steps' w) (from w) (from' w) (e w i) (f w i))
  where
    term : (a b : Bool) (m k : ℕ) → a ≡ b → (T a → m ≡ k) → cond a (1 + m) 0 ≡ cond b (1 + k) 0
    term true b m k e h = subst (λ z. 1 + m ≡ cond z (1 + k) 0) e (ap (λ (z : ℕ). 1 + z) (h tt))
    term false b m k e h = subst (λ z. 0 ≡ cond z (1 + k) 0) e refl

-- where nothing is a step the sum is 0
steps_none : (steps : ℕ → Bool) (from : ℕ → ℕ) (l : List ℕ) → ((w : ℕ) → In w l → T (not (steps w))) → sum_steps steps from l ≡ 0
unfolding sum_steps sum
steps_none steps from [] f = refl
steps_none steps from (u ∷ us) f =
    let here = ap (λ b. cond b (1 + from u) 0) (false_of (steps u) (f u (inl refl))) in
    omega (arith, here, steps_none steps from us (λ w i. f w (inr i)))

-- a cap on each term is lost under the cap on the sum
capped-terms : (steps : ℕ → Bool) (from : ℕ → ℕ) (l : List ℕ) → capped (sum_steps steps (λ w. capped (from w)) l) ≡ capped (sum_steps steps from l)
unfolding sum_steps sum
capped-terms steps from [] = refl
capped-terms steps from (u ∷ us) = omega (arith, term (steps u) (from u), capped-terms steps from us)
  where
    term : (b : Bool) (m : ℕ) → capped (cond b (1 + capped m) 0) ≡ capped (cond b (1 + m) 0)
    term true m = omega arith
    term false m = refl

capped_steps : (steps : ℕ → Bool) (from from' : ℕ → ℕ) (l : List ℕ) → ((w : ℕ) → from w ≡ capped (from' w)) → capped (sum_steps steps from l) ≡ capped (sum_steps steps from' l)
capped_steps steps from from' l e = ap capped (steps_cong steps steps from (λ w. capped (from' w)) l (λ w i. refl) (λ w i t. e w)) ∙ capped-terms steps from' l

-- ---- the equation

module _ (G : Graph) (L : Simple G) (A : ℕ → Bool) where
  -- a further step leaves fewer layers above
  fewer-above : (u w : ℕ) → T (further_step G A u w) → G.size - layer G A w < G.size - layer G A u
  fewer-above u w t = omega (arith, further-layer G A u w t, layer-le G L A w (further-free G A u w t))

  -- walks that are longer than there are layers above add nothing
  steady : (steps u : ℕ) → G.size - layer G A u ≤ steps → ceiling_within G A (suc steps) u ≡ ceiling_within G A steps u
  unfolding ceiling_within
  steady zero u h = ap capped (steps_none (further_step G A u) (ceiling_within G A 0) (G.neighbors u) (λ w i. not_T (further_step G A u w) (λ t. absurd (omega (arith, fewer-above u w t)))))
  steady (suc steps) u h = ap capped (steps_cong (further_step G A u) (further_step G A u) (ceiling_within G A (suc steps)) (ceiling_within G A steps) (G.neighbors u)
      (λ w i. refl) (λ w i t. steady steps w (omega (arith, fewer-above u w t))))

  -- the ceiling's own equation
  pub ceiling-further : (u : ℕ) → ceiling_from G A u ≡ capped (sum_steps (further_step G A u) (ceiling_from G A) (G.neighbors u))
  unfolding ceiling_from ceiling_within
  ceiling-further u = sym (steady G.size u (omega arith))

  -- numbers that satisfy it at each vertex that is not anchored are the ceilings
  pub ceiling_unique : (c : ℕ → ℕ) → ((u : ℕ) → u < G.size → T (not (A u)) → c u ≡ capped (sum_steps (further_step G A u) c (G.neighbors u)))
      → (u : ℕ) → u < G.size → T (not (A u)) → c u ≡ ceiling_from G A u
  ceiling_unique c eq u b a = strong Same above (G.size - layer G A u) u b a refl
    where
      Same : ℕ → Type 0
      Same d = (v : ℕ) → v < G.size → T (not (A v)) → G.size - layer G A v ≡ d → c v ≡ ceiling_from G A v

      above : (d : ℕ) → ((i : ℕ) → i < d → Same i) → Same d
      above d ih v bv av e =
          eq v bv av
          ∙ ap capped (steps_cong (further_step G A v) (further_step G A v) c (ceiling_from G A) (G.neighbors v) (λ w i. refl) (λ w i t.
          ih (G.size - layer G A w) (omega (arith, fewer-above v w t)) w (L.range v w bv i) (further-free G A v w t) refl))
          ∙ sym (ceiling-further v)

-- ---- the cap

module _ (G : Graph) (A : ℕ → Bool) where
  capped-within : (steps u : ℕ) → ceiling_within G A steps u ≡ capped (walks_within G A steps u)
  unfolding ceiling_within walks_within
  capped-within zero u = refl
  capped-within (suc steps) u = capped_steps (further_step G A u) (ceiling_within G A steps) (walks_within G A steps) (G.neighbors u) (capped-within steps)

  -- capped at each stage, or once at the end: the same number
  pub ceiling-capped : (x : ℕ) → ceiling G A x ≡ capped (walks G A x)
  unfolding ceiling ceiling_from walks
  ceiling-capped x = capped_steps (first_step G A x) (ceiling_from G A) (walks_within G A G.size) (G.neighbors x) (capped-within G.size)

-- ---- the reached count is no greater

module _ (G : Graph) (A : ℕ → Bool) where
  -- further steps, at most so many, lead from u to v
  leads : ℕ → ℕ → ℕ → Bool
  leads zero u v = eqb u v
  leads (suc steps) u v = eqb u v || any (λ w. further_step G A u w && leads steps w v) (G.neighbors u)

  leads-here : (steps u : ℕ) → T (leads steps u u)
  unfolding leads
  leads-here zero u = eqb_refl u
  leads-here (suc steps) u = or_l (eqb u u) _ (eqb_refl u)

  -- a step, and then more of them
  leads-first : (steps u w v : ℕ) → In w (G.neighbors u) → T (further_step G A u w) → T (leads steps w v) → T (leads (suc steps) u v)
  unfolding leads
  leads-first steps u w v i f t = or_r (eqb u v) _ (any_i (λ z. further_step G A u z && leads steps z v) (G.neighbors u) w i (and_i (further_step G A u w) _ f t))

  -- steps are none, or a step and then more of them
  leads-e : {C : Type 0} (steps u v : ℕ) → T (leads (suc steps) u v) → (u ≡ v → C) → ((w : ℕ) → In w (G.neighbors u) → T (further_step G A u w) → T (leads steps w v) → C) → C
  unfolding leads
  leads-e steps u v t here more = or-e (eqb u v) _ t (λ e. here (eqb→eq u v e)) (λ s.
      let r = any-e (λ w. further_step G A u w && leads steps w v) (G.neighbors u) s in
      let w = r.0 in
      more w r.1 (and_l (further_step G A u w) _ r.2) (and_r (further_step G A u w) _ r.2))

  leads_only : (steps u w v : ℕ) → In v (G.neighbors w) → T (further_step G A w v) → u ≡ w → T (leads (suc steps) u v)
  leads_only steps u w v i f e = subst (λ z. T (leads (suc steps) z v)) (sym e) (leads-first steps w v v i f (leads-here steps v))

  -- one step more at the end
  leads-last : (steps u w v : ℕ) → In v (G.neighbors w) → T (further_step G A w v) → T (leads steps u w) → T (leads (suc steps) u v)
  unfolding leads
  leads-last zero u w v i f t = leads_only 0 u w v i f (eqb→eq u w t)
  leads-last (suc steps) u w v i f t = leads-e steps u w t (leads_only (suc steps) u w v i f) (λ z j g s. leads-first (suc steps) u z v j g (leads-last steps z w v i f s))

  leads_longer : (steps more u v : ℕ) → steps ≤ more → T (leads steps u v) → T (leads more u v)
  unfolding leads
  leads_longer zero more u v h t = subst (λ z. T (leads more u z)) (eqb→eq u v t) (leads-here more u)
  leads_longer (suc steps) zero u v h t = absurd (omega arith)
  leads_longer (suc steps) (suc more) u v h t = leads-e steps u v t
      (λ e. subst (λ z. T (leads (suc more) u z)) e (leads-here (suc more) u))
      (λ w i f s. leads-first more u w v i f (leads_longer steps more w v (omega arith) s))

  abbrev everyone : List ℕ
  everyone = below G.size

  -- q passes wherever p does but at u
  others : (u : ℕ) (p q : ℕ → Bool) → ((v : ℕ) → T (p v) → T (eqb u v || q v)) → count p everyone ≤ 1 + count q everyone
  others u p q f = omega (arith, count_off p q u everyone (distinct-below G.size) (λ v i other t. or-e (eqb u v) _ (f v t) (λ e. absurd (other (sym (eqb→eq u v e)))) (λ s. s)))

  module _ (small : G.size ≤ 65535) where
    -- those to whom some steps lead, and from there at most so many more, are no more than the capped sum
    few : (some : ℕ → Bool) (steps u : ℕ) → ((w : ℕ) → count (leads steps w) everyone ≤ 1 + ceiling_within G A steps w)
        → count (λ v. any (λ w. some w && leads steps w v) (G.neighbors u)) everyone ≤ capped (sum_steps some (ceiling_within G A steps) (G.neighbors u))
    unfolding sum_steps
    few some steps u h =
        let parts = count-any some (leads steps) (G.neighbors u) everyone in
        let each = sum_mono (λ w. cond (some w) (count (leads steps w) everyone) 0) (λ w. cond (some w) (1 + ceiling_within G A steps w) 0) (G.neighbors u) (λ w i. term (some w) (h w)) in
        omega (arith, parts, each, count-below-le (λ v. any (λ w. some w && leads steps w v) (G.neighbors u)) G.size)
      where
        term : (b : Bool) {m k : ℕ} → m ≤ k → cond b m 0 ≤ cond b k 0
        term true h = h
        term false h = zero-le

    -- u itself is one, and the others are no more than its ceiling
    leads-few : (steps u : ℕ) → count (leads steps u) everyone ≤ 1 + ceiling_within G A steps u
    unfolding leads ceiling_within
    leads-few zero u = omega (arith, others u (eqb u) (λ v. false) (λ v t. or_l (eqb u v) _ t), count_none (λ v. false) everyone (λ v i. tt))
    leads-few (suc steps) u =
        let further : ℕ → Bool = λ v. any (λ w. further_step G A u w && leads steps w v) (G.neighbors u) in
        omega (arith, others u (leads (suc steps) u) further (λ v t. t), few (further_step G A u) steps u (leads-few steps))

module _ (G : Graph) (L : Simple G) (A : ℕ → Bool) where
  -- an upstair walk is a first step, and then no more further ones than there are layers between
  walk_leads : (x v : ℕ) → Walk G A x v → (first : ℕ) × T (first_step G A x first) × (steps : ℕ) × (layer G A first + steps ≤ layer G A v) × T (leads G A steps first v)
  walk_leads x v (start b t) = (v, t, 0, omega arith, leads-here G A 0 v)
  walk_leads x v (step {w = w} k b a i e h) =
      let r = walk_leads x w k in
      (r.0, r.1, suc r.2, omega (arith, r.3), leads-last G A r.2 r.0 w v (L.symmetric v w b i) (further_i G A w v a e h) r.4)

  -- to a candidate further steps lead from a first one
  candidate_led : (x v : ℕ) → T (has (candidates G A x) v) → T (any (λ w. first_step G A x w && leads G A G.size w v) (G.neighbors x))
  unfolding first_step
  candidate_led x v t =
      let walk = candidate_walk G L A x v t in
      let r = walk_leads x v walk in
      let w = r.0 in
      let near = member-e w (G.neighbors x) (and_r (not (A w)) _ (and_l (not (A w) && member w (G.neighbors x)) _ r.1)) in
      let led = leads_longer G A r.2 G.size w v (omega (arith, r.3, layer-le G L A v (walk_free G L A x walk))) r.4 in
      any_i (λ z. first_step G A x z && leads G A G.size z v) (G.neighbors x) w near (and_i (first_step G A x w) _ r.1 led)

  module _ (small : G.size ≤ 65535) where
    -- never below the reached count
    pub ceiling-reached : (x : ℕ) → reached G A x ≤ ceiling G A x
    unfolding reached ceiling ceiling_from
    ceiling-reached x =
        let led = count_mono (has (candidates G A x)) (λ v. any (λ w. first_step G A x w && leads G A G.size w v) (G.neighbors x)) (below G.size) (λ v i. candidate_led x v) in
        omega (arith, led, few G A small (first_step G A x) G.size x (leads-few G A small G.size))

    pub ceiling-followers : (x : ℕ) → followers G A x ≤ ceiling G A x
    unfolding followers reached
    ceiling-followers x =
        let found = count_mono (follows G A x) (has (candidates G A x)) (below G.size) (λ v i. follower_candidate G L A x v ((in_below G.size v).0 i)) in
        omega (arith, found, ceiling-reached x)

    -- ---- whom a round never chooses

    -- nor is the ceiling, less the climb, below the net yield
    pub net-ceiling : (w : ℕ) → T (le_z (net G A w) (pos (ceiling G A w) -ℤ pos (climb G A w)))
    unfolding net
    net-ceiling w = sub_mono (followers G A w) (ceiling G A w) (climb G A w) (ceiling-followers w)

    outdone-less : (v w : ℕ) → T (outdone G A v w) → T (not (le_z (net G A v) (net G A w)))
    unfolding outdone
    outdone-less v w t =
        let most = pos (ceiling G A w) -ℤ pos (climb G A w) in
        not_T (le_z (net G A v) (net G A w)) (λ s. T_not (le_z (net G A v) most) t (le_z_chains (net G A v) (net G A w) most s (net-ceiling w)))

    -- one that is outdone by a vertex up for choice is not chosen; p says who is up for choice
    pub never_chosen : (p : ℕ → Bool) (v w : ℕ) → v < G.size → T (p v) → T (outdone G A v w) → choice_of G A p ≡ w → ⊥
    never_chosen p v w b s t e =
        T_not (le_z (net G A v) (net G A w)) (outdone-less v w t)
        (subst (λ c. T (le_z (net G A v) (net G A c))) e (choice_of_greatest G A p v b s (choice_of-some G A p v b s)))

    -- so the searches of such vertices may be left out: the choice stays
    pub skipping_same : (p skip : ℕ → Bool) → ((w : ℕ) → w < G.size → T (p w) → T (skip w) → (v : ℕ) × (v < G.size) × T (p v) × T (outdone G A v w))
        → choice_of G A (λ v. p v && not (skip v)) ≡ choice_of G A p
    skipping_same p skip f = choice_of-skips G A p skip (λ w b s t. let r = f w b s t in (r.0, r.1, r.2, outdone-less r.0 w r.3))
