-- Terms: on a day on which no term ends nobody stops being anchored, so no level falls, and a search over the span's first day and the days
-- on which some term ends, or over more days, gives the day-by-day answer. Assumes nothing.
use Prim.Native.Nat.{ℕ, zero, suc, ◌-◌, ◌≤◌, ◌<◌}
use mathlib.Core.Path.{◌≡◌, refl, subst}
use mathlib.Core.Logic.{◌↔◌}
use mathlib.Core.Bool.{Bool, false, ◌&&◌, ◌||◌, and-false}
use mathlib.Core.List.{List}
use lib.ListN.{length, get_or, get_or-eq_default}
use lib.Dec.{T, leb, ltb, eqb, leb→le, le→leb, nleb→lt, ltb→lt, lt→ltb, nltb→le, eqb→eq, T_not}
use native.Mathlib.Omega.{arith}
use borrow.Author.Tests.{le-ltb, ltb-false}
use Rattle.finite.specs.Count.{In}
use Rattle.finite.specs.Search.{member, first_from, NoneFrom}
use Rattle.finite.proofs.Tests.{and_i, and_l, and_r, or_l, or_r, split, eqb_of, true_of, false_of, of_false}
use Rattle.finite.proofs.Count.{in_at}
use Rattle.finite.proofs.Search.{any-below_i, any-below-e, member_i, from_le, from-below, from_past, from_passes}
use Rattle.anchored.specs.Graph.{Graph, Simple}
use Rattle.anchored.specs.Core.{level}
use Rattle.anchored.specs.Terms.{Terms, ends_on, next_end, runs_for, anchored_on, changes_on, under, first_under, first_under_on}
-- the computed cases come before the theorems, so that a wrong definition is refused at a figure
use Rattle.anchored.specs.TermCases.{term-cases}
use Rattle.anchored.proofs.Core.{level-anchored}
use Rattle.anchored.proofs.Anchor.{level_mono}

-- ---- the next end

module _ (es : List ℕ) (day until : ℕ) (h : day < until) where
  pub next-after : day < next_end es day until
  unfolding next_end
  next-after = from_past (ends_on es) (until - suc day) (suc day)

  pub next-upto : next_end es day until ≤ until
  unfolding next_end
  next-upto = omega (arith, from_le (ends_on es) (until - suc day) (suc day))

  -- no term ends between
  pub next-none : NoneFrom (ends_on es) (suc day) (next_end es day until)
  unfolding next_end
  next-none = from-below (ends_on es) (until - suc day) (suc day)

-- a day on which no term ends is the end day of none
no_end : (es : List ℕ) (i d : ℕ) → ends_on es (suc d) ≡ false → get_or es i 0 ≡ suc d → ⊥
no_end es i d none e = split (ltb i (length es))
    (λ b. T_not (ends_on es (suc d)) (of_false (ends_on es (suc d)) none) (member_i (suc d) es (subst (λ z. In z es) e (in_at es i 0 (ltb→lt i (length es) b)))))
    (λ b. let zero-there : get_or es i 0 ≡ 0 = get_or-eq_default es 0 (nltb→le i (length es) b) in absurd (omega arith))

module _ (t : Terms) where
  abbrev first : ℕ → ℕ
  first i = get_or t.firsts i 0

  abbrev end : ℕ → ℕ
  end i = get_or t.ends i 0

  -- a vertex is anchored on a day exactly when some term of it has first ≤ day < end
  pub anchored-on : (day v : ℕ) → T (anchored_on t day v) ↔ ((i : ℕ) × (i < length t.vertices) × (get_or t.vertices i 0 ≡ v) × (first i ≤ day) × (day < end i))
  unfolding anchored_on
  anchored-on day v = (
    λ a. (
        let term = any-below-e (runs_for t day v) (length t.vertices) a in
        let i = term.0 in
        let same = and_l (eqb (get_or t.vertices i 0) v) _ term.2 in
        let running = and_r (eqb (get_or t.vertices i 0) v) _ term.2 in
        (i, term.1, eqb→eq (get_or t.vertices i 0) v same, leb→le (first i) day (and_l (leb (first i) day) _ running), ltb→lt day (end i) (and_r (leb (first i) day) _ running))
        ),
    λ m. any-below_i (runs_for t day v) (length t.vertices) m.0 m.1
        (and_i (eqb (get_or t.vertices m.0 0) v) _ (eqb_of (get_or t.vertices m.0 0) v m.2) (and_i (leb (first m.0) day) _ (le→leb (first m.0) day m.3) (lt→ltb day (end m.0) m.4))),
  )

  -- who is anchored stays so on a day on which no term ends
  pub anchors-stay : (d : ℕ) → ends_on t.ends (suc d) ≡ false → (v : ℕ) → T (anchored_on t d v) → T (anchored_on t (suc d) v)
  anchors-stay d none v a =
      let term = (anchored-on d v).0 a in
      let other = no_end t.ends term.0 d none in
      (anchored-on (suc d) v).1 (term.0, term.1, term.2, omega (arith, term.3), omega (arith, term.4))

  module _ (G : Graph) (L : Simple G) (x k : ℕ) (vertex : x < G.size) (small : k ≤ 65535) where
    abbrev low : ℕ → Bool
    low = under t G x k

    -- an anchored vertex is never under
    pub anchored-not-under : (day : ℕ) → T (anchored_on t day x) → low day ≡ false
    unfolding under
    anchored-not-under day a = le-ltb (level G (anchored_on t day) x) k (omega (arith, level-anchored G L (anchored_on t day) x a))

    -- one that is not under stays so on a day on which no term ends
    pub not-under-next : (d : ℕ) → ends_on t.ends (suc d) ≡ false → low d ≡ false → low (suc d) ≡ false
    unfolding under
    not-under-next d none here = split (anchored_on t (suc d) x)
        (anchored-not-under (suc d))
        (λ free. le-ltb (level G (anchored_on t (suc d)) x) k (omega (arith, level_mono G L (anchored_on t d) (anchored_on t (suc d)) (anchors-stay d none) x vertex free, ltb-false (level G (anchored_on t d) x) k here)))

    -- and so through several such days
    still : (d e : ℕ) → d ≤ e → NoneFrom (ends_on t.ends) (suc d) (suc e) → low d ≡ false → low e ≡ false
    still d zero h none here = let e : d ≡ 0 = omega arith in subst (λ z. low z ≡ false) e here
    still d (suc e) h none here = split (leb d e)
        (λ s. let le = leb→le d e s in not-under-next e (none (suc e) (omega arith) (omega arith)) (still d e le (λ c a b. none c a (omega arith)) here))
        (λ s. let e : d ≡ suc e = omega (arith, nleb→lt d e s) in subst (λ z. low z ≡ false) e here)

    -- days passed over: none before this one was under, it is not, and no term ends before `next`
    pub pass_over : (from day next : ℕ) → NoneFrom low from day → low day ≡ false → NoneFrom (ends_on t.ends) (suc day) next → NoneFrom low from next
    pass_over from day next before here none d lo hi = split (ltb d day)
        (λ s. before d lo (ltb→lt d day s))
        (λ s. still day d (nltb→le d day s) (λ c a b. none c a (omega arith)) here)

    -- ---- the days that need working out

    module _ (days : ℕ → Bool) (more : (d : ℕ) → T (ends_on t.ends d) → T (days d)) where
      on-days : (m from i : ℕ) → (T (low i) → T (eqb from i || days i))
          → first_from (λ day. (eqb from day || days day) && low day) m i ≡ first_from low m i
      unfolding first_from
      on-days zero from i due = refl
      on-days (suc m) from i due = split (low i)
          (λ s. rw (true_of (low i) s, true_of (eqb from i || days i) (due s)))
          (λ s. rw (false_of (low i) s, and-false (eqb from i || days i)) (on-days m from (suc i)
          (λ y. split (ends_on t.ends (suc i))
          (λ e. or_r (eqb from (suc i)) _ (more (suc i) e))
          (λ e. absurd (T_not (low (suc i)) (of_false (low (suc i)) (not-under-next i (false_of (ends_on t.ends (suc i)) e) (false_of (low i) s))) y)))))

      -- the span's first day and days among which are all on which some term ends give the day-by-day answer
      pub days_suffice : (from until : ℕ) → first_under_on t G x k days from until ≡ first_under t G x k from until
      unfolding first_under first_under_on
      days_suffice from until = on-days (until - from) from from (λ s. or_l (eqb from from) _ (eqb_of from from refl))

    -- card 8: the span's first day and those on which some term starts or ends
    pub changes_suffice : (from until : ℕ) → first_under_on t G x k (changes_on t) from until ≡ first_under t G x k from until
    changes_suffice = days_suffice (changes_on t) (λ d. or_r (member d t.firsts) _)

    -- what the code works out: those on which some term ends
    pub ends_suffice : (from until : ℕ) → first_under_on t G x k (ends_on t.ends) from until ≡ first_under t G x k from until
    ends_suffice = days_suffice (ends_on t.ends) (λ d e. e)

  -- ---- what the first day is

  module _ (G : Graph) (x k from until : ℕ) where
    -- a day before the end is of the span, is under, and none of the span before it is
    pub first_under_day : first_under t G x k from until < until
        → (from ≤ first_under t G x k from until) × T (under t G x k (first_under t G x k from until)) × NoneFrom (under t G x k) from (first_under t G x k from until)
    unfolding first_under
    first_under_day h = (
      from_past (under t G x k) (until - from) from,
      from_passes (under t G x k) (until - from) from (omega (arith, from_past (under t G x k) (until - from) from)),
      from-below (under t G x k) (until - from) from,
    )

    -- else no day of the span is under
    pub first_under-none : until ≤ first_under t G x k from until → NoneFrom (under t G x k) from until
    unfolding first_under
    first_under-none h d lo hi = from-below (under t G x k) (until - from) from d lo (omega arith)

    -- a span whose end is not after its first day has no day
    pub no_span : until ≤ from → until ≤ first_under t G x k from until
    unfolding first_under
    no_span h = omega (arith, from_past (under t G x k) (until - from) from)
