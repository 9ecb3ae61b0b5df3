-- Houses in turn, whatever each of them chooses: a house not to be passed is served within as many lines as there are houses, and before the
-- lines end; none exceeds its quota; the lines are a session's requests, accepted while a house is served. The real choice is one of these.
-- Assumes nothing.
use Prim.Native.Nat.{ℕ, zero, suc, ◌+◌, ◌-◌, ◌≤◌, ◌<◌}
use mathlib.Core.Path.{◌≡◌, refl, sym, ap, ap₂, ◌∙◌, subst}
use mathlib.Core.Logic.{⊎_elim}
use mathlib.Core.Bool.{Bool, true, not, cond}
use lib.Dec.{T, leb, ltb, eqb, leb→le, nleb→lt, ltb→lt, nltb→le, eqb→eq, T_not, not_T}
use native.Mathlib.Nat.{eq-or-lt_of_le}
use native.Mathlib.Numerals.{add-one}
use native.Mathlib.Omega.{arith}
use borrow.Author.Tests.{lt-ltb, le-ltb, ne_eqb}
use Rattle.finite.specs.Count.{bit, count, sum, below, tabulate}
use Rattle.finite.specs.Search.{any, first, NoneBelow}
use Rattle.finite.proofs.Tests.{and_i, and_l, and_r, or-e, not-or, or-not, not-not, split, true_of, false_of, of_false, neqb}
use Rattle.finite.proofs.Count.{bit_yes, bit_no, in_below, distinct-below, count-below-zero, count-below-more, tabulate-at, sum_lowered, sum_term}
use Rattle.finite.proofs.Search.{any-below_i, any-below-e, first_hit, first-none, first_passes, first-least, first-le, none_of}
use Rattle.finite.proofs.Pairs.{strong}
use Rattle.anchored.specs.Graph.{Graph}
use Rattle.anchored.specs.Followers.{adding}
use Rattle.anchored.specs.Session.{status_of, turn, after}
use Rattle.anchored.specs.Houses.{Houses, Turns, Sharing, line_count, turns_after, free_in, is_passed, skipped, served, after_turn, served_on, passed_on, after_line, named, after_lines, Picks, Fair, house_choice}
use Rattle.anchored.proofs.Choice.{choice_of_passes, choice_of-some}
use Rattle.anchored.proofs.Session.{status-free, status-beyond, turn-accepted, turn-refused}
-- the computed cases come before the theorems, so that a wrong definition is refused at a figure
use Rattle.anchored.specs.HouseCases.{house-cases}

-- ---- going round

module _ (count : ℕ) where
  abbrev on : ℕ → ℕ → ℕ
  on = turns_after count

  near : (c d : ℕ) → c + d < count → on c d ≡ c + d
  unfolding turns_after
  near c d h = rw (lt-ltb (c + d) count h)

  far : (c d : ℕ) → count ≤ c + d → on c d ≡ c + d - count
  unfolding turns_after
  far c d h = rw (le-ltb (c + d) count h)

  pub on-lt : (c d : ℕ) → c < count → d ≤ count → on c d < count
  on-lt c d h k = split (ltb (c + d) count)
      (λ t. omega (arith, near c d (ltb→lt (c + d) count t), ltb→lt (c + d) count t))
      (λ t. omega (arith, far c d (nltb→le (c + d) count t), nltb→le (c + d) count t))

  on-more : (c d e : ℕ) → c < count → d + e ≤ count → on (on c d) e ≡ on c (d + e)
  on-more c d e h k = split (ltb (c + d) count)
      (λ t. let a = ltb→lt (c + d) count t in let p = near c d a in split (ltb (c + (d + e)) count)
      (λ s. let b = ltb→lt (c + (d + e)) count s in rw p (omega (arith, near (c + d) e (omega arith), near c (d + e) b)))
      (λ s. let b = nltb→le (c + (d + e)) count s in rw p (omega (arith, far (c + d) e (omega arith), far c (d + e) b))))
      (λ t. let a = nltb→le (c + d) count t in let p = far c d a in
      rw p (omega (arith, near (c + d - count) e (omega arith), far c (d + e) (omega arith))))

  on-apart : (c d e : ℕ) → c < count → d < e → e < count → on c d ≡ on c e → ⊥
  on-apart c d e h k l q = split (ltb (c + d) count)
      (λ t. let a = near c d (ltb→lt (c + d) count t) in split (ltb (c + e) count)
      (λ s. absurd (omega (arith, a, near c e (ltb→lt (c + e) count s))))
      (λ s. absurd (omega (arith, a, far c e (nltb→le (c + e) count s), nltb→le (c + e) count s))))
      (λ t. let a = nltb→le (c + d) count t in absurd (omega (arith, far c d a, far c e (omega arith))))

  -- every house is some turns after c
  turns_to : (c e : ℕ) → c < count → e < count → (d : ℕ) × (d < count) × (on c d ≡ e)
  turns_to c e h k = split (leb c e)
      (λ t. let a = leb→le c e t in (e - c, omega arith, omega (arith, near c (e - c) (omega arith))))
      (λ t. let a = nleb→lt c e t in (e + count - c, omega arith, omega (arith, far c (e + count - c) (omega arith))))

-- ---- the house served

module _ (H : Houses) (n : ℕ) (A : ℕ → Bool) (t : Turns) where
  abbrev skips : ℕ
  skips = skipped H n A t

  abbrev c : ℕ
  c = served H n A t

  -- the first not to be passed, or none
  pub served_is : skips < H.count → c ≡ turns_after H.count t.next skips
  unfolding served
  served_is h = rw (lt-ltb skips H.count h)

  pub served-none : H.count ≤ skips → c ≡ H.count
  unfolding served
  served-none h = rw (le-ltb skips H.count h)

  -- the house d turns on is not to be passed
  abbrev pub waits : ℕ → Bool
  waits d = not (is_passed H n A t (turns_after H.count t.next d))

  -- a search through the turns finds the house served, or none
  pub served-found : (d : ℕ) → NoneBelow waits d → d < H.count → waits d ≡ true → c ≡ turns_after H.count t.next d
  unfolding skipped
  served-found d none h e =
      let f : skips ≡ d = first_hit waits H.count d none h e in
      served_is (omega (arith, f)) ∙ ap (turns_after H.count t.next) f

  pub served-nobody : NoneBelow waits H.count → c ≡ H.count
  unfolding skipped
  served-nobody none = let f : skips ≡ H.count = first-none waits H.count none in served-none (omega (arith, f))

  skips-some : c < H.count → skips < H.count
  skips-some h = split (ltb skips H.count) (ltb→lt skips H.count) (λ s. absurd (omega (arith, served-none (nltb→le skips H.count s))))

  -- a house not to be passed has something left of its quota, and somebody left
  pub open_left : (e : ℕ) → T (not (is_passed H n A t e)) → 0 < t.left e
  unfolding is_passed
  open_left e h = let some = neqb (t.left e) 0 (not-or (eqb (t.left e) 0) _ h).0 in omega arith

  pub open_free : (e : ℕ) → T (not (is_passed H n A t e)) → T (any (free_in H A e) (below n))
  unfolding is_passed
  open_free e h = not-not (any (free_in H A e) (below n)) (not-or (eqb (t.left e) 0) _ h).1

  -- the house served is not to be passed
  pub served_open : c < H.count → T (not (is_passed H n A t c))
  unfolding skipped
  served_open h = subst (λ z. T (not (is_passed H n A t z))) (sym (served_is (skips-some h)))
      (first_passes waits H.count (skips-some h))

  module _ (here : t.next < H.count) where
    -- the house served is a house, or there is none
    pub served-le : c ≤ H.count
    served-le = split (ltb skips H.count)
        (λ s. let h = ltb→lt skips H.count s in omega (arith, served_is h, on-lt H.count t.next skips here (omega arith)))
        (λ s. omega (arith, served-none (nltb→le skips H.count s)))

    -- nobody is served only when every house is passed
    pub all-passed : H.count ≤ c → (e : ℕ) → e < H.count → T (is_passed H n A t e)
    unfolding skipped
    all-passed h e b =
        let r = turns_to H.count t.next e here b in
        let end : first waits H.count ≡ H.count = split (ltb skips H.count)
        (λ s. let l = ltb→lt skips H.count s in absurd (omega (arith, served_is l, on-lt H.count t.next skips here (omega arith))))
        (λ s. omega (arith, first-le waits H.count, nltb→le skips H.count s)) in
        subst (λ z. T (is_passed H n A t z)) r.2 (not-not (is_passed H n A t (turns_after H.count t.next r.0)) (of_false (waits r.0) (none_of waits H.count end r.0 r.1)))

    -- a house d turns on that is not to be passed is served unless one before it is
    skips-le : (d : ℕ) → T (waits d) → skips ≤ d
    unfolding skipped
    skips-le d h = first-least waits H.count d h

-- the turns after a house is served, and after none
module _ (count c : ℕ) (t : Turns) where
  pub turns_taken : c < count → after_turn count c t ≡ record { next = turns_after count c 1; left = λ e. cond (eqb c e) (t.left e - 1) (t.left e) }
  unfolding after_turn
  turns_taken h = rw (lt-ltb c count h)

  pub turns-stay : count ≤ c → after_turn count c t ≡ t
  unfolding after_turn
  turns-stay h = rw (le-ltb c count h)

-- ---- lines, with any choice function that picks a vertex of the house it is asked for, not anchored

module _ (G : Graph) (H : Houses) (pick : ℕ → (ℕ → Bool) → ℕ → ℕ) where
  -- whom a line names
  pub named_some : (i : ℕ) (S : Sharing) → served_on G H S < H.count → named G H pick i S ≡ pick i S.session.anchors (served_on G H S)
  unfolding named
  named_some i S h = rw (lt-ltb (served_on G H S) H.count h)

  pub named_none : (i : ℕ) (S : Sharing) → H.count ≤ served_on G H S → named G H pick i S ≡ G.size
  unfolding named
  named_none i S h = rw (le-ltb (served_on G H S) H.count h)

  -- a line when every house is passed changes nothing
  line_none : (i : ℕ) (S : Sharing) → H.count ≤ served_on G H S → after_line G H (suc i) (named G H pick i S) S ≡ S
  unfolding after_line
  line_none i S h = ap₂ (λ P t. record { session = P; turns = t })
      (turn-refused G S.session (named G H pick i S) (suc i) (λ z. absurd (omega (arith, status-beyond G S.session.anchors (named G H pick i S) (omega (arith, named_none i S h))))))
      (turns-stay H.count (served_on G H S) S.turns h)

  module _ (quota : ℕ → ℕ) (A : ℕ → Bool) where
    abbrev before : ℕ → Sharing
    before = after_lines G H pick quota A

    abbrev serves : ℕ → ℕ
    serves i = served_on G H (before i)

    -- house c is not to be passed after i lines
    abbrev waiting : ℕ → ℕ → Type 0
    waiting i c = T (not (passed_on G H (before i) c))

    -- one line more
    pub lines_more : (i : ℕ) → before (i + 1) ≡ after_line G H (i + 1) (named G H pick i (before i)) (before i)
    unfolding after_lines
    lines_more i = rw add-one

    -- the lines are the requests of a session
    pub lines-session : (m i : ℕ) → i ≤ m → after G A (tabulate (λ k. named G H pick k (before k)) m) i ≡ (before i).session
    unfolding after after_lines after_line
    lines-session m zero h = refl
    lines-session m (suc i) h = ap₂ (turn G (suc i)) (tabulate-at (λ k. named G H pick k (before k)) m i (omega arith)) (lines-session m i (omega arith))

    -- once every house is passed nothing changes any more
    pub all-passed-stays : (i : ℕ) → H.count ≤ serves i → (k : ℕ) → before (i + k) ≡ before i
    unfolding after_lines
    all-passed-stays i h zero = let z : i + 0 ≡ i = omega arith in ap before z
    all-passed-stays i h (suc k) =
        let e : before (i + k) ≡ before i = all-passed-stays i h k in
        let z : i + suc k ≡ suc (i + k) = omega arith in
        ap before z ∙ line_none (i + k) (before (i + k)) (subst (λ S. H.count ≤ served_on G H S) (sym e) h) ∙ e

    module _ (some : 0 < H.count) where
      -- a house is next
      pub next-lt : (i : ℕ) → (before i).turns.next < H.count
      unfolding after_lines after_line
      next-lt zero = some
      next-lt (suc i) = split (ltb (serves i) H.count)
          (λ s. let h = ltb→lt (serves i) H.count s in rw (turns_taken H.count (serves i) (before i).turns h) (on-lt H.count (serves i) 1 h (omega arith)))
          (λ s. rw (turns-stay H.count (serves i) (before i).turns (nltb→le (serves i) H.count s)) (next-lt i))

      -- ---- no house exceeds its quota: the lines that served it, and what is left of it, make the quota

      pub quota_kept : (c : ℕ) → c < H.count → (m : ℕ) → count (λ i. eqb (serves i) c) (below m) + (before m).turns.left c ≡ quota c
      unfolding after_lines after_line
      quota_kept c b zero = omega (arith, count-below-zero (λ i. eqb (serves i) c))
      quota_kept c b (suc m) =
          let more = subst (λ z. count (λ i. eqb (serves i) c) (below z) ≡ count (λ i. eqb (serves i) c) (below m) + bit (eqb (serves m) c)) (add-one m) (count-below-more (λ i. eqb (serves i) c) m) in
          let t = (before m).turns in
          split (ltb (serves m) H.count)
          (λ s.
          let h = ltb→lt (serves m) H.count s in
          rw (turns_taken H.count (serves m) t h) (split (eqb (serves m) c)
          (λ q.
          let e = eqb→eq (serves m) c q in
          let left : 0 < t.left c = subst (λ z. 0 < t.left z) e (open_left H G.size (before m).session.anchors t (serves m) (served_open H G.size (before m).session.anchors t h)) in
          rw (true_of (eqb (serves m) c) q) (omega (arith, more, bit_yes (eqb (serves m) c) q, quota_kept c b m, left)))
          (λ q. rw (false_of (eqb (serves m) c) q) (omega (arith, more, bit_no (eqb (serves m) c) q, quota_kept c b m)))))
          (λ s.
          let h = nltb→le (serves m) H.count s in
          let nobody : T (not (eqb (serves m) c)) = not_T (eqb (serves m) c) (λ r. absurd (omega (arith, eqb→eq (serves m) c r))) in
          rw (turns-stay H.count (serves m) t h) (omega (arith, more, bit_no (eqb (serves m) c) nobody, quota_kept c b m)))

      pub quota_limits : (c : ℕ) → c < H.count → (m : ℕ) → count (λ i. eqb (serves i) c) (below m) ≤ quota c
      quota_limits c b m = omega (arith, quota_kept c b m)

      -- ---- there are enough lines: while a house is not to be passed, every line before took one from the quotas

      abbrev left_whole : ℕ → ℕ
      left_whole i = sum (before i).turns.left (below H.count)

      lines_taken : (m : ℕ) → ((i : ℕ) → i < m → serves i < H.count) → left_whole m + m ≡ line_count H quota
      unfolding after_lines after_line
      lines_taken zero f = omega arith
      lines_taken (suc m) f =
          let h = f m (omega arith) in
          let B = (before m).session.anchors in
          let t = (before m).turns in
          let one = sum_lowered t.left (serves m) (below H.count) (distinct-below H.count) ((in_below H.count (serves m)).1 h) (open_left H G.size B t (serves m) (served_open H G.size B t h)) in
          rw (turns_taken H.count (serves m) t h) (omega (arith, one, lines_taken m (λ i l. f i (omega arith))))

      all-served : (c m : ℕ) → c < H.count → waiting m c → (i : ℕ) → i < m → serves i < H.count
      all-served c m b o i l = split (ltb (serves i) H.count) (ltb→lt (serves i) H.count) (λ s.
          let h = nltb→le (serves i) H.count s in
          let e : i + (m - i) ≡ m = omega arith in
          let stays : before m ≡ before i = sym (ap before e) ∙ all-passed-stays i h (m - i) in
          let shut = all-passed H G.size (before i).session.anchors (before i).turns (next-lt i) h c b in
          absurd (T_not (is_passed H G.size (before m).session.anchors (before m).turns c) o
          (subst (λ S. T (is_passed H G.size S.session.anchors S.turns c)) (sym stays) shut)))

      pub lines_suffice : (c i : ℕ) → c < H.count → waiting i c → i < line_count H quota
      lines_suffice c i b o =
          omega (arith, lines_taken i (all-served c i b o), sum_term (before i).turns.left c (below H.count) ((in_below H.count c).1 b), open_left H G.size (before i).session.anchors (before i).turns c o)

      module _ (picks : Picks G H pick) where
        -- ---- a line that serves a house

        module _ (i : ℕ) (h : serves i < H.count) where
          abbrev B : ℕ → Bool
          B = (before i).session.anchors

          abbrev x : ℕ
          x = named G H pick i (before i)

          -- names a vertex of that house that is not anchored
          pub line_picks : (x < G.size) × T (free_in H B (serves i) x)
          line_picks = subst (λ z. (z < G.size) × T (free_in H B (serves i) z)) (sym (named_some i (before i) h))
              (picks i B (serves i) (open_free H G.size B (before i).turns (serves i) (served_open H G.size B (before i).turns h)))

          -- so its request is accepted
          pub line_accepted : status_of G B x ≡ 0
          line_accepted = (status-free G B x).1 (line_picks.0, and_r (eqb (H.house x) (serves i)) _ line_picks.1)

          -- another house that was not to be passed still is not
          line_keeps : (e : ℕ) → (serves i ≡ e → ⊥) → waiting i e → waiting (suc i) e
          unfolding is_passed after_lines after_line
          line_keeps e other o = rw (turns_taken H.count (serves i) (before i).turns h, turn-accepted G (before i).session x (suc i) line_accepted, ne_eqb (serves i) e other)
              (or-not (eqb ((before i).turns.left e) 0) _ (not-or (eqb ((before i).turns.left e) 0) _ o).0 (
              let free = free_in H (adding B x) e in
              let r = any-below-e (free_in H B e) G.size (open_free H G.size B (before i).turns e o) in
              let v = r.0 in
              let mine = and_l (eqb (H.house v) e) _ r.2 in
              not_T (not (any free (below G.size))) (λ q. T_not (any free (below G.size)) q
              (any-below_i free G.size v r.1 (and_i (eqb (H.house v) e) _ mine
              (not_T (adding B x v) (λ y. or-e (B v) _ y
              (T_not (B v) (and_r (eqb (H.house v) e) _ r.2))
              (λ z. other (sym (eqb→eq (H.house x) (serves i) (and_l (eqb (H.house x) (serves i)) _ line_picks.1)) ∙ ap H.house (eqb→eq x v z) ∙ eqb→eq (H.house v) e mine)))))))))

        -- ---- a house not to be passed is served within as many lines as there are houses

        -- the line that serves the house s turns on brings the house d turns on nearer
        nearer : (i s d : ℕ) → s < d → d ≤ H.count → serves i < H.count → serves i ≡ turns_after H.count (before i).turns.next s
            → turns_after H.count (before (suc i)).turns.next (d - s - 1) ≡ turns_after H.count (before i).turns.next d
        unfolding after_lines after_line
        nearer i s d l b low is =
            let from = (before i).turns.next in
            let here = next-lt i in
            let whole : s + 1 + (d - s - 1) ≡ d = omega arith in
            rw (turns_taken H.count (serves i) (before i).turns low) (
            ap (λ z. turns_after H.count (turns_after H.count z 1) (d - s - 1)) is
            ∙ ap (λ z. turns_after H.count z (d - s - 1)) (on-more H.count from s 1 here (omega arith))
            ∙ on-more H.count from (s + 1) (d - s - 1) here (omega arith)
            ∙ ap (turns_after H.count from) whole)

        Soon : ℕ → ℕ → Type 0
        Soon c d = (i : ℕ) → turns_after H.count (before i).turns.next d ≡ c → d < H.count → waiting i c → (j : ℕ) × (i ≤ j) × (j ≤ i + d) × (serves j ≡ c)

        sooner : (c d : ℕ) → ((e : ℕ) → e < d → Soon c e) → Soon c d
        unfolding Soon
        sooner c d ih i e b o =
            let B = (before i).session.anchors in
            let t = (before i).turns in
            let here = next-lt i in
            let s = skipped H G.size B t in
            let most : s ≤ d = skips-le H G.size B t here d (subst (λ z. T (not (is_passed H G.size B t z))) (sym e) o) in
            let h : s < H.count = omega arith in
            let is = served_is H G.size B t h in
            let low : serves i < H.count = omega (arith, is, on-lt H.count t.next s here (omega arith)) in
            ⊎_elim
            (λ q. (i, omega arith, omega arith, is ∙ ap (turns_after H.count t.next) q ∙ e))
            (λ l.
            let other : serves i ≡ c → ⊥ = λ q. on-apart H.count t.next s d here l b (sym is ∙ q ∙ sym e) in
            let r = ih (d - s - 1) (omega arith) (suc i) (nearer i s d l (omega arith) low is ∙ e) (omega arith) (line_keeps i low c other o) in
            (r.0, omega (arith, r.1), omega (arith, r.2), r.3))
            (eq-or-lt_of_le most)

        -- the line that serves it counted, and among the lines
        pub served-soon : (c i : ℕ) → c < H.count → waiting i c → (j : ℕ) × (i ≤ j) × (j < i + H.count) × (j < line_count H quota) × (serves j ≡ c)
        unfolding Soon
        served-soon c i b o =
            let r = turns_to H.count (before i).turns.next c (next-lt i) b in
            let f = strong (Soon c) (sooner c) r.0 i r.2 r.1 o in
            let j = f.0 in
            let low : serves j < H.count = omega (arith, f.3) in
            let within = lines_suffice (serves j) j low (served_open H G.size (before j).session.anchors (before j).turns low) in
            (j, f.1, omega (arith, f.2, r.1), within, f.3)

-- ---- picks that agree name, and leave, the same

module _ (G : Graph) (H : Houses) (pick pick' : ℕ → (ℕ → Bool) → ℕ → ℕ) (agree : (i : ℕ) (A : ℕ → Bool) (c : ℕ) → pick i A c ≡ pick' i A c) where
  pub named-same : (i : ℕ) (S : Sharing) → named G H pick i S ≡ named G H pick' i S
  unfolding named
  named-same i S = ap (λ x. cond (ltb (served_on G H S) H.count) x G.size) (agree i S.session.anchors (served_on G H S))

  pub lines_same : (quota : ℕ → ℕ) (A : ℕ → Bool) (i : ℕ) → after_lines G H pick quota A i ≡ after_lines G H pick' quota A i
  unfolding after_lines
  lines_same quota A zero = refl
  lines_same quota A (suc i) =
      let S = after_lines G H pick quota A i in
      let e = lines_same quota A i in
      ap₂ (after_line G H (suc i)) (named-same i S ∙ ap (named G H pick' i) e) e

-- ---- the real choice is one of these functions

pub house_picks : (G : Graph) (H : Houses) → Picks G H (house_choice G H)
unfolding house_choice
house_picks G H i A c s =
    let r = any-below-e (free_in H A c) G.size s in
    let low = choice_of-some G A (free_in H A c) r.0 r.1 r.2 in
    (low, choice_of_passes G A (free_in H A c) low)

-- ---- all that is claimed of the lines, for every such function

pub lines_fair : (G : Graph) (H : Houses) (pick : ℕ → (ℕ → Bool) → ℕ → ℕ) (quota : ℕ → ℕ) (A : ℕ → Bool) → 0 < H.count → Picks G H pick → Fair G H pick quota A
lines_fair G H pick quota A some picks = record {
  soon = served-soon G H pick quota A some picks;
  limited = quota_limits G H pick quota A some;
  accepted = λ i h.
      let S = after_lines G H pick quota A i in
      let x = named G H pick i S in
      (eqb→eq (H.house x) (served_on G H S) (and_l (eqb (H.house x) (served_on G H S)) _ (line_picks G H pick quota A some picks i h).1), line_accepted G H pick quota A some picks i h);
  session = lines-session G H pick quota A;
  ended = λ i e k.
      let stays = all-passed-stays G H pick quota A i (omega arith) k in
      named_none G H pick (i + k) (after_lines G H pick quota A (i + k)) (subst (λ S. H.count ≤ served_on G H S) (sym stays) (omega arith));
}
