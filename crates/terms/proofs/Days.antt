-- The bytes of a day, one term after the other; the next end; the loop over the days. Assumes nothing.
use mathlib.Core.Path.{◌≡◌, refl, sym, ap, ◌∙◌, subst, fun_ext}
use mathlib.Core.Bool.{Bool, true, false, cond, ◌&&◌, ◌||◌, or-false, and-false}
use mathlib.Core.List.{List}
use Prim.Native.Nat.{ℕ, suc, ◌+◌, ◌-◌, ◌≤◌, ◌<◌}
use native.Mathlib.Omega.{arith}
use lib.ListN.{length, get_or, set, replicate, length-set, length-replicate}
use lib.Dec.{ltb, eqb, ltb→lt, lt→ltb, nltb→le}
use borrow.Author.Count.{below_more}
use borrow.Author.Tests.{lt-ltb, le-ltb}
use Rattle.std.specs.Prelude.{Some, None}
use Rattle.finite.specs.Count.{In, bit, below}
use Rattle.finite.specs.Search.{any, first_from, NoneFrom}
use Rattle.finite.proofs.Tests.{and_l, and_r, nand, split, true_of, false_of}
use Rattle.finite.proofs.Count.{at_in, in_at, bit_le, bit-one, zeros-at, set_reads}
use Rattle.finite.proofs.Search.{any-below-zero, any-below-more, member_yes, member_no, from_hit, from-none}
use Rattle.table.specs.Table.{SoundTable}
use Rattle.anchored.specs.Terms.{Terms, ends_on, next_end, runs, runs_for, anchored_on}
use Rattle.pool.specs.Input.{anchored_by, Admitted}
use Rattle.terms.specs.Days.{Shows, Nearest, day_before}

module _ (t : Terms) (day : ℕ) where
  abbrev vertex : ℕ → ℕ
  vertex i = get_or t.vertices i 0

  pub shows_start : Shows t day (replicate 1024 0) 0
  shows_start = record { long = length-replicate {A = ℕ} 1024 0; marks = λ v. zeros-at 1024 v ∙ ap bit (sym (any-below-zero (runs_for t day v))) }

  module _ (bytes : List ℕ) (i : ℕ) (shows : Shows t day bytes i) where
    -- one term more, whether it runs or not
    more : (b : Bool) → runs t day i ≡ b → (v : ℕ) → any (runs_for t day v) (below (i + 1)) ≡ any (runs_for t day v) (below i) || (eqb (vertex i) v && b)
    more b e v = any-below-more (runs_for t day v) i ∙ ap (λ z. any (runs_for t day v) (below i) || (eqb (vertex i) v && z)) e

    -- the term runs: its vertex is marked
    pub shows_yes : vertex i < 1024 → runs t day i ≡ true → Shows t day (set bytes (vertex i) 1) (i + 1)
    shows_yes small e = record {
      long = length-set bytes (vertex i) 1 ∙ shows.long;
      marks = λ v.
          set_reads bytes (vertex i) 1 v (λ q. omega (arith, shows.long)) ∙ ap (cond (eqb (vertex i) v) 1) (shows.marks v)
          ∙ by_case (eqb (vertex i) v) (any (runs_for t day v) (below i)) ∙ ap bit (sym (more true e v));
    }
      where
        by_case : (a b : Bool) → cond a 1 (bit b) ≡ bit (b || (a && true))
        by_case true true = refl
        by_case true false = refl
        by_case false true = refl
        by_case false false = refl

    -- it does not: nothing changes
    pub shows_no : runs t day i ≡ false → Shows t day bytes (i + 1)
    shows_no e = record {
      long = shows.long;
      marks = λ v.
          let before = any (runs_for t day v) (below i) in
          shows.marks v ∙ ap bit (sym (more false e v ∙ ap (λ z. before || z) (and-false (eqb (vertex i) v)) ∙ or-false before));
    }

  -- all terms: the anchors of the day
  module _ (bytes : List ℕ) (shows : Shows t day bytes (length t.vertices)) where
    pub shows_anchors : anchored_by bytes ≡ anchored_on t day
    unfolding anchored_on
    shows_anchors = fun_ext (λ v. ap (λ m. eqb m 1) (shows.marks v) ∙ bit-one (any (runs_for t day v) (below (length t.vertices))))

    pub shows_admitted : (s l : List ℕ) → SoundTable s l → Admitted s l bytes
    shows_admitted s l table = record {
      table = table;
      long = omega (arith, table.small, shows.long);
      bytes = λ v b. subst (λ z. z ≤ 1) (sym (shows.marks v)) (bit_le (any (runs_for t day v) (below (length t.vertices))));
    }

-- ---- the next end

module _ (es : List ℕ) (day until : ℕ) (h : day < until) where
  pub nearest_start : Nearest es day until 0 until
  nearest_start = record { after = h; upto = omega arith; least = λ i b. absurd (omega arith); one = λ b. absurd (omega arith) }

  -- one end more: it is nearer, or it is not
  pub nearest_more : (m r next : ℕ) → Nearest es day until m r → next ≡ cond (ltb day (get_or es m 0) && ltb (get_or es m 0) r) (get_or es m 0) r → Nearest es day until (m + 1) next
  nearest_more m r next near e =
      let end = get_or es m 0 in
      let nearer = ltb day end && ltb end r in
      split nearer
      (λ s.
      let later = ltb→lt day end (and_l (ltb day end) (ltb end r) s) in
      let sooner = ltb→lt end r (and_r (ltb day end) (ltb end r) s) in
      let is : next ≡ end = e ∙ rw (true_of nearer s) in
      record {
        after = omega arith;
        upto = omega (arith, near.upto);
        least = below_more (λ i. day < get_or es i 0 → next ≤ get_or es i 0) m (λ i b d. omega (arith, near.least i b d)) (λ d. omega arith);
        one = λ b. (m, omega arith, sym is);
      })
      (λ s.
      let is : next ≡ r = e ∙ rw (false_of nearer s) in
      record {
        after = omega (arith, near.after);
        upto = omega (arith, near.upto);
        least = below_more (λ i. day < get_or es i 0 → next ≤ get_or es i 0) m (λ i b d. omega (arith, near.least i b d))
            (λ d. omega (arith, nltb→le end r (nand (ltb day end) (ltb end r) s (lt→ltb day end d))));
        one = λ b. let found = near.one (omega arith) in (found.0, omega (arith, found.1), found.2 ∙ sym is);
      })

  -- all ends: the first day on which a term ends
  pub nearest_next : (r : ℕ) → Nearest es day until (length es) r → r ≡ next_end es day until
  unfolding next_end
  nearest_next r near =
      let none : NoneFrom (ends_on es) (suc day) r = λ d lo hi. member_no d es (λ i.
      let found = at_in es d 0 i in
      omega (arith, near.least found.0 found.1 (omega (arith, found.2)), found.2)) in
      sym (split (ltb r until)
      (λ s.
      let found = near.one (ltb→lt r until s) in
      from_hit (ends_on es) (until - suc day) (suc day) r near.after (omega (arith, near.after, ltb→lt r until s)) none
      (member_yes r es (subst (λ z. In z es) found.2 (in_at es found.0 0 found.1))))
      (λ s.
      let end : suc day + (until - suc day) ≡ r = omega (arith, near.after, near.upto, nltb→le r until s) in
      from-none (ends_on es) (until - suc day) (suc day) (λ d lo hi. none d lo (omega arith)) ∙ end))

-- ---- the loop over the days

module _ (p : ℕ → Bool) (from until day : ℕ) (lo : from ≤ day) (none : NoneFrom p from day) where
  pub found_day : day < until → p day ≡ true → day_before until (first_from p (until - from) from) ≡ Some day
  found_day hi hit = rw (from_hit p (until - from) from day lo (omega arith) none hit, lt-ltb day until hi)

  pub no_day : until ≤ day → day_before until (first_from p (until - from) from) ≡ None
  no_day done =
      let past : until ≤ first_from p (until - from) from = omega (arith, from-none p (until - from) from (λ d a b. none d a (omega arith))) in
      rw (le-ltb (first_from p (until - from) from) until past)
