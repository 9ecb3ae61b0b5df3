-- The lowest fault of one pass is the refusal that the tests give, each over the whole sheet. Assumes nothing.
use mathlib.Core.Path.{◌≡◌, refl, sym, ◌∙◌}
use mathlib.Core.Bool.{Bool, true, false, cond, ◌&&◌}
use Prim.Native.Nat.{ℕ, ◌+◌, ◌-◌, ◌≤◌, ◌<◌}
use native.Mathlib.Omega.{arith}
use lib.Dec.{leb, ltb, eqb, leb→le, nleb→lt, ltb→lt, nltb→le}
use borrow.Author.Count.{below_more}
use borrow.Author.Tests.{eq-eqb, ne_eqb, eqb-false}
use Rattle.finite.specs.Search.{NoneBelow}
use Rattle.finite.proofs.Tests.{split, true_of, false_of}
use Rattle.finite.proofs.Search.{first_hit}
use Rattle.table.specs.Guard.{refused, refuse}
use Rattle.std.specs.Prelude.{Some, Err}
use mathlib.Core.Logic.{inl, inr}
use Rattle.table.specs.Rule.{Refusal}
use Rattle.table.specs.Guard.{Guard}
use Rattle.table.specs.Guard.{clear}
use Rattle.table.proofs.Laws.{hit, pass}
use Rattle.anchored.specs.Graph.{Graph}
use Rattle.anchored.specs.Sheet.{support, misplaced, too_high, too_low, too_late}
use Rattle.level_sheet.specs.Faults.{IsNumbered, Lowest, fault_at}

-- ---- the pass

module _ (f : ℕ → ℕ) where
  pub lowest-none : Lowest f 0 65535 0
  lowest-none = record {
    small = omega arith;
    least = λ v h. absurd (omega arith);
    inside = λ h. absurd (omega arith);
    at_place = λ h. absurd (omega arith);
    before = λ h. absurd (omega arith);
  }

  module _ (n number place : ℕ) (low : Lowest f n number place) where
    -- the next value is lower
    pub lowest-take : f n < number → Lowest f (n + 1) (f n) n
    lowest-take h = record {
      small = omega (arith, low.small);
      least = below_more _ _ (λ v b. omega (arith, low.least v b)) (omega arith);
      inside = λ b. omega arith;
      at_place = λ b. refl;
      before = λ b v c. omega (arith, low.least v c);
    }

    -- the next value is not lower
    pub lowest-keep : number ≤ f n → Lowest f (n + 1) number place
    lowest-keep h = record {
      small = low.small;
      least = below_more _ _ low.least h;
      inside = λ b. omega (arith, low.inside b);
      at_place = low.at_place;
      before = low.before;
    }

-- ---- the tests

-- the answer that a fault gives
abbrev pub answer_by : ℕ → ℕ → Guard
answer_by number place = cond (eqb number 65535) clear (refused number place)

-- the tests that f numbers, all from low on, give the answer of its lowest value
pub record Numbered (low : ℕ) (f : ℕ → ℕ) (n : ℕ) (answer : Guard) : Type 0 where
  pub small : low ≤ 65535
  pub above : (v : ℕ) → low ≤ f v
  pub decides : (number place : ℕ) → Lowest f n number place → answer ≡ answer_by number place

-- without a test nothing is refused
pub numbered-none : (n : ℕ) → Numbered 65535 (λ v. 65535) n clear
numbered-none n = record {
  small = omega arith;
  above = λ v. omega arith;
  decides = λ number place lowest. split (leb 65535 number)
      (λ t. let e : number ≡ 65535 = omega (arith, leb→le 65535 number t, lowest.small) in rw (eq-eqb number 65535 e))
      (λ t. let h = nleb→lt 65535 number t in absurd (omega (arith, lowest.at_place h)));
}

-- one more test, of a lower number, before those
module _ (k low : ℕ) (p : ℕ → Bool) (f : ℕ → ℕ) (n : ℕ) (rest : Guard) (lower : k < low) (others : Numbered low f n rest) where
  abbrev g : ℕ → ℕ
  g v = cond (p v) k (f v)

  passed : (v : ℕ) → p v ≡ false → g v ≡ f v
  passed v e = rw e

  failed : (v : ℕ) → p v ≡ true → g v ≡ k
  failed v e = rw e

  -- a value above k is of a vertex that passes the test, any other of one that fails it
  above_passes : (v : ℕ) → k < g v → p v ≡ false
  above_passes v h = split (p v) (λ t. absurd (omega (arith, failed v (true_of (p v) t)))) (false_of (p v))

  upto_fails : (v : ℕ) → g v ≤ k → p v ≡ true
  upto_fails v h = split (p v) (true_of (p v)) (λ t. absurd (omega (arith, passed v (false_of (p v) t), others.above v)))

  above-k : (v : ℕ) → k ≤ g v
  above-k v = split (p v) (λ t. omega (arith, failed v (true_of (p v) t))) (λ t. omega (arith, passed v (false_of (p v) t), others.above v))

  module _ (number place : ℕ) (lowest : Lowest g n number place) where
    -- the lowest value is k: its place is the first vertex that fails the test
    found : number ≤ k → refuse k p n rest ≡ answer_by number place
    found h =
        let least : number < 65535 = omega (arith, others.small) in
        let at = lowest.at_place least in
        let inside = lowest.inside least in
        let e : number ≡ k = omega (arith, above-k place) in
        let none : NoneBelow p place = λ v b. above_passes v (omega (arith, lowest.before least v b)) in
        hit k p n rest (sym (first_hit p n place none inside (upto_fails place (omega arith)))) inside ∙ rw (e, ne_eqb k 65535 (λ q. omega arith))

    -- it is above k: nobody fails the test, and the values are those of f
    unfound : k < number → refuse k p n rest ≡ answer_by number place
    unfound h =
        let none : NoneBelow p n = λ v b. above_passes v (omega (arith, lowest.least v b)) in
        let same : (v : ℕ) → v < n → g v ≡ f v = λ v b. passed v (none v b) in
        pass k p n rest none ∙ others.decides number place record {
          small = lowest.small;
          least = λ v b. omega (arith, lowest.least v b, same v b);
          inside = lowest.inside;
          at_place = λ b. sym (same place (lowest.inside b)) ∙ lowest.at_place b;
          before = λ b v c. omega (arith, lowest.before b v c, same v (omega (arith, lowest.inside b)));
        }

  pub numbered_more : Numbered k g n (refuse k p n rest)
  numbered_more = record {
    small = omega (arith, others.small);
    above = above-k;
    decides = λ number place lowest. split (leb number k) (λ t. found number place lowest (leb→le number k t)) (λ t. unfound number place lowest (nleb→lt number k t));
  }

-- ---- the fault of one vertex, by the ways of the code

module _ (G : Graph) (A : ℕ → Bool) (lev lay : ℕ → ℕ) (v : ℕ) where
  pub out-of-place : misplaced G A lev lay v ≡ true → fault_at G A lev lay v ≡ 14
  out-of-place e = rw e

  module _ (placed : misplaced G A lev lay v ≡ false) where
    pub anchored-fits : A v ≡ true → fault_at G A lev lay v ≡ 65535
    unfolding too_high too_low too_late
    anchored-fits anchored = rw (placed, too_high, too_low, too_late, anchored)

    module _ (free : A v ≡ false) where
      free-fault : fault_at G A lev lay v
          ≡ cond (ltb (support G A lev lay v (lev v) 0) (lev v)) 19
          (cond (ltb (lev v) (support G A lev lay v (lev v) (lay v))) 20
          (cond (ltb 1 (lay v) && leb (support G A lev lay v (lev v) (lay v - 1)) (lev v)) 21 65535))
      unfolding too_high too_low too_late
      free-fault = rw (placed, too_high, too_low, too_late, free)

      pub free-layer : lay v ≡ 0 → ⊥
      unfolding misplaced
      free-layer = eqb-false (lay v) 0 (rw (misplaced, free) at placed)

-- the three counts of a vertex that is not anchored and whose entry is in place
pub record Counts (G : Graph) (A : ℕ → Bool) (lev lay : ℕ → ℕ) (v level pair before : ℕ) : Type 0 where
  pub placed : misplaced G A lev lay v ≡ false
  pub free : A v ≡ false
  pub in_level : level ≡ support G A lev lay v (lev v) 0
  pub in_pair : pair ≡ support G A lev lay v (lev v) (lay v)
  pub in_before : before ≡ support G A lev lay v (lev v) (lay v - 1)

-- they decide
pub counted : (G : Graph) (A : ℕ → Bool) (lev lay : ℕ → ℕ) (v level pair before : ℕ) → Counts G A lev lay v level pair before → fault_at G A lev lay v ≡ cond (ltb level (lev v)) 19 (cond (ltb (lev v) pair) 20 (cond (ltb 1 (lay v) && leb before (lev v)) 21 65535))
counted G A lev lay v level pair before counts = free-fault G A lev lay v counts.placed counts.free ∙ rw (counts.in_level, counts.in_pair, counts.in_before)

-- the next entry, by the fault that it has or not
pub lowest-next : (f : ℕ → ℕ) (n number place number' place' own : ℕ) → own ≡ f n → Lowest f n number place → number' ≡ cond (ltb own number) own number → place' ≡ cond (ltb own number) n place → Lowest f (n + 1) number' place'
lowest-next f n number place number' place' own is low en ep =
    split (ltb own number)
    (λ t. rw (en, ep, true_of (ltb own number) t, is) (lowest-take f n number place low (omega (arith, is, ltb→lt own number t))))
    (λ no. rw (en, ep, false_of (ltb own number) no) (lowest-keep f n number place low (omega (arith, is, nltb→le own number no))))

-- what a pass finds is the answer that its number gives
pub numbered-answer : (r : Refusal) → IsNumbered (Some r) → answer_by r.number r.place ≡ Err r
numbered-answer r (inl less) = rw (ne_eqb r.number 65535 (λ e. omega arith))
numbered-answer r (inr none) = cc
