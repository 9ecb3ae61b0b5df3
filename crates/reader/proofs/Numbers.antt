-- Laws of numbers in the text, and of the loop that reads one. Assumes nothing.
use mathlib.Core.Path.{◌≡◌, refl, sym, ap, ◌∙◌}
use mathlib.Core.Bool.{Bool, true, false, cond, ◌&&◌}
use mathlib.Core.List.{List, [], ◌∷◌}
use Prim.Native.Nat.{ℕ, zero, suc, ◌+◌, ◌*◌, ◌≤◌, ◌<◌}
use native.Mathlib.Omega.{arith}
use native.Mathlib.Numerals.{add-one}
use lib.ListN.{length, get_or, drop, get_or-eq_default}
use lib.Seq.{drop-cons, drop-nil}
use lib.Dec.{ltb, leb}
use borrow.Author.Tests.{lt-ltb, le-ltb, ltb-true, ltb-false, ne_eqb, lt-leb, le-leb, leb-true}
use Rattle.std.specs.Prelude.{Option, Some, None, slice_get, unwrap_or}
use Rattle.std.proofs.lemmas.Option.{some_pair_parts, unwrap_or-slice_get}
use Rattle.reader.specs.Number.{digit_of, digit_at, digit_found, digits, value, unpadded, number_of, number_at}

-- ---- digits

-- more digits never make a value smaller
pub value-le : (v : ℕ) (ds : List ℕ) → v ≤ value v ds
value-le v [] = omega arith
value-le v (d ∷ ds) = omega (arith, value-le (v * 10 + d) ds)

pub digit-past : (t : List ℕ) (p : ℕ) → length t ≤ p → digit_at t p ≡ 10
unfolding digit_at
digit-past t p h = rw (get_or-eq_default t 0 h)

-- a digit stands within the text
pub digit_in : (t : List ℕ) (p : ℕ) → digit_at t p < 10 → p < length t
digit_in t p h = go (ltb p (length t)) refl
  where
    go : (b : Bool) → ltb p (length t) ≡ b → p < length t
    go true e = ltb-true p (length t) e
    go false e = absurd (let z = digit-past t p (ltb-false p (length t) e) in omega arith)

digits_more : (t : List ℕ) (p : ℕ) → digit_at t p < 10 → digits (drop p t) ≡ digit_at t p ∷ digits (drop (p + 1) t)
unfolding digits digit_at
digits_more t p h = rw (add-one p, drop-cons t p 0 (digit_in t p h), lt-ltb (digit_of (get_or t p 0)) 10 h)

digits-none : (t : List ℕ) (p : ℕ) → 10 ≤ digit_at t p → digits (drop p t) ≡ []
unfolding digits digit_at
digits-none [] p h = rw drop-nil
digits-none (b ∷ bs) zero h = rw (le-ltb (digit_of b) 10 h)
digits-none (b ∷ bs) (suc p) h = digits-none bs p h

unpadded_lead : (d : ℕ) (ds : List ℕ) → (d ≡ 0 → ⊥) → unpadded (d ∷ ds) ≡ true
unpadded_lead d [] n = refl
unpadded_lead d (e ∷ ds) n = rw (ne_eqb d 0 n)

-- ---- a number by its first digits

pub number-none : (t : List ℕ) (p : ℕ) → 10 ≤ digit_at t p → number_at t p ≡ None
unfolding number_of
number-none t p h = rw (digits-none t p h)

pub number_leading : (t : List ℕ) (p : ℕ) → digit_at t p ≡ 0 → digit_at t (p + 1) < 10 → number_at t p ≡ None
unfolding number_of
number_leading t p e h = rw (digits_more t p (omega arith), digits_more t (p + 1) h, e)

pub number-zero : (t : List ℕ) (p : ℕ) → digit_at t p ≡ 0 → 10 ≤ digit_at t (p + 1) → number_at t p ≡ Some (0, p + 1)
unfolding number_of
number-zero t p e h = rw (digits_more t p (omega arith), digits-none t (p + 1) h, e)

-- ---- the digit found

-- a byte at a place of the text, or 0 where there is none
pub peeked : (t : List ℕ) (p : ℕ) (r : Option ℕ) → r ≡ slice_get t p → get_or t p 0 ≡ unwrap_or r 0
peeked t p r e = sym (unwrap_or-slice_get t p 0) ∙ ap (λ (o : Option ℕ). unwrap_or o 0) (sym e)

pub digit_is : (t : List ℕ) (p d : ℕ) → digit_found t p ≡ Some d → (digit_at t p ≡ d) × (d < 10)
digit_is t p d e = go (ltb (digit_at t p) 10) refl e
  where
    go : (b : Bool) → ltb (digit_at t p) 10 ≡ b → cond b (Some (digit_at t p)) None ≡ Some d → (digit_at t p ≡ d) × (d < 10)
    go true k e = let z : digit_at t p ≡ d = cc in (z, omega (arith, ltb-true (digit_at t p) 10 k))
    go false k e = absurd cc

pub digit-none : (t : List ℕ) (p : ℕ) → digit_found t p ≡ None → 10 ≤ digit_at t p
digit-none t p e = go (ltb (digit_at t p) 10) refl e
  where
    go : (b : Bool) → ltb (digit_at t p) 10 ≡ b → cond b (Some (digit_at t p)) None ≡ None → 10 ≤ digit_at t p
    go true k e = absurd cc
    go false k e = ltb-false (digit_at t p) 10 k

-- ---- the loop: the digits from place `at` up to p make v

pub record Scanning (t : List ℕ) (at p v : ℕ) : Type 0 where
  pub start : unpadded (digits (drop at t)) ≡ true
  pub total : value 0 (digits (drop at t)) ≡ value v (digits (drop p t))
  pub span : at + length (digits (drop at t)) ≡ p + length (digits (drop p t))
  pub small : v ≤ 65535
  pub inside : p ≤ length t

pub scanning_first : (t : List ℕ) (at v : ℕ) → digit_found t at ≡ Some v → (v ≡ 0 → ⊥) → Scanning t at (at + 1) v
scanning_first t at v e n =
    let d = digit_is t at v e in
    let m : digit_at t at < 10 = omega arith in
    let k = digits_more t at m in
    record {
      start = rw (k, d.0) (unpadded_lead v (digits (drop (at + 1) t)) n);
      total = rw (k, d.0) (ap (λ (w : ℕ). value w (digits (drop (at + 1) t))) (omega arith));
      span = rw k (omega arith);
      small = omega arith;
      inside = omega (arith, digit_in t at m);
    }

module _ (t : List ℕ) (at p v : ℕ) (r : Scanning t at p v) where
  pub scanning_more : (d : ℕ) → digit_found t p ≡ Some d → v * 10 + d ≤ 65535 → Scanning t at (p + 1) (v * 10 + d)
  scanning_more d e s =
      let i = digit_is t p d e in
      let m : digit_at t p < 10 = omega arith in
      let k = digits_more t p m in
      record {
        start = r.start;
        total = rw (← i.0) (rw k at r.total);
        span = let q = rw k at r.span in omega arith;
        small = s;
        inside = omega (arith, digit_in t p m);
      }

  pub scanning_over : (d : ℕ) → digit_found t p ≡ Some d → 65535 < v * 10 + d → number_at t at ≡ None
  unfolding number_of
  scanning_over d e s =
      let i = digit_is t p d e in
      let m : digit_at t p < 10 = omega arith in
      let q = rw (digits_more t p m) at r.total in
      let big : 65535 < value 0 (digits (drop at t)) = omega (arith, q, i.0, value-le (v * 10 + digit_at t p) (digits (drop (p + 1) t))) in
      rw (r.start, lt-leb _ _ big)

  pub scanning_done : digit_found t p ≡ None → number_at t at ≡ Some (v, p)
  unfolding number_of
  scanning_done e =
      let k = digits-none t p (digit-none t p e) in
      let q : value 0 (digits (drop at t)) ≡ v = rw k at r.total in
      let l : at + length (digits (drop at t)) ≡ p = let z = rw k at r.span in omega arith in
      rw (r.start, l, q, le-leb v 65535 r.small)

-- ---- what a number that was read is

-- its digits are unpadded, make it, and end at the place behind it
pub number_digits : (t : List ℕ) (p v c : ℕ) → number_at t p ≡ Some (v, c) → let ds = digits (drop p t) in (unpadded ds ≡ true) × (value 0 ds ≡ v) × (v ≤ 65535) × (p + length ds ≡ c)
unfolding number_of
number_digits t p v c e = go (unpadded ds) (leb (value 0 ds) 65535) refl refl e
  where
    ds : List ℕ
    ds = digits (drop p t)

    go : (x y : Bool) → unpadded ds ≡ x → leb (value 0 ds) 65535 ≡ y → cond {A = Option (ℕ × ℕ)} (x && y) (Some (value 0 ds, p + length ds)) None ≡ Some (v, c)
        → (unpadded ds ≡ true) × (value 0 ds ≡ v) × (v ≤ 65535) × (p + length ds ≡ c)
    go false y h k e = absurd cc
    go true false h k e = absurd cc
    go true true h k e =
        let parts = some_pair_parts (value 0 ds) v (p + length ds) c e in
        (h, parts.0, omega (arith, leb-true (value 0 ds) 65535 k, parts.0), parts.1)

-- it is at most 65,535
pub number_small : (t : List ℕ) (p v c : ℕ) → number_at t p ≡ Some (v, c) → v ≤ 65535
number_small t p v c e = (number_digits t p v c e).2

-- it ends behind its start
pub number-next : (t : List ℕ) (p v c : ℕ) → number_at t p ≡ Some (v, c) → p < c
number-next t p v c e = go (digits (drop p t)) (number_digits t p v c e).0 (number_digits t p v c e).3
  where
    go : (ds : List ℕ) → unpadded ds ≡ true → p + length ds ≡ c → p < c
    go [] h q = absurd cc
    go (d ∷ ds) h q = omega arith
