-- Laws of lists in the text, and of the loops that read the neighbors and the retained. Assumes nothing.
use mathlib.Core.Path.{◌≡◌, refl, sym, ap, ◌∙◌}
use mathlib.Core.Bool.{Bool, true, false, cond, ◌&&◌}
use mathlib.Core.List.{List, [], ◌∷◌}
use Prim.Native.Nat.{ℕ, zero, suc, ◌+◌, ◌*◌, ◌-◌, ◌≤◌, ◌<◌}
use native.Mathlib.Nat.{add-zero}
use native.Mathlib.Omega.{arith}
use native.Mathlib.Numerals.{add-one}
use lib.ListN.{length, get_or, drop, set, length-set, get_or-eq_default}
use lib.Seq.{sets, get_or-drop}
use lib.Dec.{ltb, leb, eqb}
use Rattle.std.specs.Prelude.{Option, Some, None, option_map, is_some}
use Rattle.std.specs.Bool.{⊤, then_some}
use Rattle.std.specs.Option.{option_or}
use borrow.Author.Tests.{ltb-true, ltb-false, eqb-true, eq-eqb, ne_eqb}
use Rattle.finite.specs.Search.{ascending}
use Rattle.finite.proofs.Search.{scans, ascending_scan}
use Rattle.reader.specs.Number.{number_at, on_number, placed}
use Rattle.reader.specs.Form.{begins, skip_at}
use Rattle.lines.specs.List.{Numbers, none, more, list_from, list_at, listed_of, first_beyond, or_beyond, ended, retained_of, anchor}
use Rattle.reader.proofs.Numbers.{number-next}

-- ---- the ways on from a place

pub space_in : (t : List ℕ) (p : ℕ) → get_or t p 0 ≡ 32 → p < length t
space_in t p e = go (ltb p (length t)) refl
  where
    go : (b : Bool) → ltb p (length t) ≡ b → p < length t
    go true k = ltb-true p (length t) k
    go false k = absurd (let z = get_or-eq_default t 0 (ltb-false p (length t) k) in omega arith)

-- two limits above what is left of the text give the same list
limits : (f g : ℕ) (t : List ℕ) (p : ℕ) → length t < f + p → length t < g + p → list_from f t p ≡ list_from g t p
unfolding list_from
limits zero zero t p h k = refl
limits zero (suc g) t p h k = sym (rw (ne_eqb (get_or t p 0) 32 (λ e. let z = space_in t p e in omega arith)))
limits (suc f) zero t p h k = rw (ne_eqb (get_or t p 0) 32 (λ e. let z = space_in t p e in omega arith))
limits (suc f) (suc g) t p h k =
    go (eqb (get_or t p 0) 32) (number_at t (p + 1)) refl
    (λ v c e. limits f g t c (omega (arith, number-next t (p + 1) v c e)) (omega (arith, number-next t (p + 1) v c e)))
  where
    go : (b : Bool) (m : Option (ℕ × ℕ)) → number_at t (p + 1) ≡ m → ((v c : ℕ) → number_at t (p + 1) ≡ Some (v, c) → list_from f t c ≡ list_from g t c)
        → cond b (on_number m (λ v next. more v (list_from f t next)) (none None)) (none (Some p)) ≡ cond b (on_number m (λ v next. more v (list_from g t next)) (none None)) (none (Some p))
    go false m e ih = refl
    go true None e ih = refl
    go true (Some (v, c)) e ih = ap (more v) (ih v c e)

-- without a space the list ends
pub list-end : (t : List ℕ) (p : ℕ) → (get_or t p 0 ≡ 32 → ⊥) → list_at t p ≡ none (Some p)
unfolding list_at list_from
list-end t p n = limits (suc (length t) - p) (suc (length t)) t p (omega arith) (omega arith) ∙ rw (ne_eqb (get_or t p 0) 32 n)

-- a space without a number departs
pub list_departs : (t : List ℕ) (p : ℕ) → get_or t p 0 ≡ 32 → number_at t (p + 1) ≡ None → list_at t p ≡ none None
unfolding list_at list_from
list_departs t p e b =
    let q = space_in t p e in
    limits (suc (length t) - p) (suc (length t)) t p (omega arith) (omega arith) ∙ rw (eq-eqb (get_or t p 0) 32 e, b)

-- a space with a number: the list goes on behind it
pub list-more : (t : List ℕ) (p v c : ℕ) → get_or t p 0 ≡ 32 → number_at t (p + 1) ≡ Some (v, c) → list_at t p ≡ more v (list_at t c)
unfolding list_at list_from
list-more t p v c e b =
    let q = space_in t p e in
    let w = number-next t (p + 1) v c b in
    limits (suc (length t) - p) (suc (length t)) t p (omega arith) (omega arith)
    ∙ rw (eq-eqb (get_or t p 0) 32 e, b) (ap (more v) (limits (length t) (suc (length t) - c) t c (omega arith) (omega arith)))

-- ---- what holds of a list, by the ways that it goes

module _ (t : List ℕ) (P : ℕ → Numbers → Type 0) (ends : (p : ℕ) → P p (none (Some p))) (departs : (p : ℕ) → P p (none None))
    (goes : (p v c : ℕ) (r : Numbers) → get_or t p 0 ≡ 32 → number_at t (p + 1) ≡ Some (v, c) → P c r → P p (more v r)) where
  list_by_limit : (f p : ℕ) → P p (list_from f t p)
  unfolding list_from
  list_by_limit zero p = ends p
  list_by_limit (suc f) p = go (eqb (get_or t p 0) 32) (number_at t (p + 1)) refl refl (λ c. list_by_limit f c)
    where
      go : (b : Bool) (m : Option (ℕ × ℕ)) → eqb (get_or t p 0) 32 ≡ b → number_at t (p + 1) ≡ m → ((c : ℕ) → P c (list_from f t c))
          → P p (cond b (on_number m (λ v next. more v (list_from f t next)) (none None)) (none (Some p)))
      go false m j k ih = ends p
      go true None j k ih = departs p
      go true (Some (v, c)) j k ih = goes p v c (list_from f t c) (eqb-true (get_or t p 0) 32 j) k (ih c)

  pub list_ind : (p : ℕ) → P p (list_at t p)
  unfolding list_at
  list_ind p = list_by_limit (suc (length t) - p) p

-- a list that ends takes two bytes or more for each number
pub list-long : (t : List ℕ) (p c : ℕ) → (list_at t p).next ≡ Some c → p + 2 * length (list_at t p).values ≤ c
list-long t p c =
    list_ind t (λ p r. r.next ≡ Some c → p + 2 * length r.values ≤ c)
    (λ p e. let z : p ≡ c = cc in omega arith)
    (λ p e. absurd cc)
    (λ p v d r s n ih e. omega (arith, ih e, number-next t (p + 1) v d n))
    p

-- ---- the test of the loops: a space is taken

begins_byte : (ys : List ℕ) → begins (32 ∷ []) ys ≡ eqb (get_or ys 0 0) 32
unfolding begins
begins_byte [] = refl
begins_byte (y ∷ ys) = go (eqb y 32)
  where
    go : (b : Bool) → b && true ≡ b
    go true = refl
    go false = refl

space_test : (t : List ℕ) (p : ℕ) → skip_at t p (32 ∷ []) ≡ cond (eqb (get_or t p 0) 32) (Some (p + 1)) None
space_test t p =
    let first : get_or (drop p t) 0 0 ≡ get_or t p 0 = get_or-drop p t 0 0 ∙ ap (λ (k : ℕ). get_or t k 0) (add-zero p) in
    rw (begins_byte (drop p t), first)

-- a space that was taken
pub space-taken : (t : List ℕ) (p q : ℕ) (r : Option ⊤) → is_some r ≡ true → option_map (λ _. q) r ≡ skip_at t p (32 ∷ []) → (get_or t p 0 ≡ 32) × (q ≡ p + 1)
space-taken t p q None s e = absurd cc
space-taken t p q (Some u) s e = go (eqb (get_or t p 0) 32) refl (e ∙ space_test t p)
  where
    go : (b : Bool) → eqb (get_or t p 0) 32 ≡ b → Some q ≡ cond b (Some (p + 1)) None → (get_or t p 0 ≡ 32) × (q ≡ p + 1)
    go true k e = let z : q ≡ p + 1 = cc in (eqb-true (get_or t p 0) 32 k, z)
    go false k e = absurd cc

-- and where none stands
pub space-none : (t : List ℕ) (p q : ℕ) (r : Option ⊤) → is_some r ≡ false → option_map (λ _. q) r ≡ skip_at t p (32 ∷ []) → get_or t p 0 ≡ 32 → ⊥
space-none t p q (Some u) s e h = absurd cc
space-none t p q None s e h =
    let off : None ≡ Some (p + 1) = e ∙ space_test t p ∙ rw (eq-eqb (get_or t p 0) 32 h) in
    absurd cc

-- ---- the loop over neighbors: the list from `at` on is read up to place p, and count links are there

pub record Linking (t before : List ℕ) (from at : ℕ) (links : List ℕ) (count p : ℕ) : Type 0 where
  pub stores : sets before from (list_at t at).values ≡ sets links count (list_at t p).values
  pub total : from + length (list_at t at).values ≡ count + length (list_at t p).values
  pub next : (list_at t at).next ≡ (list_at t p).next
  pub low : count ≤ p
  pub long : length links ≡ length before

module _ (t before : List ℕ) (from at : ℕ) (links : List ℕ) (count p : ℕ) (r : Linking t before from at links count p) where
  pub linking_more : (v c : ℕ) (links' : List ℕ) → get_or t p 0 ≡ 32 → number_at t (p + 1) ≡ Some (v, c) → links' ≡ set links count v → Linking t before from at links' (count + 1) c
  linking_more v c links' e n w =
      let m : list_at t p ≡ more v (list_at t c) = list-more t p v c e n in
      record {
        stores = rw (w, add-one count) (r.stores ∙ ap (λ (x : Numbers). sets links count x.values) m);
        total = let q = r.total ∙ ap (λ (x : Numbers). count + length x.values) m in omega arith;
        next = r.next ∙ ap (λ (x : Numbers). x.next) m;
        low = omega (arith, r.low, number-next t (p + 1) v c n);
        long = ap length w ∙ length-set links count v ∙ r.long;
      }

  pub linking_departs : get_or t p 0 ≡ 32 → number_at t (p + 1) ≡ None → (None ≡ listed_of from (list_at t at)) × (links ≡ sets before from (list_at t at).values)
  linking_departs e n =
      let m : list_at t p ≡ none None = list_departs t p e n in
      (rw (r.next ∙ ap (λ (x : Numbers). x.next) m), sym (r.stores ∙ ap (λ (x : Numbers). sets links count x.values) m))

  pub linking_done : (get_or t p 0 ≡ 32 → ⊥) → (Some (count, p) ≡ listed_of from (list_at t at)) × (links ≡ sets before from (list_at t at).values)
  linking_done n =
      let m : list_at t p ≡ none (Some p) = list-end t p n in
      let q : from + length (list_at t at).values ≡ count = let z = r.total ∙ ap (λ (x : Numbers). count + length x.values) m in omega arith in
      (rw (r.next ∙ ap (λ (x : Numbers). x.next) m, q), sym (r.stores ∙ ap (λ (x : Numbers). sets links count x.values) m))

-- ---- the loop over the retained: besides, the least number that still ascends, and the first number of n or more so far

-- a number of n or more found earlier, or else one found later
pub earlier_more : (beyond : Option ℕ) (n v : ℕ) (vs : List ℕ) → option_or beyond (first_beyond n (v ∷ vs)) ≡ option_or (or_beyond beyond n v) (first_beyond n vs)
earlier_more (Some b) n v vs = refl
earlier_more None n v vs = go (leb n v)
  where
    go : (b : Bool) → cond b (Some v) (first_beyond n vs) ≡ option_or (cond b (Some v) None) (first_beyond n vs)
    go true = refl
    go false = refl

-- the loop's step
pub earlier_step : (beyond : Option ℕ) (n v : ℕ) → option_or beyond (then_some (leb n v) v) ≡ or_beyond beyond n v
earlier_step (Some b) n v = refl
earlier_step None n v = go (leb n v)
  where
    go : (b : Bool) → then_some b v ≡ cond b (Some v) None
    go true = refl
    go false = refl

earlier-none : (beyond : Option ℕ) → option_or beyond None ≡ beyond
earlier-none (Some b) = refl
earlier-none None = refl

and_assoc : (a b c : Bool) → a && (b && c) ≡ (a && b) && c
and_assoc true b c = refl
and_assoc false b c = refl

pub record Anchoring (t before : List ℕ) (n at : ℕ) (anchored : List ℕ) (p : ℕ) (sorted : Bool) (least : ℕ) (beyond : Option ℕ) : Type 0 where
  pub bytes : anchor before (list_at t at).values ≡ anchor anchored (list_at t p).values
  pub order : ascending (list_at t at).values ≡ sorted && scans least (list_at t p).values
  pub first : first_beyond n (list_at t at).values ≡ option_or beyond (first_beyond n (list_at t p).values)
  pub next : (list_at t at).next ≡ (list_at t p).next
  pub long : length anchored ≡ length before

pub anchoring-first : (t anchored : List ℕ) (n at : ℕ) → Anchoring t anchored n at anchored at true 0 None
anchoring-first t anchored n at = record { bytes = refl; order = ascending_scan (list_at t at).values; first = refl; next = refl; long = refl }

module _ (t before : List ℕ) (n at : ℕ) (anchored : List ℕ) (p : ℕ) (sorted : Bool) (least : ℕ) (beyond : Option ℕ) (r : Anchoring t before n at anchored p sorted least beyond) where
  pub anchoring-more :
      (v c : ℕ) (anchored' : List ℕ) (sorted' : Bool) (beyond' : Option ℕ) → get_or t p 0 ≡ 32 → number_at t (p + 1) ≡ Some (v, c)
      → anchored' ≡ set anchored v 1 → sorted' ≡ sorted && leb least v → beyond' ≡ or_beyond beyond n v
      → Anchoring t before n at anchored' c sorted' (v + 1) beyond'
  anchoring-more v c anchored' sorted' beyond' e k stored kept found =
      let w : list_at t p ≡ more v (list_at t c) = list-more t p v c e k in
      let vs = (list_at t c).values in
      record {
        bytes = rw stored (r.bytes ∙ ap (λ (y : Numbers). anchor anchored y.values) w);
        order = rw kept (r.order ∙ ap (λ (y : Numbers). sorted && scans least y.values) w ∙ and_assoc sorted (leb least v) (scans (v + 1) vs));
        first = rw found (r.first ∙ ap (λ (y : Numbers). option_or beyond (first_beyond n y.values)) w ∙ earlier_more beyond n v vs);
        next = r.next ∙ ap (λ (y : Numbers). y.next) w;
        long = ap length stored ∙ length-set anchored v 1 ∙ r.long;
      }

  pub anchoring_departs : get_or t p 0 ≡ 32 → number_at t (p + 1) ≡ None → (None ≡ retained_of n (list_at t at)) × (anchored ≡ anchor before (list_at t at).values)
  anchoring_departs e k =
      let w : list_at t p ≡ none None = list_departs t p e k in (
        off (ascending (list_at t at).values) (list_at t at).next (r.next ∙ ap (λ (y : Numbers). y.next) w),
        sym (r.bytes ∙ ap (λ (y : Numbers). anchor anchored y.values) w),
      )
    where
      off : (a : Bool) (s : Option ℕ) → s ≡ None → None ≡ ended (first_beyond n (list_at t at).values) (cond a s None)
      off true s e = rw e
      off false s e = refl

  pub anchoring_done : (get_or t p 0 ≡ 32 → ⊥) → (placed (then_some sorted beyond) p ≡ retained_of n (list_at t at)) × (anchored ≡ anchor before (list_at t at).values)
  anchoring_done k =
      let w : list_at t p ≡ none (Some p) = list-end t p k in
      let next : (list_at t at).next ≡ Some p = r.next ∙ ap (λ (y : Numbers). y.next) w in
      let order : ascending (list_at t at).values ≡ sorted && true = r.order ∙ ap (λ (y : Numbers). sorted && scans least y.values) w in
      let first : first_beyond n (list_at t at).values ≡ beyond = r.first ∙ ap (λ (y : Numbers). option_or beyond (first_beyond n y.values)) w ∙ earlier-none beyond in
      (rw (order, next, first) (by_order sorted), sym (r.bytes ∙ ap (λ (y : Numbers). anchor anchored y.values) w))
    where
      by_order : (b : Bool) → placed (then_some b beyond) p ≡ ended beyond (cond (b && true) (Some p) None)
      by_order true = refl
      by_order false = refl
