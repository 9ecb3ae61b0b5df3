-- Laws of constant bytes in the text and of the forms around a number. Assumes nothing.
use mathlib.Core.Path.{◌≡◌, refl}
use mathlib.Core.Bool.{Bool, true, false, cond, ◌&&◌}
use mathlib.Core.List.{List, [], ◌∷◌}
use Prim.Native.Nat.{ℕ, ◌+◌, ◌≤◌, ◌<◌}
use native.Mathlib.Omega.{arith}
use lib.ListN.{length, take, drop, length-drop}
use lib.Dec.{eqb}
use Rattle.std.specs.Prelude.{Option, Some, None}
use Rattle.std.proofs.lemmas.Option.{some_pair_parts}
use Rattle.std.specs.Cmp.Lexicographic.{pointwise}
use Rattle.finite.proofs.Tests.{eqb_sym}
use Rattle.reader.specs.Number.{number_at, on_number}
use Rattle.reader.specs.Form.{begins, skip_at, on_next, form_at}
use Rattle.reader.proofs.Numbers.{number-next}

-- ---- the test of the code

-- a text begins with bytes where its front is them
pub begins_front : (bs t : List ℕ) → pointwise eqb bs (take (length bs) t) ≡ begins bs t
unfolding begins
begins_front [] t = refl
begins_front (b ∷ bs) [] = refl
begins_front (b ∷ bs) (y ∷ t) = rw (eqb_sym b y, begins_front bs t)

-- ---- where constant bytes and forms end

begins-length : (xs ys : List ℕ) → begins xs ys ≡ true → length xs ≤ length ys
unfolding begins
begins-length [] ys e = omega arith
begins-length (x ∷ xs) [] e = absurd cc
begins-length (x ∷ xs) (y ∷ ys) e = go (eqb y x) (λ k. begins-length xs ys k) e
  where
    go : (b : Bool) → (begins xs ys ≡ true → length xs ≤ length ys) → b && begins xs ys ≡ true → length (x ∷ xs) ≤ length (y ∷ ys)
    go true ih e = omega (arith, ih e)
    go false ih e = absurd cc

-- bytes that were found: the text goes on behind them
pub skip_found : (t : List ℕ) (p : ℕ) (bs : List ℕ) (c : ℕ) → skip_at t p bs ≡ Some c → (begins bs (drop p t) ≡ true) × (p + length bs ≡ c)
skip_found t p bs c e = go (begins bs (drop p t)) refl e
  where
    go : (b : Bool) → begins bs (drop p t) ≡ b → cond b (Some (p + length bs)) None ≡ Some c → (begins bs (drop p t) ≡ true) × (p + length bs ≡ c)
    go true k e = let z : p + length bs ≡ c = cc in (k, z)
    go false k e = absurd cc

-- past some bytes the text is not over
pub skip_in : (t : List ℕ) (p x : ℕ) (xs : List ℕ) (c : ℕ) → skip_at t p (x ∷ xs) ≡ Some c → (p < c) × (c ≤ length t)
skip_in t p x xs c e =
    let f = skip_found t p (x ∷ xs) c e in
    let h = begins-length (x ∷ xs) (drop p t) f.0 in
    (omega (arith, f.1), omega (arith, f.1, length-drop p t))

-- a form that was read, by its parts
pub record FormParts (t : List ℕ) (p : ℕ) (head tail : List ℕ) (v c : ℕ) : Type 0 where
  pub first : ℕ
  pub last : ℕ
  pub opened : skip_at t p head ≡ Some first
  pub number : number_at t first ≡ Some (v, last)
  pub closed : skip_at t last tail ≡ Some c

pub form_parts : (t : List ℕ) (p : ℕ) (head tail : List ℕ) (v c : ℕ) → form_at t p head tail ≡ Some (v, c) → FormParts t p head tail v c
unfolding form_at
form_parts t p head tail v c e = opening (skip_at t p head) refl e
  where
    closing : (first w last : ℕ) → skip_at t p head ≡ Some first → number_at t first ≡ Some (w, last) → (s : Option ℕ) → skip_at t last tail ≡ s
        → on_next {A = Option (ℕ × ℕ)} s (λ next. Some (w, next)) None ≡ Some (v, c) → FormParts t p head tail v c
    closing first w last h k None q e = absurd cc
    closing first w last h k (Some d) q e =
        let parts = some_pair_parts w v d c e in
        record { first = first; last = last; opened = h; number = rw parts.0 at k; closed = rw parts.1 at q }

    number : (first : ℕ) → skip_at t p head ≡ Some first → (m : Option (ℕ × ℕ)) → number_at t first ≡ m
        → on_number m (λ v last. on_next {A = Option (ℕ × ℕ)} (skip_at t last tail) (λ next. Some (v, next)) None) None ≡ Some (v, c) → FormParts t p head tail v c
    number first h None k e = absurd cc
    number first h (Some (w, last)) k e = closing first w last h k (skip_at t last tail) refl e

    opening : (s : Option ℕ) → skip_at t p head ≡ s
        → on_next s (λ first. on_number (number_at t first) (λ v last. on_next {A = Option (ℕ × ℕ)} (skip_at t last tail) (λ next. Some (v, next)) None) None) None ≡ Some (v, c)
        → FormParts t p head tail v c
    opening None h e = absurd cc
    opening (Some first) h e = number first h (number_at t first) refl e

-- it ends behind its start, within the text
pub form_in : (t : List ℕ) (p x : ℕ) (xs : List ℕ) (y : ℕ) (ys : List ℕ) (v c : ℕ) → form_at t p (x ∷ xs) (y ∷ ys) ≡ Some (v, c) → (p < c) × (c ≤ length t)
form_in t p x xs y ys v c e =
    let f = form_parts t p (x ∷ xs) (y ∷ ys) v c e in
    let a = skip_in t p x xs f.first f.opened in
    let b = number-next t f.first v f.last f.number in
    let d = skip_in t f.last y ys c f.closed in
    (omega arith, d.1)
