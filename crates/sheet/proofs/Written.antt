-- Laws of writing into lent bytes. Assumes nothing.
use mathlib.Core.Path.{◌≡◌, refl, ap, ◌∙◌, subst}
use mathlib.Core.List.{List, [], ◌∷◌, ◌++◌, append_assoc}
use Prim.Native.Nat.{ℕ, ◌+◌, ◌≤◌}
use native.Mathlib.Numerals.{add-one}
use native.Mathlib.Omega.{arith}
use lib.ListN.{length, take, drop, length-append}
use lib.Seq.{sets, sets-eq, length-sets}
use Rattle.finite.specs.Count.{tabulate}
use Rattle.finite.proofs.Stores.{sets-append}
use Rattle.sheet.specs.Written.{Written}

-- what is written may be said otherwise
pub written_as : {o : List ℕ} {a : ℕ} {xs ys o₁ : List ℕ} {a₁ : ℕ} → xs ≡ ys → Written o a xs o₁ a₁ → Written o a ys o₁ a₁
written_as {o} {a} {xs} {ys} {o₁} {a₁} e p = subst (λ t. Written o a t o₁ a₁) e p

module _ {o : List ℕ} {a : ℕ} {xs o₁ : List ℕ} {a₁ : ℕ} (p : Written o a xs o₁ a₁) where
  pub written-length : length o₁ ≡ length o
  written-length = ap length p.stored ∙ length-sets o a xs

  -- a text written behind another: both are one text
  pub written_then : {ys o₂ : List ℕ} {a₂ : ℕ} → Written o₁ a₁ ys o₂ a₂ → Written o a (xs ++ ys) o₂ a₂
  written_then {ys} {o₂} {a₂} q =
      record {
        stored = q.stored ∙ rw (p.stored, p.ends) (sets-append o a xs ys);
        ends = omega (arith, q.ends, p.ends, length-append xs ys);
      }

  -- the bytes before the text, the text, the bytes behind it
  pub written_parts : a + length xs ≤ length o → o₁ ≡ take a o ++ xs ++ drop a₁ o
  written_parts h = p.stored ∙ sets-eq xs o a h ∙ rw p.ends

-- a text written from the first place on stands at the front
pub written-front : {o xs o₁ : List ℕ} {a₁ : ℕ} → Written o 0 xs o₁ a₁ → length xs ≤ length o → (a₁ ≡ length xs) × (o₁ ≡ xs ++ drop (length xs) o)
written-front {xs = xs} {a₁ = a₁} p h = let z : a₁ ≡ length xs = omega (arith, p.ends) in (z, written_parts p (omega arith) ∙ rw z)

module _ (f : ℕ → ℕ) where
  -- a loop that writes f 0, f 1, .. one behind the other: nothing written, one more written
  pub written_none : {o : List ℕ} {a : ℕ} → Written o a (tabulate f 0) o a
  unfolding tabulate
  written_none = record { stored = refl; ends = omega arith }

  pub written_more : (i : ℕ) {o o₁ o₂ : List ℕ} {a a₁ a₂ : ℕ} → Written o a (tabulate f i) o₁ a₁ → Written o₁ a₁ (f i ∷ []) o₂ a₂ → Written o a (tabulate f (i + 1)) o₂ a₂
  unfolding tabulate
  written_more i p q = rw add-one (written_then p q)
