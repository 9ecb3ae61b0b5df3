-- What follows on a guard. Assumes nothing.
use mathlib.Core.Path.{◌≡◌, refl, sym, ap, ◌∙◌}
use Prim.Native.Nat.{ℕ}
use native.Mathlib.Omega.{arith}
use Rattle.table.specs.Guard.{answer, past}
use Rattle.table.specs.Rule.{Refusal}
use Rattle.table.specs.Guard.{Guard}
use Rattle.table.specs.Guard.{clear}
use Rattle.std.specs.Prelude.{Result, Ok, Err}

module _ {X : Type 0} (accepted : X) (hand : Refusal → X) {guard : Guard} where
  -- a refusal is handed on
  pub handed : {r : Refusal} → guard ≡ Err r → answer guard accepted hand ≡ hand r
  unfolding answer
  handed e = rw e

  -- where nothing is refused the accepted answer stands
  pub cleared : guard ≡ clear → answer guard accepted hand ≡ accepted
  unfolding answer
  cleared e = rw e

-- what passes two guards passes each
pub both-passed : (first next : Guard) → past first next ≡ clear → (first ≡ clear) × (next ≡ clear)
unfolding answer
both-passed (Ok tt) next e = (refl, e)
both-passed (Err r) next e = let z : ◌≡◌ {A = ℕ} 0 1 = cc in absurd (omega arith)

-- of three guards one after the other it does not matter which two are taken together
pub past-past : (first next last : Guard) → past (past first next) last ≡ past first (past next last)
unfolding answer
past-past (Ok tt) next last = refl
past-past (Err r) next last = refl

-- an answer that no refusal gives is the accepted one
pub accepted_only : {X : Type 0} (guard : Guard) (accepted : X) (hand : Refusal → X) {given : X} → ((r : Refusal) → hand r ≡ given → ⊥) → answer guard accepted hand ≡ given
    → (guard ≡ clear) × (accepted ≡ given)
unfolding answer
accepted_only (Ok tt) accepted hand other e = (refl, e)
accepted_only (Err r) accepted hand other e = absurd (other r e)

-- an answer read otherwise is read so in both cases
pub answer_as : {X Y : Type 0} (f : X → Y) (guard : Guard) (accepted : X) (hand : Refusal → X) → f (answer guard accepted hand) ≡ answer guard (f accepted) (λ r. f (hand r))
unfolding answer
answer_as f (Ok tt) accepted hand = refl
answer_as f (Err r) accepted hand = refl

-- the accepted answer matters only where nothing is refused
pub accepted-as : {X : Type 0} (guard : Guard) {accepted other : X} (hand : Refusal → X) → (guard ≡ clear → accepted ≡ other) → answer guard accepted hand ≡ answer guard other hand
unfolding answer
accepted-as (Ok tt) hand same = same refl
accepted-as (Err x) hand same = refl

-- where `?` hands a refusal on
pub exit : {T : Type 0} (out : Result T Refusal) (guard : Guard) (accepted : Result T Refusal) {told : Guard} {r : Refusal} → told ≡ guard → told ≡ Err r → (x : Refusal) × (out ≡ Err x) × (x ≡ r) → out ≡ answer guard accepted Err
exit out guard accepted tells was left = left.1 ∙ ap Err left.2 ∙ sym (handed accepted Err (sym tells ∙ was))

-- and where it goes on
pub goes_on : {guard told : Guard} → told ≡ guard → told ≡ clear → guard ≡ clear
goes_on tells was = sym tells ∙ was

-- what two equal answers accept is equal
pub same-ok : {T : Type 0} {x y : T} → ◌≡◌ {A = Result T Refusal} (Ok x) (Ok y) → x ≡ y
same-ok e = cc
