-- The numbers of answers for Rust and C: those of the answers that they stand for, and 0 for no refused session. Assumes nothing.
use mathlib.Core.Path.{◌≡◌, refl, ap, ◌∙◌}
use mathlib.Core.Bool.{Bool, true, false, not, cond}
use mathlib.Core.List.{List}
use Prim.Native.Nat.{ℕ}
use native.Mathlib.Omega.{arith}
use lib.ListN.{length, get_or}
use lib.Dec.{ltb, eqb}
use Rattle.table.specs.Table.{vertices}
use Rattle.table.specs.declared.size.Size.{Size}
use Rattle.table.specs.Guard.{refused, refuse, number_of, answer}
use Rattle.table.specs.Guard.{Guard}
use Rattle.table.specs.Guard.{clear}
use Rattle.std.specs.Prelude.{Result, Ok, Err}
use Rattle.table.specs.Rule.{Refusal}
use Rattle.table.proofs.Guards.{answer_as}
use Rattle.table.proofs.Numbers.{Between, between_sound, between_next, between_found, between_past, zero-sound}
use Rattle.edit.specs.Lent.{check_lent}
use Rattle.edit.proofs.Checked.{between_lent}
use Rattle.session.specs.Run.{admit_run}
use Rattle.level_sheet.specs.SheetCheck.{number_in}
use Rattle.numbers.specs.declared.Answer.{Answer}
use Rattle.numbers.specs.Numbers.{told_as, levels_as, accepted_as, refused_as}

-- of an operation's answer: those of the accepted call, or of the refusal
pub told : {T : Type 0} (accepted : T → Answer) {call : Result T Refusal} {numbers : Answer} (guard : Guard) (x : T) → numbers ≡ told_as accepted call → call ≡ answer guard (Ok x) Err
    → numbers ≡ answer guard (accepted x) refused_as
told accepted guard x e f = e ∙ ap (told_as accepted) f ∙ answer_as (told_as accepted) guard (Ok x) Err

-- of the check of a level sheet
pub number_is : (c : Result Size Refusal) → (levels_as c).number ≡ number_in c
number_is (Ok size) = refl
number_is (Err r) = refl

-- a session's refusals have the numbers 1 to 12
between_run : (s l given : List ℕ) (m : ℕ) (matches fits : Bool) → Between 1 12 (admit_run s l given m matches fits)
unfolding admit_run
between_run s l given m matches fits =
    let n = vertices s in
    let room = cond fits clear (refused 12 0) in
    let few = cond (ltb 4096 m) (refused 11 0) room in
    let bytes = refuse 10 (λ v. ltb 1 (get_or given v 0)) n few in
    let events = cond (not matches) (refused 9 0) bytes in
    between_past 1 12 (check_lent s l) (cond (not (eqb (length given) n)) (refused 9 0) events) (between_lent 1 12 s l (omega arith) (omega arith))
    (between_next 1 12 (not (eqb (length given) n)) 9 0 events (omega arith) (omega arith)
    (between_next 1 12 (not matches) 9 0 bytes (omega arith) (omega arith)
    (between_found 1 12 10 (λ v. ltb 1 (get_or given v 0)) n few (omega arith) (omega arith)
    (between_next 1 12 (ltb 4096 m) 11 0 room (omega arith) (omega arith) (lent fits)))))
  where
    lent : (b : Bool) → Between 1 12 (cond b clear (refused 12 0))
    lent true = between_sound 1 12
    lent false = λ r e. let q : 12 ≡ r.number = cc in omega arith

-- a session that answers 0 was not refused
pub run_numbered : (s l given : List ℕ) (m : ℕ) (matches fits : Bool) (size : Size) → (answer (admit_run s l given m matches fits) (accepted_as 0 0 size) refused_as).number ≡ 0 → admit_run s l given m matches fits ≡ clear
unfolding answer
run_numbered s l given m matches fits size e = let guard = admit_run s l given m matches fits in zero-sound guard 12 (between_run s l given m matches fits) (number-of guard ∙ e)
  where
    number-of : (g : Guard) → number_of g ≡ (answer g (accepted_as 0 0 size) refused_as).number
    number-of (Ok tt) = refl
    number-of (Err r) = refl
