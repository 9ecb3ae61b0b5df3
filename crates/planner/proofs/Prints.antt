-- What is printed: the sheet, or the line of the refusal, and no byte more. Assumes nothing.
use mathlib.Core.Path.{◌≡◌, sym, ap, ◌∙◌}
use mathlib.Core.List.{List}
use Prim.Native.Nat.{ℕ, ◌+◌, ◌^◌, ◌≤◌, ◌<◌}
use native.Mathlib.Omega.{arith}
use lib.ListN.{length, take, drop, length-append}
use lib.Seq.{take-append_seam}
use Rattle.std.specs.Prelude.{Result, Ok, Err}
use Rattle.table.specs.Guard.{held, front}
use Rattle.table.specs.Rule.{Refusal}
use Rattle.table.proofs.Guards.{handed, cleared}
use Rattle.sheet.specs.Line.{refused_line}
use Rattle.sheet.specs.Written.{Written}
use Rattle.sheet.proofs.Written.{written-front}
use Rattle.sheet.proofs.Lines.{refused-length}
use Rattle.answer.specs.Answer.{text_of, answer_of, sheet_of_text, printed}
use Rattle.answer.proofs.Answers.{sheet_answer, refused-answer}

-- so many bytes of a list can be taken
abbrev Counts : ℕ → List ℕ → Type 0
Counts k xs = (k ≤ length xs) × (k ≡ length (take k xs))

-- a text at the front is taken whole
taken_whole : (xs before : List ℕ) {new : List ℕ} {k : ℕ} → k ≡ length xs → new ≡ front xs before → Counts k new × (take k new ≡ xs)
taken_whole xs before {new} {k} q e =
    let rest = drop (length xs) before in
    let same : take k new ≡ xs = rw (e, q) (take-append_seam xs rest) in
    let whole : length new ≡ length xs + length rest = ap length e ∙ length-append xs rest in
    ((omega arith, q ∙ sym (ap length same)), same)

module _ (t old : List ℕ) {r : Result ℕ Refusal} {bytes : List ℕ} (answer : r ≡ answer_of t (length old))
    (lent : bytes ≡ held (text_of t (length old)) (front (sheet_of_text t) old) old) where
  pub sheet_printed : {size : ℕ} → r ≡ Ok size → Counts size bytes × (take size bytes ≡ printed (answer_of t (length old)) (sheet_of_text t))
  sheet_printed e =
      let a = sym answer ∙ e in
      let granted = sheet_answer t (length old) a in
      let whole = taken_whole (sheet_of_text t) old (sym granted.1) (lent ∙ cleared _ _ granted.0) in
      (whole.0, rw a whole.1)

  pub refusal_printed : {new : List ℕ} {x : Refusal} {end : ℕ} → r ≡ Err x → 52 ≤ length old → x.number < 2 ^ 64 → x.place < 2 ^ 64
      → Written bytes 0 (refused_line x.number x.place) new end → Counts end new × (take end new ≡ printed (answer_of t (length old)) (sheet_of_text t))
  refusal_printed {x = x} e room number place w =
      let a = sym answer ∙ e in
      let long : length bytes ≡ length old = ap length (lent ∙ handed _ _ (refused-answer t (length old) a)) in
      let line = refused_line x.number x.place in
      let written = written-front w (omega (arith, refused-length x.number x.place number place)) in
      let whole = taken_whole line bytes written.0 written.1 in
      (whole.0, rw a whole.1)
