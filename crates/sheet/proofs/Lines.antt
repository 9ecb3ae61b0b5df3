-- Laws of the answer sheet: its lines have one length, and their digits say the numbers. Assumes nothing.
use Rattle.std.proofs.Common.{Option, Some, None}
use mathlib.Core.Path.{◌≡◌, refl, sym, ◌∙◌}
use mathlib.Core.Bool.{Bool}
use mathlib.Core.List.{List, [], ◌∷◌, ◌++◌, append-nil, append_assoc}
use Prim.Native.Nat.{ℕ, suc, ◌+◌, ◌*◌, ◌/◌, ◌%◌, ◌^◌, ◌≤◌, ◌<◌}
use native.Mathlib.Nat.{zero-mul, suc-mul, add-zero}
use native.Mathlib.Omega.{arith}
use lib.ListN.{length, length-append}
use Rattle.finite.specs.Bytes.{decimal}
use Rattle.finite.proofs.Count.{length-tabulate}
use Rattle.finite.proofs.Bytes.{value_from, decimal-length}
use Rattle.sheet.specs.Written.{Written}
use Rattle.sheet.specs.Line.{two_digits, four_digits, name_of, retain_part, marks_part, line_of, Round, sheet_from, sheet_of, refused_line}
use Rattle.sheet.specs.Parted.{Parted}
use Rattle.sheet.specs.declared.line.Units.{Units}
use Rattle.sheet.proofs.Written.{written_then}

-- ---- a line

-- a name has four bytes
pub name_length : (chosen : Option ℕ) → length (name_of chosen) ≡ 4
name_length (Some v) = refl
name_length None = refl

-- the retain part of a line has 14 bytes, the marks part 9 and one a vertex
pub retain_length : (chosen : Option ℕ) → length (retain_part chosen) ≡ 14
retain_length chosen = simp (length-append, name_length)

pub marks-length : (lifted : ℕ → Bool) (n : ℕ) → length (marks_part lifted n) ≡ 9 + n
marks-length lifted n = simp (length-append, length-tabulate) (omega arith)

-- a line over n vertices has 48 + n bytes, whatever it says
pub line_length : (round : ℕ) (chosen : Option ℕ) (lifted : ℕ → Bool) (n redone : ℕ) → length (line_of round chosen lifted n redone) ≡ 48 + n
unfolding line_of
line_length round chosen lifted n redone = simp (length-append, name_length, length-tabulate) (omega arith)

-- ---- a sheet

-- a sheet of r lines over n vertices has r × (48 + n) bytes
pub sheet_length : (n round : ℕ) (rs : List Round) → length (sheet_from n round rs) ≡ length rs * (48 + n)
unfolding sheet_from
sheet_length n round [] = sym (zero-mul (48 + n))
sheet_length n round (r ∷ rs) =
    length-append (line_of round r.chosen r.lifted n r.redone) (sheet_from n (round + 1) rs)
    ∙ rw (suc-mul, line_length, sheet_length n (round + 1) rs) (omega arith)

-- two sheets of as many lines over as many vertices have the same length
pub sheet_same : (n i j : ℕ) (rs qs : List Round) → length rs ≡ length qs → length (sheet_from n i rs) ≡ length (sheet_from n j qs)
sheet_same n i j rs qs e = rw (sheet_length, sheet_length, e)

-- one line more stands behind the sheet so far
pub sheet_more : (n round : ℕ) (rs : List Round) (r : Round) → sheet_from n round (rs ++ r ∷ []) ≡ sheet_from n round rs ++ line_of (round + length rs) r.chosen r.lifted n r.redone
unfolding sheet_from
sheet_more n round [] r = rw (append-nil, add-zero)
sheet_more n round (q ∷ rs) r =
    let e : round + 1 + length rs ≡ round + suc (length rs) = omega arith in
    rw (sheet_more n (round + 1) rs r, e, append_assoc)

-- a turn of the loop over the rounds
pub sheet_turn : (n : ℕ) (rs : List Round) {o o₁ : List ℕ} {a₁ : ℕ} → Written o 0 (sheet_of n rs) o₁ a₁
    → (r : Round) {k : ℕ} {o₂ : List ℕ} {a₂ : ℕ} → k ≡ 1 + length rs → Written o₁ a₁ (line_of k r.chosen r.lifted n r.redone) o₂ a₂ → Written o 0 (sheet_of n (rs ++ r ∷ [])) o₂ a₂
sheet_turn n rs p r e q = rw (sheet_more n 1 rs r, ← e) (written_then p q)

-- ---- numbers

-- in range, two and four digits say the number
pub two_says : (v : ℕ) → v < 100 → value_from 0 (two_digits v) ≡ v
two_says v h = omega arith

pub four_says : (v : ℕ) → v < 10000 → value_from 0 (four_digits v) ≡ v
four_says v h =
    let thousands : v / 1000 % 10 ≡ v / 1000 = omega arith in
    let hundreds : v / 1000 * 10 + v / 100 % 10 ≡ v / 100 = omega arith in
    let tens : v / 100 * 10 + v / 10 % 10 ≡ v / 10 = omega arith in
    omega arith

-- a number's last four digits are its thousands, hundreds, tens and ones, once its ten thousands are taken off
pub four_parted : {v : ℕ} {beyond thousands hundreds tens : Units} → Parted v 10000 beyond → Parted beyond.rest 1000 thousands
    → Parted thousands.rest 100 hundreds → Parted hundreds.rest 10 tens
    → four_digits v ≡ (48 + thousands.count) ∷ (48 + hundreds.count) ∷ (48 + tens.count) ∷ (48 + tens.rest) ∷ []
four_parted {v} {beyond} {thousands} {hundreds} {tens} p q r s =
    let first : v / 1000 % 10 ≡ thousands.count = omega arith in
    let second : v / 100 % 10 ≡ hundreds.count = omega arith in
    let third : v / 10 % 10 ≡ tens.count = omega arith in
    let fourth : v % 10 ≡ tens.rest = omega arith in
    rw (first, second, third, fourth)

-- numbers of 64 bits have at most 20 digits, so a refusal takes at most 52 bytes
pub decimal_short : (v : ℕ) → v < 2 ^ 64 → length (decimal v) ≤ 20
decimal_short v h = decimal-length 19 v (omega arith)

pub refused-length : (number place : ℕ) → number < 2 ^ 64 → place < 2 ^ 64 → length (refused_line number place) ≤ 52
unfolding refused_line
refused-length number place h g = simp length-append (omega (arith, decimal_short number h, decimal_short place g))
