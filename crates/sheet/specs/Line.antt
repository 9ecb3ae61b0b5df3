-- Document 01, "Rounds and the answer sheet": the bytes of a round's line, of a sheet, and of a refusal's line.
use Rattle.std.specs.Prelude.{Bool, cond, List, [], ◌∷◌, ◌++◌, ℕ, ◌+◌, ◌/◌, get_or, eqb, Option, Some, None}
use Rattle.finite.specs.Count.{tabulate}
use Rattle.finite.specs.Bytes.{bytes, digit, decimal}

-- the last two digits: all of them, of a number below 100
abbrev pub two_digits : ℕ → List ℕ
two_digits v = digit (v / 10) ∷ digit v ∷ []

-- the last four digits: all of them, of a number below 10,000
abbrev pub four_digits : ℕ → List ℕ
four_digits v = digit (v / 1000) ∷ digit (v / 100) ∷ digit (v / 10) ∷ digit v ∷ []

-- `+` for a vertex lifted by this round, `.` for any other
abbrev pub sign : Bool → ℕ
sign up = cond up 43 46

abbrev pub sign_at : (ℕ → Bool) → ℕ → ℕ
sign_at lifted v = sign (lifted v)

-- one sign a vertex
abbrev pub signs : (ℕ → Bool) → ℕ → List ℕ
signs lifted n = tabulate (sign_at lifted) n

-- who is lifted, by the marks of a search: those of mark 2
abbrev pub lifted_by : List ℕ → ℕ → Bool
lifted_by marks v = eqb (get_or marks v 0) 2

-- whom a round retains: four digits, or four dashes for nobody
abbrev pub name_of : Option ℕ → List ℕ
name_of (Some v) = four_digits v
name_of None = bytes "----"

abbrev pub round_part : ℕ → List ℕ
round_part round = bytes "(round " ++ two_digits round

abbrev pub retain_part : Option ℕ → List ℕ
retain_part chosen = bytes " (retain " ++ name_of chosen ++ bytes ")"

abbrev pub marks_part : (ℕ → Bool) → ℕ → List ℕ
marks_part lifted n = bytes " (marks " ++ signs lifted n ++ bytes ")"

abbrev pub redone_part : ℕ → List ℕ
redone_part redone = bytes " (redone " ++ four_digits redone ++ bytes "))\n"

-- the line of a round over n vertices
unfoldable pub line_of : ℕ → Option ℕ → (ℕ → Bool) → ℕ → ℕ → List ℕ
line_of round chosen lifted n redone = round_part round ++ retain_part chosen ++ marks_part lifted n ++ redone_part redone

-- a round as its line shows it
pub record Round : Type 0 where
  pub chosen : Option ℕ
  pub lifted : ℕ → Bool
  pub redone : ℕ

-- the lines of some rounds, the first of them numbered `round`
unfoldable pub sheet_from : ℕ → ℕ → List Round → List ℕ
sheet_from n round [] = []
sheet_from n round (r ∷ rs) = line_of round r.chosen r.lifted n r.redone ++ sheet_from n (round + 1) rs

-- the answer sheet: one line a round, numbered from 1
abbrev pub sheet_of : ℕ → List Round → List ℕ
sheet_of n rs = sheet_from n 1 rs

-- the line of a refusal: number and place
unfoldable pub refused_line : ℕ → ℕ → List ℕ
refused_line number place = (bytes "(refused " ++ decimal number) ++ (bytes " " ++ decimal place) ++ bytes ")\n"
