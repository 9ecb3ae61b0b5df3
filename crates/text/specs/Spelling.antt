-- The text that document 01's form spells for a content, line by line. The laws are in proofs/Spelling and proofs/Accepted.
use mathlib.Core.List.{List, [], ◌∷◌, ◌++◌, flatten}
use Rattle.std.specs.Prelude.{ℕ, ◌+◌, ◌≤◌, length, T}
use Rattle.finite.specs.Bytes.{bytes, decimal}
use Rattle.finite.specs.Count.{In}
use Rattle.finite.specs.Search.{ascending as ascends}
use Rattle.lines.specs.List.{first_beyond}
use Rattle.text.specs.Text.{rider_lines_read, retained_read}
use Rattle.text.specs.declared.read.Summary.{Summary}

-- a list: a space before each number
unfoldable pub spelled_list : List ℕ → List ℕ
spelled_list [] = []
spelled_list (v ∷ vs) = 32 ∷ decimal v ++ spelled_list vs

-- the four kinds of lines, each closed by byte 10
unfoldable pub riders_line : ℕ → List ℕ
riders_line n = bytes "(riders " ++ (decimal n ++ bytes ")\n")

unfoldable pub rider_line : ℕ → List ℕ → List ℕ
rider_line v l = bytes "(rider " ++ (decimal v ++ (bytes " (with" ++ (spelled_list l ++ bytes "))\n")))

unfoldable pub retained_line : List ℕ → List ℕ
retained_line l = bytes "(retained" ++ (spelled_list l ++ bytes ")\n")

unfoldable pub rounds_line : ℕ → List ℕ
rounds_line r = bytes "(rounds " ++ (decimal r ++ bytes ")\n")

-- the lines of riders from v on
unfoldable pub rider_lines : ℕ → List (List ℕ) → List (List ℕ)
rider_lines v [] = []
rider_lines v (l ∷ ls) = rider_line v l ∷ rider_lines (v + 1) ls

-- what a text says: the list of each rider, the retained, the rounds
pub record Content : Type 0 where
  pub lists : List (List ℕ)
  pub retained : List ℕ
  pub rounds : ℕ

-- the lines of the text, and the text
unfoldable pub lines_of : Content → List (List ℕ)
lines_of c = riders_line (length c.lists) ∷ rider_lines 0 c.lists ++ retained_line c.retained ∷ rounds_line c.rounds ∷ []

unfoldable pub spell : Content → List ℕ
spell c = flatten (lines_of c)

-- values to 65,535, and the retained strictly ascending
pub record WellFormed (c : Content) : Type 0 where
  pub riders : length c.lists ≤ 65535
  pub links : (w : ℕ) → In w (flatten c.lists) → w ≤ 65535
  pub retained : (w : ℕ) → In w c.retained → w ≤ 65535
  pub rounds : c.rounds ≤ 65535
  pub ascending : T (ascends c.retained)

-- a content's summary
abbrev pub summary_of : Content → Summary
summary_of c = record { riders = length c.lists; links = length (flatten c.lists); beyond = first_beyond (length c.lists) c.retained; rounds = c.rounds }

-- the content of a text, with the rounds of its summary
abbrev pub content_of : List ℕ → Summary → Content
content_of t s = record { lists = (rider_lines_read t).lists; retained = retained_read t; rounds = s.rounds }
