-- The whole text: what it says, or the first line that departs from its form. The laws are in proofs/Texts.
use Rattle.std.specs.Prelude.{cond, ℕ, zero, suc, ◌+◌, length, eqb, Option, Some, None, Result, Ok, Err}
use mathlib.Core.List.{List, [], ◌∷◌, ◌++◌, flatten}
use Rattle.reader.specs.Number.{on_number}
use Rattle.reader.specs.Form.{on_next}
use Rattle.lines.specs.List.{Numbers, none, first_beyond}
use Rattle.lines.specs.Line.{riders_at, rider_at, retained_at, rounds_at}
use Rattle.text.specs.declared.read.Summary.{Summary}

-- the lists of the riders' lines read, with that of a line that departs, and where the text goes on
pub record Lists : Type 0 where
  pub lists : List (List ℕ)
  pub next : Option ℕ

-- one list before others
abbrev pub more_lists : List ℕ → Lists → Lists
more_lists l r = record { lists = l ∷ r.lists; next = r.next }

-- the lines of m riders from v on
unfoldable pub rider_lines_from : ℕ → ℕ → List ℕ → ℕ → Lists
rider_lines_from zero v t p = record { lists = []; next = Some p }
rider_lines_from (suc m) v t p =
    on_next (rider_at t v p).next
    (λ next. more_lists (rider_at t v p).values (rider_lines_from m (v + 1) t next))
    (record { lists = (rider_at t v p).values ∷ []; next = None })

-- the lines of riders 0 to n - 1
abbrev pub rider_lines_at : ℕ → List ℕ → ℕ → Lists
rider_lines_at n t p = rider_lines_from n 0 t p

-- where each list begins among the links, k of them standing before the first
unfoldable pub starts_from : ℕ → List (List ℕ) → List ℕ
starts_from k [] = []
starts_from k (l ∷ ls) = k ∷ starts_from (k + length l) ls

-- the starts: one for each list, and behind the last line one for the end of the links
abbrev pub starts_of : Lists → List ℕ
starts_of r = starts_from 0 r.lists ++ on_next r.next (λ p. length (flatten r.lists) ∷ []) []

-- the answer for the riders' lines: the number of links with the place behind the lines, or the line that departs; rider v has line v + 2
abbrev pub rider_lines_of : Lists → Result (ℕ × ℕ) ℕ
rider_lines_of r = on_next r.next (λ p. Ok (length (flatten r.lists), p)) (Err (1 + length r.lists))

-- what was read with the place behind it, or the line that departs
abbrev pub read_to : {A : Type 0} → Result A ℕ → ℕ → Result (A × ℕ) ℕ
read_to (Ok value) p = Ok (value, p)
read_to (Err line) p = Err line

-- behind the lines of n riders with k links: the retained, the rounds, and nothing more
unfoldable pub rest_of : List ℕ → ℕ → ℕ → ℕ → Result Summary ℕ
rest_of t n k p =
    on_next (retained_at t p).next
    (λ last. on_number (rounds_at t last)
    (λ rounds end. cond (eqb end (length t))
    (Ok (record { riders = n; links = k; beyond = first_beyond n (retained_at t p).values; rounds = rounds }))
    (Err (n + 4)))
    (Err (n + 3)))
    (Err (n + 2))

-- what the text says, or the first line that departs from its form, is missing or is extra
unfoldable pub reading_of : List ℕ → Result Summary ℕ
reading_of t =
    on_number (riders_at t 0)
    (λ n first. on_next (rider_lines_at n t first).next
    (λ rest. rest_of t n (length (flatten (rider_lines_at n t first).lists)) rest)
    (Err (1 + length (rider_lines_at n t first).lists)))
    (Err 1)

-- the parts read: the riders' lines, and the retained
unfoldable pub rider_lines_read : List ℕ → Lists
rider_lines_read t = on_number (riders_at t 0) (λ n first. rider_lines_at n t first) (record { lists = []; next = None })

unfoldable pub retained_line_read : List ℕ → Numbers
retained_line_read t = on_next (rider_lines_read t).next (λ rest. retained_at t rest) (none None)

-- what goes to the lent starts, links and anchored bytes
abbrev pub starts_read : List ℕ → List ℕ
starts_read t = starts_of (rider_lines_read t)

abbrev pub links_read : List ℕ → List ℕ
links_read t = flatten (rider_lines_read t).lists

abbrev pub retained_read : List ℕ → List ℕ
retained_read t = (retained_line_read t).values
