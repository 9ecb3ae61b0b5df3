-- Document 02, card 8: what the first day under k is refused for, and its answer.
use Rattle.std.specs.Prelude.{Bool, cond, Option, List, [], ◌∷◌, ℕ, length, get_or, leb, ltb, eqb}
use Rattle.finite.specs.Search.{all, first}
use Rattle.table.specs.Table.{vertices, check_of}
use Rattle.table.specs.Guard.{refused, refuse, past}
use Rattle.table.specs.Guard.{Guard}
use Rattle.table.specs.Guard.{clear}
use Rattle.table.specs.declared.size.Size.{Size}
use Rattle.pool.specs.Lengths.{outside}
use Rattle.terms.specs.Days.{day_before}

-- the end of term i is not after its first day
abbrev pub empty_term : List ℕ → List ℕ → ℕ → Bool
empty_term fs es i = leb (get_or es i 0) (get_or fs i 0)

-- 15 for the first term by position whose vertex is n or more, at that number, and then for x
abbrev pub vertices_of : ℕ → List ℕ → ℕ → Guard → Guard
vertices_of n vs x rest = let i = first (outside n vs) (length vs) in cond (ltb i (length vs)) (refused 15 (get_or vs i 0)) (cond (leb n x) (refused 15 x) rest)

-- 24 for more than 256 terms; 25 for the first whose end is not after its first day, at its position
abbrev pub spans_of : List ℕ → List ℕ → List ℕ → Guard
spans_of vs fs es = cond (ltb 256 (length vs)) (refused 24 0) (refuse 25 (empty_term fs es) (length fs) clear)

-- 9 for lists that are not of one length, then 15, 24 and 25
unfoldable pub lists_of : ℕ → List ℕ → List ℕ → List ℕ → ℕ → Guard
lists_of n vs fs es x = cond (all (eqb (length vs)) (length fs ∷ length es ∷ [])) (vertices_of n vs x (spans_of vs fs es)) (refused 9 0)

-- what a call refuses: 1 to 8 of the table, then of the lists and x
unfoldable pub first_day_of : List ℕ → List ℕ → List ℕ → List ℕ → List ℕ → ℕ → Guard
first_day_of s l vs fs es x = past (check_of s l) (lists_of (vertices s) vs fs es x)

-- the answer: a day before the end of the span, or none, and the size of the table
unfoldable pub day_of : ℕ → ℕ → Size → Option ℕ × Size
day_of day until size = (day_before until day, size)
