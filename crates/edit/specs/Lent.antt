-- Document 02, card 6: what the check of the table lent for writing refuses, and its link places with zeros past the last start.
use Rattle.std.specs.Prelude.{not, cond, List, ℕ, length, take, get_or, ltb, eqb}
use Rattle.table.specs.Table.{vertices, check_of}
use Rattle.table.specs.Guard.{refused}
use Rattle.table.specs.Guard.{Guard}
use Rattle.edit.specs.Edit.{last_start}

-- 1 and 2 as ever, 12 for link places that are not exactly 16,384, 3 for a last start above 16,384, then 4 to 8 on the links up to the last start
unfoldable pub check_lent : List ℕ → List ℕ → Guard
check_lent s l =
    cond (eqb (length s) 0) (refused 1 0)
    (cond (ltb 1024 (vertices s)) (refused 2 0)
    (cond (not (eqb (length l) 16384)) (refused 12 0)
    (cond (ltb 16384 (last_start s)) (refused 3 0) (check_of s (take (last_start s) l)))))

-- link place i with 0 stored in every place from `last` on
abbrev pub zeroed_at : List ℕ → ℕ → ℕ → ℕ
zeroed_at l last i = cond (ltb i last) (get_or l i 0) 0
