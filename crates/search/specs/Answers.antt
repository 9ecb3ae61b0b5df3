-- The follower search (local search): what it refuses, its answer, and its marks.
use Rattle.std.specs.Prelude.{cond, List, ℕ}
use Rattle.finite.specs.Count.{tabulate}
use Rattle.table.specs.Table.{vertices}
use Rattle.table.specs.Size.{size_of}
use Rattle.table.specs.Guard.{refused, answer, past}
use Rattle.table.specs.Guard.{Guard}
use Rattle.table.specs.Guard.{clear}
use Rattle.anchored.specs.Followers.{followers, reached, mark}
use Rattle.pool.specs.Input.{graph_of, anchored_by}
use Rattle.marking.specs.Marking.{marking_of}
use Rattle.std.specs.Prelude.{Result, Ok, Err}
use Rattle.table.specs.Rule.{Refusal}
use Rattle.table.specs.declared.size.Size.{Size}
use Rattle.search.specs.declared.find.Found.{Found}

-- 1 to 10, 12, 13, 14, 19, 20, 21 and 15, as `marking_of` has them, then 16 for an anchored x, at x
unfoldable pub search_of : List ℕ → List ℕ → List ℕ → List ℕ → List ℕ → ℕ → ℕ → Guard
search_of s l a lev lay x m = past (marking_of s l a lev lay x m) (cond (anchored_by a x) (refused 16 x) clear)

-- x's follower count (riders lifted) and its reached count
abbrev pub counts_of : List ℕ → List ℕ → List ℕ → ℕ → Found
counts_of s l a x = record { lifted = followers (graph_of s l) (anchored_by a) x; reached = reached (graph_of s l) (anchored_by a) x }

-- the answer: a refusal, or these counts and the size of the table
unfoldable pub followers_of : List ℕ → List ℕ → List ℕ → List ℕ → List ℕ → ℕ → ℕ → Result (Found × Size) Refusal
followers_of s l a lev lay x m = answer (search_of s l a lev lay x m) (Ok (counts_of s l a x, size_of s l)) Err

-- the marks of the search from x
abbrev pub marks_of : List ℕ → List ℕ → List ℕ → ℕ → List ℕ
marks_of s l a x = tabulate (mark (graph_of s l) (anchored_by a) x) (vertices s)
