-- The adjacency table: vertices (riders), their neighbors (partners), and what its check refuses.
use Rattle.std.specs.Prelude.{Bool, cond, not, ◌&&◌, ◌||◌, List, ℕ, ◌+◌, ◌-◌, ◌≤◌, ◌<◌, length, take, drop, get_or, T, leb, ltb, eqb}
use Rattle.finite.specs.Count.{In, Distinct}
use Rattle.finite.specs.Search.{any, member}
use Rattle.finite.specs.Search.{ascending as ascends}
use Rattle.table.specs.Guard.{refused, refuse}
use Rattle.table.specs.Guard.{Guard}
use Rattle.table.specs.Guard.{clear}

-- n: there is one start more than vertices
abbrev pub vertices : List ℕ → ℕ
vertices s = length s - 1

-- the neighbors of v: the links from place start v up to, not including, start v + 1
unfoldable pub neighbors : List ℕ → List ℕ → ℕ → List ℕ
neighbors s l v = take (get_or s (v + 1) 0 - get_or s v 0) (drop (get_or s v 0) l)

-- 4: the last start is not the number of links
abbrev pub wrong_end : List ℕ → List ℕ → ℕ → Bool
wrong_end s l i = eqb (i + 1) (length s) && not (eqb (get_or s i 0) (length l))

-- 4: start 0 is not 0, or a start is below the one before
abbrev pub wrong_step : List ℕ → ℕ → Bool
wrong_step s i = cond (eqb i 0) (not (eqb (get_or s i 0) 0)) (ltb (get_or s i 0) (get_or s (i - 1) 0))

unfoldable pub bad_start : List ℕ → List ℕ → ℕ → Bool
bad_start s l i = wrong_end s l i || wrong_step s i

-- 5: a link of n or more
unfoldable pub beyond : List ℕ → List ℕ → ℕ → Bool
beyond s l v = any (leb (vertices s)) (neighbors s l v)

-- 6: a link to oneself
unfoldable pub looped : List ℕ → List ℕ → ℕ → Bool
looped s l v = member v (neighbors s l v)

-- 7: links not strictly ascending
unfoldable pub unsorted : List ℕ → List ℕ → ℕ → Bool
unsorted s l v = not (ascends (neighbors s l v))

-- the rules of one vertex's neighbors, by number
abbrev pub breaks : List ℕ → List ℕ → ℕ → ℕ → Bool
breaks s l rule v = cond (eqb rule 5) (beyond s l v) (cond (eqb rule 6) (looped s l v) (unsorted s l v))

-- 8: a neighbor who does not list v
unfoldable pub unreturned : List ℕ → List ℕ → ℕ → Bool
unreturned s l v = any (λ u. not (member v (neighbors s l u))) (neighbors s l v)

-- what it refuses of the links
abbrev pub links_of : List ℕ → List ℕ → Guard
links_of s l =
    refuse 5 (beyond s l) (vertices s)
    (refuse 6 (looped s l) (vertices s)
    (refuse 7 (unsorted s l) (vertices s)
    (refuse 8 (unreturned s l) (vertices s) clear)))

-- what the check of a table refuses: the lowest number first, each tested over the whole table, with document 01's place
unfoldable pub check_of : List ℕ → List ℕ → Guard
check_of s l =
    cond (eqb (length s) 0) (refused 1 0)
    (cond (ltb 1024 (vertices s)) (refused 2 0)
    (cond (ltb 16384 (length l)) (refused 3 0)
    (refuse 4 (bad_start s l) (length s) (links_of s l))))

-- starts in order and in range: what `neighbors` relies on
pub record Framed (s l : List ℕ) : Type 0 where
  pub some : 0 < length s
  pub step : (v : ℕ) → v < vertices s → get_or s v 0 ≤ get_or s (v + 1) 0
  pub within : (v : ℕ) → v ≤ vertices s → get_or s v 0 ≤ length l

-- what the check promises of a sound table
pub record SoundTable (s l : List ℕ) : Type 0 where
  pub framed : Framed s l
  pub small : vertices s ≤ 1024
  pub few : length l ≤ 16384
  pub range : (v w : ℕ) → v < vertices s → In w (neighbors s l v) → w < vertices s
  pub loopless : (v : ℕ) → v < vertices s → In v (neighbors s l v) → ⊥
  pub ascending : (v : ℕ) → v < vertices s → T (ascends (neighbors s l v))
  pub distinct : (v : ℕ) → v < vertices s → Distinct (neighbors s l v)
  pub symmetric : (v w : ℕ) → v < vertices s → In w (neighbors s l v) → In v (neighbors s l w)
