-- Document 02, card 8: vertices anchored (riders retained) by term, and the first day of a span on which a level is under k.
use Rattle.std.specs.Prelude.{Bool, ◌&&◌, ◌||◌, List, ℕ, suc, ◌-◌, length, get_or, leb, ltb, eqb}
use Rattle.finite.specs.Count.{below}
use Rattle.finite.specs.Search.{any, member, first_from}
use Rattle.anchored.specs.Graph.{Graph}
use Rattle.anchored.specs.Core.{level}

-- terms: term i is a vertex, its first day and its end day
pub record Terms : Type 0 where
  pub vertices : List ℕ
  pub firsts : List ℕ
  pub ends : List ℕ

abbrev pub terms : List ℕ → List ℕ → List ℕ → Terms
terms vs fs es = record { vertices = vs; firsts = fs; ends = es }

-- some term ends on a day
abbrev pub ends_on : List ℕ → ℕ → Bool
ends_on es day = member day es

-- the first day after this one on which some term ends; `until` if there is none before it
unfoldable pub next_end : List ℕ → ℕ → ℕ → ℕ
next_end es day until = first_from (ends_on es) (until - suc day) (suc day)

module _ (t : Terms) where
  -- term i runs on a day: first ≤ day < end
  abbrev pub runs : ℕ → ℕ → Bool
  runs day i = leb (get_or t.firsts i 0) day && ltb day (get_or t.ends i 0)

  -- term i is of v, and runs on a day
  abbrev pub runs_for : ℕ → ℕ → ℕ → Bool
  runs_for day v i = eqb (get_or t.vertices i 0) v && runs day i

  -- the vertices anchored on a day: those with a term that runs
  unfoldable pub anchored_on : ℕ → ℕ → Bool
  anchored_on day v = any (runs_for day v) (below (length t.vertices))

  -- some term starts or ends on a day
  abbrev pub changes_on : ℕ → Bool
  changes_on day = member day t.firsts || ends_on t.ends day

  module _ (G : Graph) (x k : ℕ) where
    -- the level of x is under k; that of an anchored vertex is 65,535
    unfoldable pub under : ℕ → Bool
    under day = ltb (level G (anchored_on day) x) k

    -- the first day of the span, its end left out, on which it is, day by day; none if that is not before the end
    unfoldable pub first_under : ℕ → ℕ → ℕ
    first_under from until = first_from under (until - from) from

    -- the same over the span's first day and the days that pass a test
    unfoldable pub first_under_on : (ℕ → Bool) → ℕ → ℕ → ℕ
    first_under_on days from until = first_from (λ day. (eqb from day || days day) && under day) (until - from) from
