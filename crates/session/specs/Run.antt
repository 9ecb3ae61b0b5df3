-- The session over a list of events: what it refuses, and what its lent slices hold afterwards.
use Rattle.std.specs.Prelude.{Bool, not, cond, ◌&&◌, List, [], ◌∷◌, ℕ, length, take, get_or, ℤ, ltb, eqb}
use Rattle.finite.specs.Count.{bit, tabulate}
use Rattle.finite.specs.Search.{all}
use Rattle.table.specs.Table.{vertices}
use Rattle.table.specs.Guard.{refused, refuse, past}
use Rattle.table.specs.Guard.{Guard}
use Rattle.table.specs.Guard.{clear}
use Rattle.anchored.specs.Core.{level, layer}
use Rattle.anchored.specs.Component.{component}
use Rattle.anchored.specs.Followers.{reached_count}
use Rattle.anchored.specs.Yield.{net_yield}
use Rattle.anchored.specs.Session.{Row}
use Rattle.anchored.specs.Events.{Event, Pool, events_of, event_row, after_events}
use Rattle.pool.specs.Input.{graph_of, anchored_by}
use Rattle.edit.specs.Edit.{starts_of, links_of}
use Rattle.edit.specs.Lent.{check_lent}

-- the events in three lists: kinds, first and second numbers
pub record Lists : Type 0 where
  pub kinds : List ℕ
  pub firsts : List ℕ
  pub seconds : List ℕ

abbrev pub lists : List ℕ → List ℕ → List ℕ → Lists
lists k f s = record { kinds = k; firsts = f; seconds = s }

-- how many there are
abbrev pub size : Lists → ℕ
size e = length e.kinds

-- the lists are of one length
abbrev pub matched : Lists → Bool
matched e = all (eqb (size e)) (length e.firsts ∷ length e.seconds ∷ [])

-- the first i of them
abbrev pub prefix : ℕ → Lists → Lists
prefix i e = lists (take i e.kinds) (take i e.firsts) (take i e.seconds)

abbrev pub event_at : Lists → ℕ → Event
event_at e = events_of e.kinds e.firsts e.seconds

-- the lent slices: the table, the record, and the three numbers of each event
pub record Slices : Type 0 where
  pub starts : List ℕ
  pub links : List ℕ
  pub anchored : List ℕ
  pub levels : List ℕ
  pub layers : List ℕ
  pub components : List ℕ
  pub yields : List ℤ
  pub reached : List ℕ
  pub stamps : List ℕ
  pub status : List ℕ
  pub lifted : List ℕ
  pub redone : List ℕ

abbrev pub slices : List ℕ → List ℕ → List ℕ → List ℕ → List ℕ → List ℕ → List ℤ → List ℕ → List ℕ → List ℕ → List ℕ → List ℕ → Slices
slices s l a k j c y w t z u r = record { starts = s; links = l; anchored = a; levels = k; layers = j; components = c; yields = y; reached = w; stamps = t; status = z; lifted = u; redone = r }

-- the lengths of the record's slices, and of those with a number for each event
abbrev pub records : Slices → List ℕ
records x = length x.anchored ∷ length x.levels ∷ length x.layers ∷ length x.components ∷ length x.yields ∷ length x.reached ∷ length x.stamps ∷ []

abbrev pub numbers : Slices → List ℕ
numbers x = length x.status ∷ length x.lifted ∷ length x.redone ∷ []

-- these of n places, those of m
abbrev pub sized : ℕ → ℕ → Slices → Bool
sized n m x = all (eqb n) (records x) && all (eqb m) (numbers x)

-- 1 to 8 of the lent table; 9 for bytes not n, then for lists not of one length; 10 for a byte above 1; 11 for more than 4,096 events; 12 for a
-- slice that is not of its length
unfoldable pub admit_run : List ℕ → List ℕ → List ℕ → ℕ → Bool → Bool → Guard
admit_run s l a m matches fits = past (check_lent s l)
    (cond (not (eqb (length a) (vertices s))) (refused 9 0)
    (cond (not matches) (refused 9 0)
    (refuse 10 (λ v. ltb 1 (get_or a v 0)) (vertices s)
    (cond (ltb 4096 m) (refused 11 0)
    (cond fits clear (refused 12 0))))))

-- what a call with these slices refuses
abbrev pub run_of : List ℕ → Lists → Slices → Guard
run_of given e x = admit_run x.starts x.links given (size e) (matched e) (sized (vertices x.starts) (size e) x)

-- the plain session after the first i events
abbrev pub pool_of : List ℕ → List ℕ → List ℕ → Lists → ℕ → Pool
pool_of s l given e i = after_events (graph_of s l) (anchored_by given) (event_at e) i

-- the three numbers of event i in it
abbrev pub row_at : List ℕ → List ℕ → List ℕ → Lists → ℕ → Row
row_at s l given e i = event_row (pool_of s l given e i) (event_at e i)

-- the plain session's table and record after the last event, and its numbers of each
abbrev pub ended : List ℕ → List ℕ → List ℕ → Lists → Slices
ended s l given e =
    let end = pool_of s l given e (size e) in
    let G = end.graph in
    let A = end.plain.anchors in
    slices
    (starts_of G)
    (links_of G)
    (tabulate (λ v. bit (A v)) (vertices s))
    (tabulate (level G A) (vertices s))
    (tabulate (layer G A) (vertices s))
    (tabulate (component G A) (vertices s))
    (tabulate (net_yield G A) (vertices s))
    (tabulate (reached_count G A) (vertices s))
    (tabulate end.plain.stamps (vertices s))
    (tabulate (λ i. (row_at s l given e i).status) (size e))
    (tabulate (λ i. (row_at s l given e i).lifted) (size e))
    (tabulate (λ i. (row_at s l given e i).redone) (size e))
