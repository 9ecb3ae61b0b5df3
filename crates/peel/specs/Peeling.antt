-- Working the sheet: what holds of degrees, levels and layers between any two steps of the peeling.
use Rattle.std.specs.Prelude.{◌≡◌, ◌↔◌, Bool, not, ◌&&◌, ◌||◌, List, [], ◌++◌, ℕ, ◌+◌, ◌*◌, ◌≤◌, ◌<◌, length, take, get_or, T, eqb}
use Rattle.std.proofs.Math.Seq.{slice}
use Rattle.finite.specs.Count.{bit, below, count, In, Distinct}
use Rattle.finite.specs.Search.{member}
use Rattle.finite.specs.Pairs.{pair_le}
use Rattle.table.specs.Table.{vertices}
use Rattle.anchored.specs.Graph.{Graph, Simple}
use Rattle.anchored.specs.Sheet.{at_least, Fits}
use Rattle.pool.specs.Input.{graph_of, anchored_by, Admitted}

-- not anchored, and without a level yet
abbrev pub unset : (ℕ → Bool) → (ℕ → ℕ) → ℕ → Bool
unset A lev v = not (A v) && eqb (lev v) 65535

-- not removed yet in turn `turn` of shell k, when `waiting` are the vertices of that turn still to be removed
abbrev pub present : (ℕ → Bool) → (ℕ → ℕ) → (ℕ → ℕ) → ℕ → ℕ → List ℕ → ℕ → Bool
present A lev lay k turn waiting v = at_least A lev lay k (turn + 1) v || member v waiting

module _ (G : Graph) (A : ℕ → Bool) (lev lay : ℕ → ℕ) (k turn : ℕ) where
  -- v is of level k and of layer `turn`
  abbrev pub Stands : ℕ → Type 0
  Stands v = (v < G.size) × T (not (A v)) × (lev v ≡ k) × (lay v ≡ turn)

  -- a neighbor of v of this turn is removed already
  abbrev pub Struck : List ℕ → ℕ → Type 0
  Struck waiting v = (p : ℕ) × In p (G.neighbors v) × (lev p ≡ k) × (lay p ≡ turn) × T (not (present A lev lay k turn waiting p))

-- The peeling in turn `turn` of shell k. Of the turn's vertices `waiting` are still to be removed, and of the neighbors of the last one
-- removed `due` are still to lose it from their degree. `next` are the vertices of the next turn, known so far; turn 0 finds those of
-- turn 1 among the vertices below `seen`. A vertex without a level has 65,535, and `done` vertices have one.
pub record Peeling (G : Graph) (A : ℕ → Bool) (deg lev lay : ℕ → ℕ) (k turn : ℕ) (waiting next due : List ℕ) (seen done : ℕ) : Type 0 where
  pub simple : Simple G
  pub low : k < 65535
  pub anchored : (v : ℕ) → v < G.size → T (A v) → (lev v ≡ 65535) × (lay v ≡ 0)
  -- a level and a layer, once given, fit for good; none is above the next turn's
  pub placed : (v : ℕ) → v < G.size → T (not (A v)) → (lev v ≡ 65535 → ⊥) → Fits G A lev lay v × T (pair_le (lev v) (lay v) k (turn + 1))
  pub waits : (v : ℕ) → In v waiting → Stands G A lev lay k turn v
  pub waits_once : Distinct waiting
  pub comes : (v : ℕ) → In v next ↔ Stands G A lev lay k (turn + 1) v
  pub comes_once : Distinct next
  pub owed : (v : ℕ) → In v due → (v < G.size) × Struck G A lev lay k turn waiting v
  pub owed_once : Distinct due
  -- a vertex without a level has as many neighbors present as its degree says: k of them, or more once it was seen
  pub degree : (v : ℕ) → v < G.size → T (not (A v)) → lev v ≡ 65535
      → (deg v ≡ count (present A lev lay k turn waiting) (G.neighbors v) + bit (member v due)) × (k ≤ deg v) × (v < seen → k < deg v)
  pub total : done + count (unset A lev) (below G.size) ≡ count (λ v. not (A v)) (below G.size)

-- In shell k, when the vertices below `seen` are seen, the degrees tell who is not to be removed any more.
pub record Told (G : Graph) (A : ℕ → Bool) (deg lev : ℕ → ℕ) (k seen : ℕ) : Type 0 where
  -- a vertex that is anchored or has its level has a degree of at most k
  pub closed : (v : ℕ) → v < G.size → T (not (unset A lev v)) → deg v ≤ k
  -- one with a level from a shell before has a degree below k
  pub before : (v : ℕ) → v < G.size → T (not (A v)) → (lev v ≡ 65535 → ⊥) → seen ≤ v → deg v < k

-- the degrees to begin with: that of an anchored vertex is 0, and nothing lowers it
abbrev pub first_degree : Graph → (ℕ → Bool) → ℕ → ℕ
first_degree G A v = bit (not (A v)) * length (G.neighbors v)

-- ---- the same over the arrays of the code

-- the number at place v of an array
abbrev pub at : List ℕ → ℕ → ℕ
at xs v = get_or xs v 0

-- a peeling whose degrees, levels and layers are those of the arrays, with the anchored bytes a
pub record Peels (G : Graph) (a degree level layer : List ℕ) (k turn : ℕ) (waiting next due : List ℕ) (seen done : ℕ) : Type 0 where
  pub peeling : Peeling G (anchored_by a) (at degree) (at level) (at layer) k turn waiting next due seen done
  pub told : Told G (anchored_by a) (at degree) (at level) k seen

-- each vertex has a byte, and a place in the scratch arrays
abbrev pub Sized : Graph → List ℕ → Type 0
Sized G a = (G.size ≤ length a) × (G.size ≤ 1024)

-- the scratch arrays have 1,024 places
pub record Long (degree level layer queue : List ℕ) : Type 0 where
  pub degrees : length degree ≡ 1024
  pub levels : length level ≡ 1024
  pub layers : length layer ≡ 1024
  pub places : length queue ≡ 1024

-- some peeling has `part` due
pub record CanStrike (degree level layer : List ℕ) (k turn : ℕ) (part : List ℕ) (tail : ℕ) : Type 0 where
  pub graph : Graph
  pub bytes : List ℕ
  pub size : Sized graph bytes
  pub waiting : List ℕ
  pub next : List ℕ
  pub due : List ℕ
  pub state : Peels graph bytes degree level layer k turn waiting next (part ++ due) graph.size tail

-- striking `part` is a step of every peeling that has it due; the vertices of the next turn are added to the queue
pub record Strikes (degree level layer queue degree' level' layer' queue' : List ℕ) (k turn : ℕ) (part : List ℕ) (tail tail' : ℕ) : Type 0 where
  pub moves : (G : Graph) (a : List ℕ) → Sized G a → (waiting next due : List ℕ)
      → Peels G a degree level layer k turn waiting next (part ++ due) G.size tail
      → Peels G a degree' level' layer' k turn waiting (next ++ slice tail tail' queue') due G.size tail'
  pub kept : take tail queue' ≡ take tail queue
  pub grows : tail ≤ tail'
  pub long : Long degree' level' layer' queue'

-- some peeling of the table has a batch waiting in the queue, from head up to end
pub record CanRemove (s l degree level layer queue : List ℕ) (k turn head end : ℕ) : Type 0 where
  pub bytes : List ℕ
  pub admitted : Admitted s l bytes
  pub state : Peels (graph_of s l) bytes degree level layer k turn (slice head end queue) [] [] (vertices s) end

-- removing the batch is a step of every such peeling; the next batch stands after it
pub record Removes (s l degree level layer queue degree' level' layer' queue' : List ℕ) (k turn head end tail : ℕ) : Type 0 where
  pub moves : (a : List ℕ) → Admitted s l a
      → Peels (graph_of s l) a degree level layer k turn (slice head end queue) [] [] (vertices s) end
      → Peels (graph_of s l) a degree' level' layer' k turn [] (slice end tail queue') [] (vertices s) tail
  pub grows : end ≤ tail
  pub long : Long degree' level' layer' queue'

-- some peeling is at the beginning of shell k, has seen the vertices below `seen`, and has all below `last`
pub record CanLook (a degree level layer : List ℕ) (k seen last tail : ℕ) : Type 0 where
  pub graph : Graph
  pub size : Sized graph a
  pub reaches : last ≤ graph.size
  pub next : List ℕ
  pub state : Peels graph a degree level layer k 0 [] next [] seen tail

-- looking at the vertices from `seen` up to, not including, `seen'` is a step of every such peeling
pub record Looks (a degree level layer queue level' layer' queue' : List ℕ) (k seen seen' tail tail' : ℕ) : Type 0 where
  pub moves : (G : Graph) → Sized G a → seen' ≤ G.size → (next : List ℕ)
      → Peels G a degree level layer k 0 [] next [] seen tail
      → Peels G a degree level' layer' k 0 [] (next ++ slice tail tail' queue') [] seen' tail'
  pub kept : take tail queue' ≡ take tail queue
  pub grows : tail ≤ tail'
  pub long : Long degree level' layer' queue'
