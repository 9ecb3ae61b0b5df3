-- The flood that numbers components: its array of labels, 65,535 where there is none yet, and its queue of the labeled vertices.
use Rattle.std.specs.Prelude.{◌≡◌, Bool, not, cond, List, ℕ, ◌+◌, ◌≤◌, ◌<◌, length, get_or, T, eqb}
use Rattle.finite.specs.Count.{In, count, below}
use Rattle.table.specs.Table.{vertices}
use Rattle.anchored.specs.Graph.{Graph}
use Rattle.anchored.specs.Core.{level}
use Rattle.anchored.specs.Component.{Joined}
use Rattle.pool.specs.Input.{graph_of, anchored_by, Admitted}

-- a vertex without a label
abbrev pub blank : List ℕ → ℕ → Bool
blank labels v = eqb (get_or labels v 0) 65535

module _ (G : Graph) (A : ℕ → Bool) where
  -- an edge inside a component, from u to w
  abbrev pub Beside : ℕ → ℕ → Type 0
  Beside u w = In w (G.neighbors u) × T (not (A w)) × (level G A w ≡ level G A u)

  -- a labeled vertex: joined to its label, the lower of the two, and in the queue
  pub record Labeled (labels queue : List ℕ) (tail v : ℕ) : Type 0 where
    pub free : T (not (A v))
    pub joined : Joined G A v (get_or labels v 0)
    pub lowest : get_or labels v 0 ≤ v
    pub place : (i : ℕ) × (i < tail) × (get_or queue i 0 ≡ v)

  -- the queue holds the labeled vertices, among them every one below `next` that is not anchored; `total` bounds it
  pub record Queued (next : ℕ) (labels queue : List ℕ) (tail : ℕ) : Type 0 where
    pub long : G.size ≤ length labels
    pub wide : G.size ≤ length queue
    pub held : (i : ℕ) → i < tail → (get_or queue i 0 < G.size) × T (not (blank labels (get_or queue i 0)))
    pub labeled : (v : ℕ) → v < G.size → T (not (blank labels v)) → Labeled labels queue tail v
    pub passed : (v : ℕ) → v < next → T (not (A v)) → T (not (blank labels v))
    pub total : tail + count (blank labels) (below G.size) ≡ G.size

  -- the first `head` of the queue agree with all beside them; the others have the last label, that of the vertex before `next`
  pub record Flooding (next head : ℕ) (labels queue : List ℕ) (tail : ℕ) : Type 0 where
    pub queued : Queued next labels queue tail
    pub within : head ≤ tail
    pub closed : (i : ℕ) → i < head → (w : ℕ) → Beside (get_or queue i 0) w → get_or labels w 0 ≡ get_or labels (get_or queue i 0) 0
    pub waiting : (i : ℕ) → head ≤ i → i < tail → get_or labels (get_or queue i 0) 0 + 1 ≡ next

  -- a visit of u: those beside it among the neighbors seen have a label, and labels and queue grew only by vertices labeled `start`
  pub record Visiting (start u : ℕ) (seen labels₀ queue₀ : List ℕ) (tail₀ : ℕ) (labels queue : List ℕ) (tail : ℕ) : Type 0 where
    pub queued : Queued (start + 1) labels queue tail
    pub grown : tail₀ ≤ tail
    pub kept : (v : ℕ) → T (not (blank labels₀ v)) → get_or labels v 0 ≡ get_or labels₀ v 0
    pub order : (i : ℕ) → i < tail₀ → get_or queue i 0 ≡ get_or queue₀ i 0
    pub added : (i : ℕ) → tail₀ ≤ i → i < tail → get_or labels (get_or queue i 0) 0 ≡ start
    pub reached : (w : ℕ) → In w seen → T (not (A w)) → level G A w ≡ level G A u → T (not (blank labels w))

  -- the level of a vertex without a label, and 65,535 for any other
  pub record Pends (pending labels : List ℕ) : Type 0 where
    pub extent : G.size ≤ length pending
    pub levels : (v : ℕ) → v < G.size → get_or pending v 0 ≡ cond (blank labels v) (level G A v) 65535

-- ---- the same over the arrays of the code

-- floods through an admitted table with the anchored bytes a
pub record Floods (s l a pending labels queue : List ℕ) (next head tail : ℕ) : Type 0 where
  pub admitted : Admitted s l a
  pub flooding : Flooding (graph_of s l) (anchored_by a) next head labels queue tail
  pub pends : Pends (graph_of s l) (anchored_by a) pending labels

-- in the flood from `start` the vertex u, of level k, is to be visited
pub record Visit (s l a pending labels queue : List ℕ) (k start u tail : ℕ) : Type 0 where
  pub admitted : Admitted s l a
  pub queued : Queued (graph_of s l) (anchored_by a) (start + 1) labels queue tail
  pub pends : Pends (graph_of s l) (anchored_by a) pending labels
  pub below : start < vertices s
  pub vertex : u < vertices s
  pub label : get_or labels u 0 ≡ start
  pub height : level (graph_of s l) (anchored_by a) u ≡ k

-- that is so with some bytes
pub record CanVisit (s l pending labels queue : List ℕ) (k start u tail : ℕ) : Type 0 where
  pub bytes : List ℕ
  pub state : Visit s l bytes pending labels queue k start u tail

-- the neighbors seen are a part of every such visit
pub record Visits (s l pending labels queue : List ℕ) (k start u tail : ℕ) (seen pending' labels' queue' : List ℕ) (tail' : ℕ) : Type 0 where
  pub moves : (a : List ℕ) → Visit s l a pending labels queue k start u tail
      → Visiting (graph_of s l) (anchored_by a) start u seen labels queue tail labels' queue' tail' × Pends (graph_of s l) (anchored_by a) pending' labels'

-- with some bytes the floods from vertices below `start` are done, and `start` is a vertex that is not anchored and has no label
pub record CanSpread (s l pending labels queue : List ℕ) (start tail : ℕ) : Type 0 where
  pub bytes : List ℕ
  pub floods : Floods s l bytes pending labels queue start tail tail
  pub free : T (not (anchored_by bytes start))
  pub vertex : start < vertices s
  pub none : T (blank labels start)

-- with all such bytes the flood from `start` is done
pub record Spreads (s l pending labels queue : List ℕ) (start tail : ℕ) (pending' labels' queue' : List ℕ) (tail' : ℕ) : Type 0 where
  pub moves : (a : List ℕ) → Floods s l a pending labels queue start tail tail → T (not (anchored_by a start)) → Floods s l a pending' labels' queue' (start + 1) tail' tail'
