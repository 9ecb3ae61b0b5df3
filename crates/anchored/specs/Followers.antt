-- Document 01, "The local search": followers (riders lifted), candidates (riders reached), marks.
use Rattle.std.specs.Prelude.{◌≡◌, Bool, not, cond, ◌&&◌, ◌||◌, List, ℕ, ◌<◌, T, ltb, eqb}
use Rattle.finite.specs.Count.{In, count, below}
use Rattle.finite.specs.Search.{any, member}
use Rattle.finite.specs.Sets.{has, having, rounds, grow}
use Rattle.anchored.specs.Graph.{Graph}
use Rattle.anchored.specs.Core.{level, layer, greater}

-- the anchors with x too
abbrev pub adding : (ℕ → Bool) → ℕ → ℕ → Bool
adding A x v = A v || eqb x v

module _ (G : Graph) (A : ℕ → Bool) where
  -- v follows x: with x anchored too its level is greater than without
  unfoldable pub follows : ℕ → ℕ → Bool
  follows x v = not (adding A x v) && ltb (level G A v) (level G (adding A x) v)

  -- how many follow x
  unfoldable pub followers : ℕ → ℕ
  followers x = count (follows x) (below G.size)

  -- the follower count of a row: 65,535 for an anchored vertex
  unfoldable pub follower_count : ℕ → ℕ
  follower_count x = cond (A x) 65535 (followers x)

  -- the first step of an upstair walk from x: to a neighbor, not anchored, of greater pair
  unfoldable pub first_step : ℕ → ℕ → Bool
  first_step x v = not (A v) && member v (G.neighbors x) && greater G A v x

  -- an upstair walk from x to v: a first step, and from then on steps to a neighbor, not anchored, of the same level and greater layer
  pub data Walk (x : ℕ) : ℕ → Type 0 where
    start : {v : ℕ} → v < G.size → T (first_step x v) → Walk x v
    step : {w v : ℕ} → Walk x w → v < G.size → T (not (A v)) → In w (G.neighbors v) → level G A w ≡ level G A v → layer G A w < layer G A v → Walk x v

  -- a further step to v, from a neighbor already reached, of the same level and smaller layer
  unfoldable pub onward : List Bool → ℕ → Bool
  onward s v = not (A v) && any (λ w. has s w && eqb (level G A w) (level G A v) && ltb (layer G A w) (layer G A v)) (G.neighbors v)

  -- the ends of upstair walks from x. Theorem `candidate_iff`
  unfoldable pub candidates : ℕ → List Bool
  candidates x = rounds (grow G.size onward) G.size (having (first_step x) G.size)

  -- the reached count
  unfoldable pub reached : ℕ → ℕ
  reached x = count (has (candidates x)) (below G.size)

  -- the reached count of a row (document 02, card 10): 65,535 for an anchored vertex
  unfoldable pub reached_count : ℕ → ℕ
  reached_count x = cond (A x) 65535 (reached x)

  -- the mark of v in the search from x
  unfoldable pub mark : ℕ → ℕ → ℕ
  mark x v = cond (follows x v) 2 (cond (has (candidates x) v) 1 0)
