-- The candidates over plain lists: the test of a step, the queue, and what reaching promises.
use Rattle.std.specs.Prelude.{◌≡◌, Bool, true, false, not, cond, ◌&&◌, ◌||◌, List, [], ◌∷◌, ◌++◌, ℕ, ◌≤◌, ◌<◌, length, take, get_or, eqb}
use Rattle.finite.specs.Count.{In, Distinct}
use Rattle.finite.specs.Search.{member}
use Rattle.finite.specs.Sets.{has}
use Rattle.finite.specs.Pairs.{pair_le}
use Rattle.table.specs.Table.{vertices}
use Rattle.anchored.specs.Followers.{candidates}
use Rattle.pool.specs.Input.{graph_of, anchored_by}
use Rattle.candidates.specs.declared.Step.{Step}
use Rattle.candidates.specs.declared.Step.TheVariants.{First, Further}

-- two vertices of one level
abbrev pub alike : List ℕ → ℕ → ℕ → Bool
alike levels v w = eqb (get_or levels v 0) (get_or levels w 0)

-- the pair of w is greater than that of u
abbrev pub greater_of : List ℕ → List ℕ → ℕ → ℕ → Bool
greater_of levels layers w u = not (pair_le (get_or levels w 0) (get_or layers w 0) (get_or levels u 0) (get_or layers u 0))

-- the step of a walk that may change the level
abbrev pub is_first : Step → Bool
is_first First = true
is_first Further = false

-- a walk steps from u to w: not anchored, after the first step of the same level, and of greater pair
unfoldable pub steps_of : List ℕ → List ℕ → List ℕ → Bool → ℕ → ℕ → Bool
steps_of a levels layers first u w = eqb (get_or a w 0) 0 && (first || alike levels w u) && greater_of levels layers w u

-- ---- the queue

-- the queue with w put at its end, if w passes and does not stand there yet
unfoldable pub visit : (ℕ → Bool) → List ℕ → ℕ → List ℕ
visit p q w = cond (p w && not (member w q)) (q ++ w ∷ []) q

-- the same for each number of a list in turn
unfoldable pub visit_all : (ℕ → Bool) → List ℕ → List ℕ → List ℕ
visit_all p q [] = q
visit_all p q (w ∷ ws) = visit_all p (visit p q w) ws

-- the first `tail` places of the queue hold vertices, each once, and the marks are 2 for just these
pub record Queued (n : ℕ) (marks queue : List ℕ) (tail : ℕ) : Type 0 where
  pub long : n ≤ length marks
  pub wide : n ≤ length queue
  pub room : tail ≤ length queue
  pub distinct : Distinct (take tail queue)
  pub within : (v : ℕ) → In v (take tail queue) → v < n
  pub marked : (v : ℕ) → get_or marks v 0 ≡ cond (member v (take tail queue)) 2 0

-- the queue holds the candidates
pub record Reached (s l a : List ℕ) (x : ℕ) (marks queue : List ℕ) (tail : ℕ) : Type 0 where
  pub queued : Queued (vertices s) marks queue tail
  pub all : (v : ℕ) → member v (take tail queue) ≡ has (candidates (graph_of s l) (anchored_by a) x) v
