-- Document 01, "A session": the plain session, a fold over the requests (names).
use Rattle.std.specs.Prelude.{Bool, cond, ◌||◌, List, ℕ, zero, suc, get_or, ltb, eqb, ℤ, pos, ◌+ℤ◌}
use Rattle.finite.specs.Count.{count, below}
use Rattle.anchored.specs.Graph.{Graph}
use Rattle.anchored.specs.Followers.{adding, followers}
use Rattle.anchored.specs.Yield.{nobody, net}
use Rattle.anchored.specs.Step.{recomputed}

-- what the plain session keeps: the set of anchors, and a stamp for each vertex
pub record Plain : Type 0 where
  pub anchors : ℕ → Bool
  pub stamps : ℕ → ℕ

-- the three numbers of a request
pub record Row : Type 0 where
  pub status : ℕ
  pub lifted : ℕ
  pub redone : ℕ

module _ (G : Graph) where
  -- the rows that x, anchored too, makes stale: no edge changes
  abbrev pub stale : (ℕ → Bool) → ℕ → ℕ → Bool
  stale A x = recomputed G G A (adding A x) nobody

  -- 15 for no vertex, 16 for a vertex in the set, else 0
  unfoldable pub status_of : (ℕ → Bool) → ℕ → ℕ
  status_of A x = cond (ltb x G.size) (cond (A x) 16 0) 15

  -- the numbers of request x
  unfoldable pub row_of : Plain → ℕ → Row
  row_of S x = let A = S.anchors in cond (eqb (status_of A x) 0)
      (record { status = 0; lifted = followers G A x; redone = count (stale A x) (below G.size) })
      (record { status = status_of A x; lifted = 0; redone = 0 })

  -- what request x at a position, from 1, leaves: x in the set, its row and the recomputed ones stamped
  unfoldable pub turn : ℕ → ℕ → Plain → Plain
  turn position x S = let A = S.anchors in cond (eqb (status_of A x) 0)
      (record { anchors = adding A x; stamps = λ v. cond (eqb x v || stale A x v) position (S.stamps v) })
      S

  -- the session after the first i requests
  unfoldable pub after : (ℕ → Bool) → List ℕ → ℕ → Plain
  after A requests zero = record { anchors = A; stamps = λ v. 0 }
  after A requests (suc i) = turn (suc i) (get_or requests i 0) (after A requests i)

  -- the net yields of the accepted ones among the first i requests, each as it stood just before its step, together
  unfoldable pub gained : (ℕ → Bool) → List ℕ → ℕ → ℤ
  gained A requests zero = pos 0
  gained A requests (suc i) = let B = (after A requests i).anchors in let x = get_or requests i 0 in
      gained A requests i +ℤ cond (eqb (status_of B x) 0) (net G B x) (pos 0)
