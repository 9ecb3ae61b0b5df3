-- Document 01, "A session", with document 02, cards 4 and 6: what an event, from the graph G and the anchors A to H and B, disturbs, and the
-- rows it recomputes (redoes). Where a vertex is anchored, G and H are one graph; where an edge (pair) changes, A and B are one set.
use Rattle.std.specs.Prelude.{Bool, not, ◌&&◌, ◌||◌, ℕ, eqb}
use Rattle.std.specs.Bool.{beq}
use Rattle.finite.specs.Count.{count, below}
use Rattle.finite.specs.Search.{any, all, member}
use Rattle.anchored.specs.Graph.{Graph}
use Rattle.anchored.specs.Core.{level, greater, higher}
use Rattle.anchored.specs.Component.{together}
use Rattle.anchored.specs.Yield.{bare_level}

-- how many neighbors of w are anchored or of higher level than w
unfoldable pub above : Graph → (ℕ → Bool) → ℕ → ℕ
above G A w = count (higher G A (level G A w)) (G.neighbors w)

module _ (G H : Graph) (A B : ℕ → Bool) where
  -- w has the same neighbors in v's component before and after: the same pairs inside (document 02, card 6)
  unfoldable pub same_inside : ℕ → ℕ → Bool
  same_inside v w = all (λ p. not (together G A v p) || beq (member p (G.neighbors w)) (member p (H.neighbors w))) (below G.size)

  -- v's component is undisturbed: a component before and after, of the same vertices, edges inside and level, each with the same number above it
  unfoldable pub undisturbed : ℕ → Bool
  undisturbed v = not (A v) && not (B v) && eqb (level G A v) (level H B v)
      && all (λ w. beq (together G A v w) (together H B v w) && (not (together G A v w) || (eqb (above G A w) (above H B w) && same_inside v w))) (below G.size)

  -- u looks into a disturbed component before the event: a neighbor of greater pair is in one
  unfoldable pub sees_disturbed : ℕ → Bool
  sees_disturbed u = any (λ v. not (A v) && greater G A v u && not (undisturbed v)) (G.neighbors u)

  -- u looks into a new component after it
  unfoldable pub sees_new : ℕ → Bool
  sees_new u = any (λ v. not (B v) && greater H B v u && not (undisturbed v)) (H.neighbors u)

  -- the level or the bare level of u changed (document 02, cards 4 and 6)
  unfoldable pub moved : ℕ → Bool
  moved u = not (eqb (level G A u) (level H B u) && eqb (bare_level G u) (bare_level H u))

  -- the rows to be recomputed, `ends` being those of the event's edge
  unfoldable pub recomputed : (ℕ → Bool) → ℕ → Bool
  recomputed ends u = not (B u) && (sees_disturbed u || sees_new u || moved u || ends u)
