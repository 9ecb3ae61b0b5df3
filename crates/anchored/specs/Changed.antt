-- Components known by their numbers: an executable form of `undisturbed` for the code, for an event from the graph G and the anchors A to
-- H and B. Theorem `changed-before`, `changed-after`: it is that definition.
use Rattle.std.specs.Prelude.{◌≡◌, Bool, not, ◌&&◌, ◌||◌, ℕ, ◌<◌, T, eqb}
use Rattle.finite.specs.Count.{below}
use Rattle.finite.specs.Search.{any, member}
use Rattle.anchored.specs.Graph.{Graph}
use Rattle.anchored.specs.Core.{level}
use Rattle.anchored.specs.Component.{component, together}
use Rattle.anchored.specs.Step.{above, undisturbed}

module _ (G H : Graph) (A B : ℕ → Bool) where
  -- what is asked of a set so that its numbers tell of edges inside components: no member is in an undisturbed component, and within a
  -- component without a member the edges are the same
  pub record Tells (bound : ℕ → Bool) : Type 0 where
    pub far : (f w : ℕ) → f < G.size → w < G.size → T (undisturbed G H A B f) → T (together G A f w) → T (not (bound w))
    pub near : (f w p : ℕ) → w < G.size → T (together G A f w) → T (together G A f p) → T (not (bound w)) → T (not (bound p))
        → member p (G.neighbors w) ≡ member p (H.neighbors w)

  module _ (bound : ℕ → Bool) where
    -- v is anchored neither before nor after, its level, component number and number above are the same, and it is not bound
    unfoldable pub steady : ℕ → Bool
    steady v = not (A v) && not (B v) && eqb (level G A v) (level H B v) && eqb (component G A v) (component H B v) && eqb (above G A v) (above H B v) && not (bound v)

    -- some vertex that is not steady has component number c before or after
    unfoldable pub changed : ℕ → Bool
    changed c = any (λ v. not (steady v) && (eqb (component G A v) c || eqb (component H B v) c)) (below G.size)
