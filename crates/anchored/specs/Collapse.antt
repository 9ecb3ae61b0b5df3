-- Document 02, "When a rider quits": x collapsed (the rider and his pairs gone from the table), and those whose level then falls.
use Rattle.std.specs.Prelude.{Bool, not, ◌&&◌, ◌||◌, ℕ, ltb, eqb}
use Rattle.finite.specs.Count.{bit}
use Rattle.finite.specs.Search.{any}
use Rattle.finite.specs.Falling.{select}
use Rattle.anchored.specs.Graph.{Graph}
use Rattle.anchored.specs.Core.{level, higher}
use Rattle.anchored.specs.Component.{together}
use Rattle.anchored.specs.Followers.{adding}

-- the graph with x collapsed: an edge stays unless it is one of x. Theorem `collapse_means`: levels there are those of sets without x
abbrev pub collapse : Graph → ℕ → Graph
collapse G x = record { size = G.size; neighbors = λ v. select (λ w. not (eqb x v || eqb x w)) (G.neighbors v) }

module _ (G : Graph) (A : ℕ → Bool) where
  -- v, another than x and not anchored, has a lower level with x collapsed
  unfoldable pub falls : ℕ → ℕ → Bool
  falls x v = not (adding A x v) && ltb (level (collapse G x) A v) (level G A v)

  -- its mark
  unfoldable pub fall_mark : ℕ → ℕ → ℕ
  fall_mark x v = bit (falls x v)

  -- v is in a component (patch) to be searched: x's own, or a lower one that x has a neighbor in; for an anchored x, any that it has one in.
  -- Theorem `falls-exposed`
  unfoldable pub exposed : ℕ → ℕ → Bool
  exposed x v = together G A v x || (higher G A (level G A v) x && any (together G A v) (G.neighbors x))
