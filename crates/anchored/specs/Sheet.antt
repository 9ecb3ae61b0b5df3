-- Document 01, "The level sheet": a sheet, lev and lay, is the defined one; and the local test of it, vertex by vertex, in the four parts
-- that document 02, card 2, numbers 14, 19, 20 and 21.
use Rattle.std.specs.Prelude.{Bool, not, cond, ◌&&◌, ◌||◌, ℕ, ◌-◌, ◌≤◌, ◌<◌, leb, ltb, eqb}
use Rattle.finite.specs.Count.{count, below}
use Rattle.finite.specs.Search.{all}
use Rattle.finite.specs.Pairs.{pair_le}
use Rattle.anchored.specs.Graph.{Graph}
use Rattle.anchored.specs.Core.{level, layer}

-- w is anchored, or its pair in the sheet is at or above (k, l); (k, 0) asks for level k or more
abbrev pub at_least : (ℕ → Bool) → (ℕ → ℕ) → (ℕ → ℕ) → ℕ → ℕ → ℕ → Bool
at_least A lev lay k l w = A w || pair_le k l (lev w) (lay w)

module _ (G : Graph) (A : ℕ → Bool) (lev lay : ℕ → ℕ) where
  -- both halves are the defined ones
  unfoldable pub is_defined : Bool
  is_defined = all (λ v. eqb (lev v) (level G A v) && eqb (lay v) (layer G A v)) (below G.size)

  -- how many neighbors of v are anchored, or at or above (k, l)
  abbrev pub support : ℕ → ℕ → ℕ → ℕ
  support v k l = count (at_least A lev lay k l) (G.neighbors v)

  -- 14: an anchored entry that is not 65,535 and 0, or a layer 0 elsewhere
  unfoldable pub misplaced : ℕ → Bool
  misplaced v = cond (A v) (not (eqb (lev v) 65535 && eqb (lay v) 0)) (eqb (lay v) 0)

  -- 19, of level k and layer l: fewer than k neighbors, anchored or of level k or more
  unfoldable pub too_high : ℕ → Bool
  too_high v = not (A v) && ltb (support v (lev v) 0) (lev v)

  -- 20: more than k neighbors, anchored or at or above (k, l)
  unfoldable pub too_low : ℕ → Bool
  too_low v = not (A v) && ltb (lev v) (support v (lev v) (lay v))

  -- 21: l above 1, and fewer than k + 1 neighbors, anchored or at or above (k, l - 1)
  unfoldable pub too_late : ℕ → Bool
  too_late v = not (A v) && ltb 1 (lay v) && leb (support v (lev v) (lay v - 1)) (lev v)

  unfoldable pub fits : ℕ → Bool
  fits v = not (misplaced v || too_high v || too_low v || too_late v)

  -- what `fits` says of a vertex that is not anchored, as facts: law `fits-free`
  pub record Fits (v : ℕ) : Type 0 where
    pub positive : 1 ≤ lay v
    -- (a) enough neighbors of its level or more
    pub enough : lev v ≤ support v (lev v) 0
    -- (b) few at or above its pair
    pub few : support v (lev v) (lay v) ≤ lev v
    -- (c) more than that one layer lower
    pub later : 1 < lay v → lev v < support v (lev v) (lay v - 1)

  -- the local test. Theorem `local_iff`: exactly the defined sheet passes it
  unfoldable pub is_local : Bool
  is_local = all fits (below G.size)
