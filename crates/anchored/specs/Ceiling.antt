-- Document 02, card 11: the ceiling of a search, told before it: the upper bound of source document 000.
use Rattle.std.specs.Prelude.{Bool, not, ◌&&◌, cond, List, ℕ, zero, suc, ◌+◌, min, eqb, ltb, pos, ◌-ℤ◌}
use Rattle.std.specs.Int.Signed.{le_z}
use Rattle.finite.specs.Count.{sum}
use Rattle.anchored.specs.Graph.{Graph}
use Rattle.anchored.specs.Core.{level, layer}
use Rattle.anchored.specs.Followers.{first_step}
use Rattle.anchored.specs.Yield.{climb, net}

-- the sum, over the vertices of a list that are steps, of 1 plus the ceiling from there
unfoldable pub sum_steps : (ℕ → Bool) → (ℕ → ℕ) → List ℕ → ℕ
sum_steps steps from list = sum (λ w. cond (steps w) (1 + from w) 0) list

-- the cap of a ceiling
abbrev pub capped : ℕ → ℕ
capped m = min 65535 m

module _ (G : Graph) (A : ℕ → Bool) where
  -- a further step, from u to a neighbor w: not anchored, of the same level and greater layer; as `Walk` and `onward` have it
  unfoldable pub further_step : ℕ → ℕ → Bool
  further_step u w = not (A w) && eqb (level G A u) (level G A w) && ltb (layer G A u) (layer G A w)

module _ (G : Graph) (A : ℕ → Bool) where
  -- the ceiling from u, for walks of at most `steps` steps
  unfoldable pub ceiling_within : ℕ → ℕ → ℕ
  ceiling_within zero u = 0
  ceiling_within (suc steps) u = capped (sum_steps (further_step G A u) (ceiling_within steps) (G.neighbors u))

  -- the ceiling from u, where a walk has come to; layers rise at each step, so none goes on longer. Theorem `ceiling-further`
  unfoldable pub ceiling_from : ℕ → ℕ
  ceiling_from u = ceiling_within G.size u

  -- the ceiling of the search from x: the rule for a first step is used only for x
  unfoldable pub ceiling : ℕ → ℕ
  ceiling x = capped (sum_steps (first_step G A x) ceiling_from (G.neighbors x))

  -- the same sum without a cap: how many walks go on from u, of at most `steps` steps
  unfoldable pub walks_within : ℕ → ℕ → ℕ
  walks_within zero u = 0
  walks_within (suc steps) u = sum_steps (further_step G A u) (walks_within steps) (G.neighbors u)

  -- how many upstair walks there are from x: the ceiling without a cap. Theorem `ceiling-capped`
  unfoldable pub walks : ℕ → ℕ
  walks x = sum_steps (first_step G A x) (walks_within G.size) (G.neighbors x)

  -- the ceiling of w, less the climb that it would give up, is below the net yield of v
  unfoldable pub outdone : ℕ → ℕ → Bool
  outdone v w = not (le_z (net G A v) (pos (ceiling w) -ℤ pos (climb G A w)))
