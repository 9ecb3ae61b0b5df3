-- Document 02, card 4: bare levels, net yields, and document 01's choice of a round by them.
use Rattle.std.specs.Prelude.{Bool, false, not, cond, ℕ, ◌-◌, ℤ, pos, negsuc, ◌-ℤ◌}
use Rattle.std.specs.Int.Signed.{le_z}
use Rattle.finite.specs.Count.{sum, below}
use Rattle.finite.specs.Best.{choice_in}
use Rattle.anchored.specs.Graph.{Graph}
use Rattle.anchored.specs.Core.{level}
use Rattle.anchored.specs.Followers.{followers}

-- the yield that an anchored vertex reads: -32,768, less than any other
abbrev pub least : ℤ
least = negsuc 32767

-- no vertex is anchored
abbrev pub nobody : ℕ → Bool
nobody v = false

-- the bare level: the level with nobody anchored
unfoldable pub bare_level : Graph → ℕ → ℕ
bare_level G v = level G nobody v

module _ (G : Graph) (A : ℕ → Bool) where
  -- the climb of v: its level less its bare level
  unfoldable pub climb : ℕ → ℕ
  climb v = level G A v - bare_level G v

  -- the net yield of x: its followers less its climb, which it gives up
  unfoldable pub net : ℕ → ℤ
  net x = pos (followers G A x) -ℤ pos (climb x)

  -- the net yield of a row
  unfoldable pub net_yield : ℕ → ℤ
  net_yield x = cond (A x) least (net x)

  -- the climbs of the vertices that are not anchored, together
  unfoldable pub climbed : ℕ
  climbed = sum (λ v. cond (A v) 0 (climb v)) (below G.size)

  -- w has no greater net yield than v
  abbrev pub no_more : ℕ → ℕ → Bool
  no_more w v = le_z (net w) (net v)

  -- of the vertices that pass a test the one of the greatest net yield, the lowest of equals; size if none passes
  unfoldable pub choice_of : (ℕ → Bool) → ℕ
  choice_of p = choice_in p no_more G.size

  -- the choice of a round: of those not anchored
  unfoldable pub choice : ℕ
  choice = choice_of (λ v. not (A v))
