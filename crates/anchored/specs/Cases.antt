-- Document 01, "Pools to test by": cases A to J, and smallest pools that single clauses of the definitions decide, in one computed test.
use Rattle.std.specs.Prelude.{◌≡◌, refl, Bool, true, false, List, [], ◌∷◌, ℕ, length, get_or, ℤ, pos, negsuc}
use Rattle.finite.specs.Count.{bit, tabulate, below, count, sum}
use Rattle.finite.specs.Search.{any, all, member, first_from, first, largest}
use Rattle.finite.specs.Best.{best_in, choice_in}
use Rattle.finite.specs.Falling.{select, falling}
use Rattle.finite.specs.Sets.{keep, having, rounds, grow}
use Rattle.finite.specs.Pairs.{pair_le}
use Rattle.anchored.specs.Graph.{Graph}
use Rattle.anchored.specs.Core.{batch, core, level, shell, layer, greater, higher}
use Rattle.anchored.specs.Component.{joins, around, component, together, heads, component_size, ranked}
use Rattle.anchored.specs.Followers.{follows, followers, follower_count, first_step, onward, candidates, reached, reached_count, mark}
use Rattle.anchored.specs.Yield.{bare_level, climb, net, net_yield, climbed, choice_of, choice}
use Rattle.anchored.specs.Collapse.{falls, fall_mark, exposed}
use Rattle.anchored.specs.Sheet.{is_defined, misplaced, too_high, too_low, too_late, fits, is_local}
use Rattle.anchored.specs.Step.{above, same_inside, undisturbed, sees_disturbed, sees_new, moved, recomputed}
use Rattle.anchored.specs.Session.{Row, status_of, row_of, turn, after, gained}

-- the graph with these neighbors of 0, of 1, and so on
abbrev pub graph : List (List ℕ) → Graph
graph lists = record { size = length lists; neighbors = λ v. get_or lists v [] }

abbrev single : Graph
single = graph ([] ∷ [])

abbrev pub chain : Graph
chain = graph ((1 ∷ []) ∷ (0 ∷ 2 ∷ []) ∷ (1 ∷ 3 ∷ []) ∷ (2 ∷ []) ∷ [])

abbrev pub star : Graph
star = graph ((1 ∷ 2 ∷ 3 ∷ []) ∷ (0 ∷ []) ∷ (0 ∷ []) ∷ (0 ∷ []) ∷ [])

abbrev pub kite : Graph
kite = graph ((1 ∷ 2 ∷ 3 ∷ []) ∷ (0 ∷ 2 ∷ []) ∷ (0 ∷ 1 ∷ []) ∷ (0 ∷ []) ∷ [])

abbrev pub broom : Graph
broom = graph ((1 ∷ 2 ∷ 3 ∷ []) ∷ (0 ∷ 4 ∷ []) ∷ (0 ∷ []) ∷ (0 ∷ []) ∷ (1 ∷ []) ∷ [])

abbrev pub at : List ℕ → ℕ → ℕ
at list i = get_or list i 0

abbrev pub among : List ℕ → ℕ → Bool
among vertices v = member v vertices

module _ (G : Graph) (A : ℕ → Bool) where
  -- levels, layers, components and follower counts
  abbrev rows : List (List ℕ)
  rows = let n = G.size in tabulate (level G A) n ∷ tabulate (layer G A) n ∷ tabulate (component G A) n ∷ tabulate (follower_count G A) n ∷ []

  -- net yields
  abbrev nets : List ℤ
  nets = tabulate (net_yield G A) G.size

  -- the marks of the search from x, and its counts of followers and of candidates
  abbrev search_from : ℕ → List (List ℕ)
  search_from x = tabulate (mark G A x) G.size ∷ (followers G A x ∷ reached G A x ∷ []) ∷ []

  -- whose level falls with x collapsed, and who is in a component to be searched
  abbrev collapse_of : ℕ → List (List ℕ)
  collapse_of x = tabulate (fall_mark G A x) G.size ∷ tabulate (λ v. bit (exposed G A x v)) G.size ∷ []

  -- whether a sheet is the defined one, and whether it passes the local test
  abbrev verdicts : List ℕ → List ℕ → List Bool
  verdicts lev lay = is_defined G A (at lev) (at lay) ∷ is_local G A (at lev) (at lay) ∷ []

  -- the status, lifted and redone of each request, and the stamps at the end
  abbrev session : List ℕ → List (List ℕ)
  session requests =
      let m = length requests in
      let row : ℕ → Row = λ i. row_of G (after G A requests i) (at requests i) in
      tabulate (λ i. (row i).status) m ∷ tabulate (λ i. (row i).lifted) m ∷ tabulate (λ i. (row i).redone) m
      ∷ tabulate (after G A requests m).stamps G.size ∷ []

  -- the climbs before and after the requests, and the net yields of the accepted ones
  abbrev sums : List ℕ → List ℤ
  sums requests =
      let m = length requests in pos (climbed G A) ∷ pos (climbed G (after G A requests m).anchors) ∷ gained G A requests m ∷ []

pub cases :
    -- A
    (rows single (among []) ≡ (0 ∷ []) ∷ (1 ∷ []) ∷ (0 ∷ []) ∷ (0 ∷ []) ∷ [])
    -- B: nobody follows itself
    × (rows (graph ((1 ∷ []) ∷ (0 ∷ []) ∷ [])) (among []) ≡ (1 ∷ 1 ∷ []) ∷ (1 ∷ 1 ∷ []) ∷ (0 ∷ 0 ∷ []) ∷ (0 ∷ 0 ∷ []) ∷ [])
    -- C: a batch goes together; no walk goes between 1 and 2, whose pairs are equal
    × (rows chain (among []) ≡ (1 ∷ 1 ∷ 1 ∷ 1 ∷ []) ∷ (1 ∷ 2 ∷ 2 ∷ 1 ∷ []) ∷ (0 ∷ 0 ∷ 0 ∷ 0 ∷ []) ∷ (0 ∷ 0 ∷ 0 ∷ 0 ∷ []) ∷ [])
    × (search_from chain (among []) 0 ≡ (0 ∷ 1 ∷ 0 ∷ 0 ∷ []) ∷ (0 ∷ 1 ∷ []) ∷ [])
    × (search_from chain (among []) 1 ≡ (0 ∷ 0 ∷ 0 ∷ 0 ∷ []) ∷ (0 ∷ 0 ∷ []) ∷ [])
    -- D: 2 and 3 have their level of C and another follower count; no walk goes to an anchor
    × (rows chain (among (0 ∷ [])) ≡ (65535 ∷ 1 ∷ 1 ∷ 1 ∷ []) ∷ (0 ∷ 3 ∷ 2 ∷ 1 ∷ []) ∷ (65535 ∷ 1 ∷ 1 ∷ 1 ∷ []) ∷ (65535 ∷ 0 ∷ 1 ∷ 2 ∷ []) ∷ [])
    × (search_from chain (among (0 ∷ [])) 1 ≡ (0 ∷ 0 ∷ 0 ∷ 0 ∷ []) ∷ (0 ∷ 0 ∷ []) ∷ [])
    × (search_from chain (among (0 ∷ [])) 3 ≡ (0 ∷ 2 ∷ 2 ∷ 0 ∷ []) ∷ (2 ∷ 2 ∷ []) ∷ [])
    -- the reached counts of C, where nobody follows anybody, and of D
    × (tabulate (reached_count chain (among [])) 4 ∷ tabulate (reached_count chain (among (0 ∷ []))) 4 ∷ [] ≡ (1 ∷ 0 ∷ 0 ∷ 1 ∷ []) ∷ (65535 ∷ 0 ∷ 1 ∷ 2 ∷ []) ∷ [])
    -- E: neighbors anchored earlier count
    × (rows chain (among (0 ∷ 3 ∷ [])) ≡ (65535 ∷ 2 ∷ 2 ∷ 65535 ∷ []) ∷ (0 ∷ 1 ∷ 1 ∷ 0 ∷ []) ∷ (65535 ∷ 1 ∷ 1 ∷ 65535 ∷ []) ∷ (65535 ∷ 0 ∷ 0 ∷ 65535 ∷ []) ∷ [])
    -- each gives up its climb
    × (nets chain (among (0 ∷ 3 ∷ [])) ≡ negsuc 32767 ∷ negsuc 0 ∷ negsuc 0 ∷ negsuc 32767 ∷ [])
    -- F
    × (rows (graph ((1 ∷ 3 ∷ []) ∷ (0 ∷ 2 ∷ []) ∷ (1 ∷ 3 ∷ []) ∷ (0 ∷ 2 ∷ []) ∷ [])) (among []) ≡ (2 ∷ 2 ∷ 2 ∷ 2 ∷ []) ∷ (1 ∷ 1 ∷ 1 ∷ 1 ∷ []) ∷ (0 ∷ 0 ∷ 0 ∷ 0 ∷ []) ∷ (0 ∷ 0 ∷ 0 ∷ 0 ∷ []) ∷ [])
    -- G
    × (rows star (among (1 ∷ [])) ≡ (1 ∷ 65535 ∷ 1 ∷ 1 ∷ []) ∷ (2 ∷ 0 ∷ 1 ∷ 1 ∷ []) ∷ (0 ∷ 65535 ∷ 0 ∷ 0 ∷ []) ∷ (0 ∷ 65535 ∷ 1 ∷ 1 ∷ []) ∷ [])
    × (search_from star (among (1 ∷ [])) 2 ≡ (2 ∷ 0 ∷ 0 ∷ 0 ∷ []) ∷ (1 ∷ 1 ∷ []) ∷ [])
    -- H
    × (rows (graph ((1 ∷ 2 ∷ 3 ∷ []) ∷ (0 ∷ 2 ∷ 3 ∷ []) ∷ (0 ∷ 1 ∷ 3 ∷ []) ∷ (0 ∷ 1 ∷ 2 ∷ []) ∷ [])) (among []) ≡ (3 ∷ 3 ∷ 3 ∷ 3 ∷ []) ∷ (1 ∷ 1 ∷ 1 ∷ 1 ∷ []) ∷ (0 ∷ 0 ∷ 0 ∷ 0 ∷ []) ∷ (0 ∷ 0 ∷ 0 ∷ 0 ∷ []) ∷ [])
    -- I: the first request has rows recomputed, though every level stays
    × (session chain (among []) (0 ∷ 0 ∷ 3 ∷ 9 ∷ []) ≡ (0 ∷ 16 ∷ 0 ∷ 15 ∷ []) ∷ (0 ∷ 0 ∷ 2 ∷ 0 ∷ []) ∷ (2 ∷ 0 ∷ 2 ∷ 0 ∷ []) ∷ (1 ∷ 3 ∷ 3 ∷ 3 ∷ []) ∷ [])
    × (sums chain (among []) (0 ∷ 0 ∷ 3 ∷ 9 ∷ []) ≡ pos 0 ∷ pos 2 ∷ pos 2 ∷ [])
    -- J, and the defined sheet
    × (verdicts chain (among []) (1 ∷ 1 ∷ 1 ∷ 1 ∷ []) (1 ∷ 2 ∷ 3 ∷ 1 ∷ []) ≡ false ∷ false ∷ [])
    × (verdicts chain (among []) (1 ∷ 1 ∷ 1 ∷ 1 ∷ []) (1 ∷ 2 ∷ 2 ∷ 1 ∷ []) ≡ true ∷ true ∷ [])
    -- sheets that the local test refuses by one clause alone: a layer 0, a level too high, too low, a layer too late, an anchored entry
    × (verdicts single (among []) (0 ∷ []) (0 ∷ []) ≡ false ∷ false ∷ [])
    × (verdicts single (among []) (1 ∷ []) (1 ∷ []) ≡ false ∷ false ∷ [])
    × (verdicts (graph ((1 ∷ []) ∷ (0 ∷ []) ∷ [])) (among []) (0 ∷ 0 ∷ []) (1 ∷ 1 ∷ []) ≡ false ∷ false ∷ [])
    × (verdicts single (among []) (0 ∷ []) (2 ∷ []) ≡ false ∷ false ∷ [])
    × (verdicts single (among (0 ∷ [])) (0 ∷ []) (0 ∷ []) ≡ false ∷ false ∷ [])
    × (verdicts single (among (0 ∷ [])) (65535 ∷ []) (1 ∷ []) ≡ false ∷ false ∷ [])
    × (verdicts single (among (0 ∷ [])) (65535 ∷ []) (0 ∷ []) ≡ true ∷ true ∷ [])
    -- no row looks into a disturbed or a new component; one looks into a disturbed one; one only into a new one
    × (session (graph ((1 ∷ 2 ∷ []) ∷ (0 ∷ []) ∷ (0 ∷ []) ∷ [] ∷ [])) (among []) (3 ∷ []) ≡ (0 ∷ []) ∷ (0 ∷ []) ∷ (0 ∷ []) ∷ (0 ∷ 0 ∷ 0 ∷ 1 ∷ []) ∷ [])
    × (session (graph ((1 ∷ 2 ∷ []) ∷ (0 ∷ []) ∷ (0 ∷ []) ∷ [])) (among (1 ∷ [])) (0 ∷ []) ≡ (0 ∷ []) ∷ (0 ∷ []) ∷ (1 ∷ []) ∷ (1 ∷ 0 ∷ 1 ∷ []) ∷ [])
    × (session (graph ((1 ∷ 3 ∷ []) ∷ (0 ∷ 2 ∷ []) ∷ (1 ∷ []) ∷ (0 ∷ []) ∷ [])) (among []) (2 ∷ []) ≡ (0 ∷ []) ∷ (0 ∷ []) ∷ (2 ∷ []) ∷ (1 ∷ 0 ∷ 1 ∷ 1 ∷ []) ∷ [])
    -- of the component of 0 and 2 only the number above 0 changes; 1 and 4 have 0 above them before and after; 1 joins 0
    × (session kite (among (1 ∷ [])) (3 ∷ []) ≡ (0 ∷ []) ∷ (0 ∷ []) ∷ (1 ∷ []) ∷ (0 ∷ 0 ∷ 1 ∷ 1 ∷ []) ∷ [])
    × (session broom (among (2 ∷ 3 ∷ [])) (0 ∷ []) ≡ (0 ∷ []) ∷ (0 ∷ []) ∷ (1 ∷ []) ∷ (1 ∷ 1 ∷ 0 ∷ 0 ∷ 0 ∷ []) ∷ [])
    × (session broom (among (2 ∷ 3 ∷ [])) (4 ∷ []) ≡ (0 ∷ []) ∷ (1 ∷ []) ∷ (1 ∷ []) ∷ (0 ∷ 1 ∷ 0 ∷ 0 ∷ 1 ∷ []) ∷ [])
    -- the level of 0 changes, and it looks into no component
    × (session (graph ((1 ∷ 2 ∷ []) ∷ (0 ∷ []) ∷ (0 ∷ []) ∷ [])) (among (1 ∷ [])) (2 ∷ []) ≡ (0 ∷ []) ∷ (1 ∷ []) ∷ (1 ∷ []) ∷ (1 ∷ 0 ∷ 1 ∷ []) ∷ [])
    -- a first step may go to a higher level, a further one may not; a candidate need not follow
    × (search_from kite (among []) 3 ≡ (1 ∷ 0 ∷ 0 ∷ 0 ∷ []) ∷ (0 ∷ 1 ∷ []) ∷ [])
    × (search_from (graph ((1 ∷ []) ∷ (0 ∷ 2 ∷ []) ∷ (1 ∷ 3 ∷ 5 ∷ 6 ∷ []) ∷ (2 ∷ 4 ∷ 5 ∷ []) ∷ (3 ∷ 5 ∷ []) ∷ (2 ∷ 3 ∷ 4 ∷ []) ∷ (2 ∷ []) ∷ [])) (among (5 ∷ 6 ∷ [])) 0 ≡ (0 ∷ 2 ∷ 0 ∷ 0 ∷ 0 ∷ 0 ∷ 0 ∷ []) ∷ (1 ∷ 1 ∷ []) ∷ [])
    × (search_from (graph ((1 ∷ 3 ∷ []) ∷ (0 ∷ 2 ∷ 4 ∷ []) ∷ (1 ∷ 3 ∷ []) ∷ (0 ∷ 2 ∷ 4 ∷ 5 ∷ []) ∷ (1 ∷ 3 ∷ []) ∷ (3 ∷ []) ∷ [])) (among (4 ∷ 5 ∷ [])) 0 ≡ (0 ∷ 1 ∷ 0 ∷ 2 ∷ 0 ∷ 0 ∷ []) ∷ (1 ∷ 2 ∷ []) ∷ [])
    -- an anchor parts vertices of one level; two levels are two components, each with one number and its size
    × (rows star (among (0 ∷ [])) ≡ (65535 ∷ 1 ∷ 1 ∷ 1 ∷ []) ∷ (0 ∷ 1 ∷ 1 ∷ 1 ∷ []) ∷ (65535 ∷ 1 ∷ 2 ∷ 3 ∷ []) ∷ (65535 ∷ 0 ∷ 0 ∷ 0 ∷ []) ∷ [])
    × (tabulate (λ v. bit (heads kite (among []) v)) 4 ∷ tabulate (component_size kite (among [])) 4 ∷ [] ≡ (1 ∷ 0 ∷ 0 ∷ 1 ∷ []) ∷ (3 ∷ 3 ∷ 3 ∷ 1 ∷ []) ∷ [])
    -- the component list: two levels; equal levels; a higher number first because of its level; all anchored; no vertices
    × (ranked kite (among []) ∷ ranked star (among (0 ∷ [])) ∷ ranked (graph ([] ∷ (2 ∷ []) ∷ (1 ∷ []) ∷ [] ∷ [])) (among []) ∷ ranked chain (among (0 ∷ 1 ∷ 2 ∷ 3 ∷ [])) ∷ ranked (graph []) (among []) ∷ []
    ≡ (0 ∷ 3 ∷ []) ∷ (1 ∷ 2 ∷ 3 ∷ []) ∷ (1 ∷ 0 ∷ 3 ∷ []) ∷ [] ∷ [] ∷ [])
    -- the choice of a round: the greatest net yield, the lowest of equals, also at 0 and below; the size if all are anchored
    × (choice chain (among (0 ∷ [])) ∷ choice star (among (1 ∷ [])) ∷ choice chain (among []) ∷ choice chain (among (0 ∷ 3 ∷ [])) ∷ choice single (among (0 ∷ [])) ∷ [] ≡ 3 ∷ 2 ∷ 0 ∷ 1 ∷ 1 ∷ [])
    -- 0 and 3 have no followers, and 0 has climbed
    × (choice (graph ((1 ∷ 2 ∷ []) ∷ (0 ∷ []) ∷ (0 ∷ []) ∷ [] ∷ [])) (among (1 ∷ 2 ∷ [])) ≡ 3)
    -- a collapse: x itself is not marked; nobody falls where enough are left, or by one of a lower level; x's own component and a lower one fall
    × (collapse_of (graph ((1 ∷ []) ∷ (0 ∷ []) ∷ [])) (among []) 0 ≡ (0 ∷ 1 ∷ []) ∷ (1 ∷ 1 ∷ []) ∷ [])
    × (collapse_of chain (among []) 0 ≡ (0 ∷ 0 ∷ 0 ∷ 0 ∷ []) ∷ (1 ∷ 1 ∷ 1 ∷ 1 ∷ []) ∷ [])
    × (collapse_of kite (among []) 3 ≡ (0 ∷ 0 ∷ 0 ∷ 0 ∷ []) ∷ (0 ∷ 0 ∷ 0 ∷ 1 ∷ []) ∷ [])
    × (collapse_of kite (among []) 0 ≡ (0 ∷ 1 ∷ 1 ∷ 1 ∷ []) ∷ (1 ∷ 1 ∷ 1 ∷ 1 ∷ []) ∷ [])
    -- one that falls still holds a neighbor of a lower level; an anchored x, and one who falls without being its neighbor
    × (collapse_of kite (among []) 1 ≡ (1 ∷ 0 ∷ 1 ∷ 0 ∷ []) ∷ (1 ∷ 1 ∷ 1 ∷ 0 ∷ []) ∷ [])
    × (collapse_of chain (among (0 ∷ 3 ∷ [])) 0 ≡ (0 ∷ 1 ∷ 1 ∷ 0 ∷ []) ∷ (0 ∷ 1 ∷ 1 ∷ 0 ∷ []) ∷ [])
    × (collapse_of star (among (1 ∷ [])) 1 ≡ (0 ∷ 0 ∷ 0 ∷ 0 ∷ []) ∷ (1 ∷ 0 ∷ 1 ∷ 1 ∷ []) ∷ [])
unfolding tabulate below count sum any all first_from first largest best_in choice_in select falling keep having rounds grow pair_le batch core level shell layer greater higher joins around component together heads component_size ranked follows followers follower_count first_step onward candidates reached reached_count mark bare_level climb net net_yield climbed choice_of choice falls fall_mark exposed is_defined misplaced too_high too_low too_late fits is_local above same_inside undisturbed sees_disturbed sees_new moved recomputed status_of row_of turn after gained
cases = (refl, refl, refl, refl, refl, refl, refl, refl, refl, refl, refl, refl, refl, refl, refl, refl, refl, refl, refl, refl, refl, refl, refl, refl, refl, refl, refl, refl, refl, refl, refl, refl, refl, refl, refl, refl, refl, refl, refl, refl, refl, refl, refl, refl, refl, refl, refl, refl)
