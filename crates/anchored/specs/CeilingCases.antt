-- Document 02, card 11: ceilings of small pools beside what their searches reach, in one computed test.
use Rattle.std.specs.Prelude.{◌≡◌, refl, List, [], ◌∷◌, map, ℕ}
use Rattle.finite.specs.Count.{bit, tabulate, below, count, sum}
use Rattle.finite.specs.Search.{any, first_from, first, largest}
use Rattle.finite.specs.Sets.{keep, having, rounds, grow}
use Rattle.finite.specs.Pairs.{pair_le}
use Rattle.anchored.specs.Graph.{Graph}
use Rattle.anchored.specs.Core.{batch, core, level, shell, layer, greater}
use Rattle.anchored.specs.Followers.{follows, followers, first_step, onward, candidates, reached}
use Rattle.anchored.specs.Yield.{bare_level, climb, net}
use Rattle.anchored.specs.Ceiling.{further_step, sum_steps, ceiling_within, ceiling_from, ceiling, walks_within, walks, outdone}
use Rattle.anchored.specs.Cases.{graph, chain, kite, broom, among}

-- from 3 a walk goes on to 1 and to 0, and from 1 to 0
abbrev fork : Graph
fork = graph ((1 ∷ 2 ∷ 3 ∷ 4 ∷ []) ∷ (0 ∷ 2 ∷ 3 ∷ []) ∷ (0 ∷ 1 ∷ []) ∷ (0 ∷ 1 ∷ []) ∷ (0 ∷ []) ∷ [])

-- 0 climbs to level 2 between its two neighbors, once they are anchored; 3 is alone
abbrev climber : Graph
climber = graph ((1 ∷ 2 ∷ []) ∷ (0 ∷ []) ∷ (0 ∷ []) ∷ [] ∷ [])

-- ceilings of some vertices, their walks and what they reach
abbrev told : Graph → List ℕ → List ℕ → List (List ℕ)
told G anchors vertices = map (ceiling G (among anchors)) vertices ∷ map (walks G (among anchors)) vertices ∷ map (reached G (among anchors)) vertices ∷ []

pub ceiling-cases :
    -- C; D, where the walk from 3 has two steps
    (told chain [] (0 ∷ 1 ∷ 2 ∷ 3 ∷ []) ≡ (1 ∷ 0 ∷ 0 ∷ 1 ∷ []) ∷ (1 ∷ 0 ∷ 0 ∷ 1 ∷ []) ∷ (1 ∷ 0 ∷ 0 ∷ 1 ∷ []) ∷ [])
    × (told chain (0 ∷ []) (1 ∷ 2 ∷ 3 ∷ []) ≡ (0 ∷ 1 ∷ 2 ∷ []) ∷ (0 ∷ 1 ∷ 2 ∷ []) ∷ (0 ∷ 1 ∷ 2 ∷ []) ∷ [])
    -- a first step may go to a higher level, a further one may not
    × (told kite [] (0 ∷ 1 ∷ 2 ∷ 3 ∷ []) ≡ (0 ∷ 0 ∷ 0 ∷ 1 ∷ []) ∷ (0 ∷ 0 ∷ 0 ∷ 1 ∷ []) ∷ (0 ∷ 0 ∷ 0 ∷ 1 ∷ []) ∷ [])
    × (told broom (2 ∷ 3 ∷ []) (0 ∷ 1 ∷ 4 ∷ []) ≡ (0 ∷ 1 ∷ 1 ∷ []) ∷ (0 ∷ 1 ∷ 1 ∷ []) ∷ (0 ∷ 1 ∷ 1 ∷ []) ∷ [])
    -- two walks from 3 end in 0, which is reached once
    × (told fork (2 ∷ 4 ∷ []) (0 ∷ 1 ∷ 3 ∷ []) ≡ (0 ∷ 1 ∷ 3 ∷ []) ∷ (0 ∷ 1 ∷ 3 ∷ []) ∷ (0 ∷ 1 ∷ 2 ∷ []) ∷ [])
    -- D: 3 outdoes 1 and 2, and is outdone neither by 2 nor by itself
    × (map (λ w. bit (outdone chain (among (0 ∷ [])) 3 w)) (1 ∷ 2 ∷ 3 ∷ []) ∷ map (λ w. bit (outdone chain (among (0 ∷ [])) 2 w)) (1 ∷ 2 ∷ 3 ∷ []) ∷ [] ≡ (1 ∷ 1 ∷ 0 ∷ []) ∷ (1 ∷ 0 ∷ 0 ∷ []) ∷ [])
    -- neither reaches anybody, and 0 would give up its climb
    × (bit (outdone climber (among (1 ∷ 2 ∷ [])) 3 0) ∷ bit (outdone climber (among (1 ∷ 2 ∷ [])) 0 3) ∷ [] ≡ 1 ∷ 0 ∷ [])
unfolding tabulate below count sum any first_from first largest keep having rounds grow pair_le batch core level shell layer greater follows followers first_step further_step onward candidates reached bare_level climb net sum_steps ceiling_within ceiling_from ceiling walks_within walks outdone
ceiling-cases = (refl, refl, refl, refl, refl, refl, refl)
