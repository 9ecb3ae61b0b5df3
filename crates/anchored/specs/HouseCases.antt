-- Document 02, card 9: houses in turn on small graphs, in one computed test.
use Rattle.std.specs.Prelude.{◌≡◌, refl, List, [], ◌∷◌, ℕ, length}
use Rattle.finite.specs.Count.{tabulate, below, count}
use Rattle.finite.specs.Search.{any, all, first_from, first, largest}
use Rattle.finite.specs.Best.{best_in, choice_in}
use Rattle.finite.specs.Sets.{keep, having, rounds, grow}
use Rattle.finite.specs.Pairs.{pair_le}
use Rattle.anchored.specs.Graph.{Graph}
use Rattle.anchored.specs.Core.{batch, core, level, shell, layer, greater, higher}
use Rattle.anchored.specs.Component.{joins, around, component, together}
use Rattle.anchored.specs.Followers.{follows, followers}
use Rattle.anchored.specs.Yield.{bare_level, climb, net, choice_of}
use Rattle.anchored.specs.Step.{above, same_inside, undisturbed, sees_disturbed, sees_new, moved, recomputed}
use Rattle.anchored.specs.Session.{status_of, turn}
use Rattle.anchored.specs.Houses.{Houses, Sharing, turns_after, is_passed, skipped, served, after_turn, served_on, after_line, named, after_lines, house_choice}
use Rattle.anchored.specs.Cases.{chain, star, at, among}

-- the house served, and the vertex named, in each of m lines
abbrev lines : Graph → List ℕ → List ℕ → List ℕ → ℕ → List (List ℕ)
lines G anchors house quotas m =
    let H : Houses = record { count = length quotas; house = at house } in
    let before : ℕ → Sharing = after_lines G H (house_choice G H) (at quotas) (among anchors) in
    tabulate (λ i. served_on G H (before i)) m ∷ tabulate (λ i. named G H (house_choice G H) i (before i)) m ∷ []

pub house-cases :
    -- each in turn; a house with nobody left is passed, and so is one with its quota spent; all passed: nobody
    (lines chain [] (0 ∷ 0 ∷ 1 ∷ 1 ∷ []) (2 ∷ 2 ∷ []) 4 ≡ (0 ∷ 1 ∷ 0 ∷ 1 ∷ []) ∷ (0 ∷ 3 ∷ 1 ∷ 2 ∷ []) ∷ [])
    × (lines chain [] (0 ∷ 1 ∷ 1 ∷ 1 ∷ []) (3 ∷ 1 ∷ []) 4 ≡ (0 ∷ 1 ∷ 2 ∷ 2 ∷ []) ∷ (0 ∷ 3 ∷ 4 ∷ 4 ∷ []) ∷ [])
    × (lines chain [] (0 ∷ 1 ∷ 2 ∷ 2 ∷ []) (1 ∷ 0 ∷ 3 ∷ []) 4 ≡ (0 ∷ 2 ∷ 2 ∷ 3 ∷ []) ∷ (0 ∷ 3 ∷ 2 ∷ 4 ∷ []) ∷ [])
    -- the next turn is that of the house after the one served, not after the one passed; anchored ones at the start
    × (lines star [] (1 ∷ 0 ∷ 0 ∷ 1 ∷ []) (2 ∷ 3 ∷ []) 5 ≡ (0 ∷ 1 ∷ 0 ∷ 1 ∷ 2 ∷ []) ∷ (1 ∷ 3 ∷ 2 ∷ 0 ∷ 4 ∷ []) ∷ [])
    × (lines star (1 ∷ []) (0 ∷ 1 ∷ 1 ∷ 1 ∷ []) (1 ∷ 1 ∷ []) 2 ≡ (0 ∷ 1 ∷ []) ∷ (0 ∷ 2 ∷ []) ∷ [])
unfolding tabulate below count any all first_from first largest best_in choice_in keep having rounds grow pair_le batch core level shell layer greater higher joins around component together follows followers bare_level climb net choice_of above same_inside undisturbed sees_disturbed sees_new moved recomputed status_of turn turns_after is_passed skipped served after_turn after_line named after_lines house_choice
house-cases = (refl, refl, refl, refl, refl)
