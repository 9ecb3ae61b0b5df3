-- Document 01, "Rounds and the answer sheet": a round is a session's name, and its name is the choice.
use Rattle.std.specs.Prelude.{Bool, false, cond, List, ℕ, zero, suc, ltb, Some, None}
use Rattle.finite.specs.Count.{tabulate}
use Rattle.anchored.specs.Graph.{Graph}
use Rattle.anchored.specs.Followers.{follows}
use Rattle.anchored.specs.Yield.{choice}
use Rattle.anchored.specs.Session.{Plain, turn, row_of}
use Rattle.sheet.specs.Line.{Round, line_of}

-- the plain session after i rounds, each a request for the choice; with nobody left the choice is no vertex and changes nothing
unfoldable pub played : Graph → (ℕ → Bool) → ℕ → Plain
played G A zero = record { anchors = A; stamps = λ v. 0 }
played G A (suc i) = turn G (suc i) (choice G (played G A i).anchors) (played G A i)

-- the round on S that names x, as its line shows it: nobody, dots and 0 where x is no vertex
unfoldable pub round_for : Graph → Plain → ℕ → Round
round_for G S x = cond (ltb x G.size)
    (record { chosen = Some x; lifted = follows G S.anchors x; redone = (row_of G S x).redone })
    (record { chosen = None; lifted = λ v. false; redone = 0 })

-- the round that follows on S: it names the choice, which is no vertex where all are anchored
unfoldable pub round_on : Graph → Plain → Round
round_on G S = round_for G S (choice G S.anchors)

-- the first r rounds
unfoldable pub rounds_of : Graph → (ℕ → Bool) → ℕ → List Round
rounds_of G A r = tabulate (λ i. round_on G (played G A i)) r

-- a round's line
abbrev pub shown : ℕ → ℕ → Round → List ℕ
shown n number r = line_of number r.chosen r.lifted n r.redone
