-- The first d houses from the next one on are passed. Assumes nothing.
use Rattle.finite.specs.Search.{NoneBelow}
use Rattle.anchored.proofs.Houses.{waits}
use Rattle.pool.specs.Input.{anchored_by}
use Rattle.turns.specs.Turns.{houses_by, turns_by}
use Rattle.turns.proofs.next.find_house.Given as goal

abbrev pub invariant-loop-d : goal.invariant-loop-d
invariant-loop-d l = NoneBelow (waits (houses_by l.house l.houses) l.n (anchored_by l.anchored) (turns_by l.turns)) l.d
