-- The peeling over the worksheet of the code.
use Rattle.std.specs.Prelude.{◌≡◌, List, [], ℕ}
use Rattle.anchored.specs.Graph.{Graph}
use Rattle.peel.specs.declared.Worksheet.{Worksheet}
use Rattle.peel.specs.Peeling.{Peels, Long, CanStrike, Strikes, CanRemove, Removes, CanLook, Looks}

-- levels and layers go into the same arrays
abbrev pub SameSheet : Worksheet → Worksheet → Type 0
SameSheet w w' = (w'.level.ghost_name ≡ w.level.ghost_name) × (w'.layer.ghost_name ≡ w.layer.ghost_name)

-- the arrays have 1,024 places
abbrev pub IsLong : Worksheet → Type 0
IsLong w = Long w.degree w.level.now w.layer.now w.queue

-- the shells below k are done
abbrev pub PeelsTo : Graph → List ℕ → Worksheet → ℕ → Type 0
PeelsTo G a w k = Peels G a w.degree w.level.now w.layer.now k 0 [] [] [] 0 w.tail

-- some peeling has `part` due
abbrev pub CanStrikeAll : Worksheet → ℕ → ℕ → List ℕ → Type 0
CanStrikeAll w k turn part = CanStrike w.degree w.level.now w.layer.now k turn part w.tail

-- `part` is struck
abbrev pub StrikesAll : Worksheet → Worksheet → ℕ → ℕ → List ℕ → Type 0
StrikesAll w w' k turn part =
    Strikes w.degree w.level.now w.layer.now w.queue w'.degree w'.level.now w'.layer.now w'.queue k turn part w.tail w'.tail

-- some peeling of the table has a batch waiting in the queue, from head on
abbrev pub CanRemoveFrom : List ℕ → List ℕ → Worksheet → ℕ → ℕ → ℕ → Type 0
CanRemoveFrom s l w k turn head = CanRemove s l w.degree w.level.now w.layer.now w.queue k turn head w.tail

-- the batch is removed
abbrev pub RemovesFrom : List ℕ → List ℕ → Worksheet → Worksheet → ℕ → ℕ → ℕ → Type 0
RemovesFrom s l w w' k turn head =
    Removes s l w.degree w.level.now w.layer.now w.queue w'.degree w'.level.now w'.layer.now w'.queue k turn head w.tail w'.tail

-- some peeling is at the beginning of shell k, has seen the vertices below `seen`, and has all below `last`
abbrev pub CanLookUp : List ℕ → Worksheet → ℕ → ℕ → ℕ → Type 0
CanLookUp a w k seen last = CanLook a w.degree w.level.now w.layer.now k seen last w.tail

-- the vertices from `seen` up to, not including, `seen'` are looked at, and no degree changes
abbrev pub LooksUp : List ℕ → Worksheet → Worksheet → ℕ → ℕ → ℕ → Type 0
LooksUp a w w' k seen seen' =
    (w'.degree ≡ w.degree) × Looks a w.degree w.level.now w.layer.now w.queue w'.level.now w'.layer.now w'.queue k seen seen' w.tail w'.tail
