-- The floods over the arrays of the code.
use Rattle.std.specs.Prelude.{◌≡◌, List, ℕ}
use Rattle.flood.specs.declared.Numbering.{Numbering}
use Rattle.flood.specs.Flooding.{Floods, CanVisit, Visits, CanSpread, Spreads}

-- numbers go into the same array
abbrev pub SameNumbers : Numbering → Numbering → Type 0
SameNumbers w w' = w'.component.ghost_name ≡ w.component.ghost_name

-- the floods from vertices below `next` are done
abbrev pub FloodsBelow : List ℕ → List ℕ → List ℕ → Numbering → ℕ → Type 0
FloodsBelow s l a w next = Floods s l a w.pending w.component.now w.queue next w.tail w.tail

-- in the flood from `start` the vertex u, of level k, is to be visited
abbrev pub CanVisitFrom : List ℕ → List ℕ → Numbering → ℕ → ℕ → ℕ → Type 0
CanVisitFrom s l w k start u = CanVisit s l w.pending w.component.now w.queue k start u w.tail

-- the neighbors seen are a part of the visit
abbrev pub VisitsFrom : List ℕ → List ℕ → Numbering → Numbering → ℕ → ℕ → ℕ → List ℕ → Type 0
VisitsFrom s l w w' k start u seen =
    Visits s l w.pending w.component.now w.queue k start u w.tail seen w'.pending w'.component.now w'.queue w'.tail

-- `start` is the next vertex to flood from
abbrev pub CanSpreadFrom : List ℕ → List ℕ → Numbering → ℕ → Type 0
CanSpreadFrom s l w start = CanSpread s l w.pending w.component.now w.queue start w.tail

-- the flood from `start` is done
abbrev pub SpreadsFrom : List ℕ → List ℕ → Numbering → Numbering → ℕ → Type 0
SpreadsFrom s l w w' start = Spreads s l w.pending w.component.now w.queue start w.tail w'.pending w'.component.now w'.queue w'.tail
