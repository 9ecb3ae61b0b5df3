-- Listing components from scratch arrays of levels and component numbers: what the steps promise one another.
use Rattle.std.specs.Prelude.{List, ℕ, ◌<◌, get_or, eqb}
use Rattle.finite.specs.Count.{count, below}

-- how many of the first n vertices have component number c
abbrev pub members : List ℕ → ℕ → ℕ → ℕ
members component n c = count (λ v. eqb (get_or component v 0) c) (below n)

-- the first c numbers are places of an array
abbrev pub Placed : ℕ → List ℕ → Type 0
Placed c numbers = (i : ℕ) → i < c → get_or numbers i 0 < 1024
