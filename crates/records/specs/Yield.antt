-- The net yield of a row, by the numbers that a record has of it.
use Rattle.std.specs.Prelude.{◌≡◌, false, cond, List, ℕ, ◌-◌, ◌≤◌, ◌<◌, get_or, ℤ, pos, ◌-ℤ◌, eqb}
use Rattle.anchored.specs.Yield.{least}
use Rattle.records.specs.declared.Record.{Record}

-- the least for an anchored vertex, else its followers less its level above the bare one
abbrev pub yield_by : ℕ → ℕ → ℕ → ℕ → ℤ
yield_by anchored followers level bare = cond (eqb anchored 1) least (pos followers -ℤ pos (level - bare))

-- that of vertex v, by the arrays of a record
abbrev pub yield_of : List ℕ → List ℕ → List ℕ → List ℕ → ℕ → ℤ
yield_of a fol lev bare v = yield_by (get_or a v 0) (get_or fol v 0) (get_or lev v 0) (get_or bare v 0)

abbrev pub yield_at : Record → ℕ → ℤ
yield_at kept v = yield_of kept.anchored kept.followers kept.columns.level kept.bare v

-- the numbers of a vertex that is not anchored are small, and its level is no lower than the bare one
abbrev pub Small : ℕ → ℕ → ℕ → ℕ → Type 0
Small anchored followers level bare = (eqb anchored 1 ≡ false → (followers ≤ 1024) × (level ≤ 1024) × (bare ≤ level))

-- those of the first n vertices are
abbrev pub Smalls : Record → ℕ → Type 0
Smalls kept n = (v : ℕ) → v < n → Small (get_or kept.anchored v 0) (get_or kept.followers v 0) (get_or kept.columns.level v 0) (get_or kept.bare v 0)
