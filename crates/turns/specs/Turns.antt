-- Document 02, card 9, on the lists that are handed in: houses, quotas and turns.
use Rattle.std.specs.Prelude.{List, ℕ, get_or}
use Rattle.anchored.specs.Houses.{Houses, Turns}
use Rattle.turns.specs.declared.next.Turns.{Turns as TurnsHeld}

-- so many houses, and the house of each vertex by a list
abbrev pub houses_by : List ℕ → ℕ → Houses
houses_by hs count = record { count = count; house = λ v. get_or hs v 0 }

-- the quota of each house by a list
abbrev pub quota_by : List ℕ → ℕ → ℕ
quota_by quotas c = get_or quotas c 0

-- the turns that the code holds
abbrev pub turns_by : TurnsHeld → Turns
turns_by t = record { next = t.next; left = λ c. get_or t.left c 0 }
