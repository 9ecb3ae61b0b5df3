-- What the code finds in one pass: the lowest number of a test that some entry fails, and the lowest vertex that fails it.
use Rattle.std.specs.Prelude.{◌≡◌, Bool, cond, List, ℕ, ◌≤◌, ◌<◌, length, get_or, Option, Some, None, ◌⊎◌}
use Rattle.table.specs.Rule.{Refusal, rule_number}
use Rattle.table.specs.declared.refusal.Rule.{Rule}
use Rattle.anchored.specs.Graph.{Graph}
use Rattle.anchored.specs.Sheet.{at_least, misplaced, too_high, too_low, too_late}
use Rattle.pool.specs.Input.{graph_of, anchored_by}

-- w has a byte and an entry in either half
abbrev pub HasRow : List ℕ → List ℕ → List ℕ → ℕ → Type 0
HasRow a lev lay w = (w < length a) × (w < length lev) × (w < length lay)

-- w is anchored, or its pair is at or above (k, l)
abbrev pub stands_at : List ℕ → List ℕ → List ℕ → ℕ → ℕ → ℕ → Bool
stands_at a lev lay k l w = at_least (anchored_by a) (λ v. get_or lev v 0) (λ v. get_or lay v 0) k l w

-- the lowest number of a test that the entry of v fails; 65,535 if it passes all
abbrev pub fault_at : Graph → (ℕ → Bool) → (ℕ → ℕ) → (ℕ → ℕ) → ℕ → ℕ
fault_at G A lev lay v =
    cond (misplaced G A lev lay v) 14
    (cond (too_high G A lev lay v) 19
    (cond (too_low G A lev lay v) 20
    (cond (too_late G A lev lay v) 21 65535)))

-- the same of a table, bytes and a sheet
abbrev pub fault_of : List ℕ → List ℕ → List ℕ → List ℕ → List ℕ → ℕ → ℕ
fault_of s l a lev lay = fault_at (graph_of s l) (anchored_by a) (λ w. get_or lev w 0) (λ w. get_or lay w 0)

-- the number of a rule that is broken, if one is
abbrev pub failed : Option Rule → ℕ
failed None = 65535
failed (Some rule) = rule_number rule

-- the number and the place of what is found, if anything is
abbrev pub number_or_none : Option Refusal → ℕ
number_or_none None = 65535
number_or_none (Some r) = r.number

abbrev pub place_or_0 : Option Refusal → ℕ
place_or_0 None = 0
place_or_0 (Some r) = r.place

-- what is found has a number of a test
abbrev pub IsNumbered : Option Refusal → Type 0
IsNumbered r = number_or_none r < 65535 ⊎ (r ≡ None)

-- of f 0 to f (n - 1) the lowest is `number`, first at `place`; 65,535 where none is lower
pub record Lowest (f : ℕ → ℕ) (n number place : ℕ) : Type 0 where
  pub small : number ≤ 65535
  pub least : (v : ℕ) → v < n → number ≤ f v
  pub inside : number < 65535 → place < n
  pub at_place : number < 65535 → f place ≡ number
  pub before : number < 65535 → (v : ℕ) → v < place → number < f v
