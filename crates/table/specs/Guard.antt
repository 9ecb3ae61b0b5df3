-- Guards: what the tests before the work refuse, and what follows from it.
use Rattle.std.specs.Prelude.{Bool, cond, List, ◌++◌, ℕ, length, drop, ltb, Option, Some, None, Result, Ok, Err}
use Rattle.finite.specs.Search.{first}
use Rattle.table.specs.Rule.{Refusal}

-- what the tests before the work answer: nothing is refused, or the refusal
abbrev pub Guard : Type 0
Guard = Result (Unit {0}) Refusal

abbrev pub clear : Guard
clear = Ok tt

abbrev pub refused : ℕ → ℕ → Guard
refused k p = Err (record { number = k; place = p })

-- refusal k at a place, where there is one
abbrev pub refused_at : ℕ → Option ℕ → Guard
refused_at k (Some p) = refused k p
refused_at k None = clear

-- the number of a guard: 0 where nothing is refused
abbrev pub number_of : Guard → ℕ
number_of (Ok tt) = 0
number_of (Err r) = r.number

-- refusal k at the lowest index below n that passes the test, and else the rest
abbrev pub refuse : ℕ → (ℕ → Bool) → ℕ → Guard → Guard
refuse k p n rest = cond (ltb (first p n) n) (refused k (first p n)) rest

-- the answer of an operation: its accepted one, or the refusal handed on
unfoldable pub answer : {X : Type 0} → Guard → X → (Refusal → X) → X
answer (Ok tt) accepted hand = accepted
answer (Err r) accepted hand = hand r

-- the next guard, where nothing is refused first
abbrev pub past : Guard → Guard → Guard
past first next = answer first next Err

-- what is lent holds afterwards: the new contents, or what it held
abbrev pub held : {X : Type 0} → Guard → X → X → X
held guard new before = answer guard new (λ r. before)

-- a list at the front of a slice, and behind it what the slice held
abbrev pub front : List ℕ → List ℕ → List ℕ
front new before = new ++ drop (length new) before
