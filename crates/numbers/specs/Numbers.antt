-- The numbers of an answer, as Rust and C get them: 0, an accepted call's values and the size of its table, or a refusal's number and place.
use Rattle.std.specs.Prelude.{ℕ, Option, Some, None, Result, Ok, Err}
use Rattle.numbers.specs.declared.Answer.{Answer}
use Rattle.numbers.specs.declared.Sheeted.{Sheeted}
use Rattle.table.specs.Rule.{Refusal}
use Rattle.table.specs.declared.size.Size.{Size}
use Rattle.search.specs.declared.find.Found.{Found}

-- an accepted call, with its values and the size of its table
abbrev pub accepted_as : ℕ → ℕ → Size → Answer
accepted_as first second size = record { number = 0; first = first; second = second; edges = size.edges; max_degree = size.max_degree }

-- a refused call, which says nothing of a size
abbrev pub refused_as : Refusal → Answer
refused_as r = record { number = r.number; first = r.place; second = 0; edges = 0; max_degree = 0 }

-- a call: what an accepted one is as numbers, or its refusal
abbrev pub told_as : {A : Type 0} → (A → Answer) → Result A Refusal → Answer
told_as accepted (Ok a) = accepted a
told_as accepted (Err r) = refused_as r

abbrev pub checked_as : Result Size Refusal → Answer
checked_as = told_as (accepted_as 0 0)

abbrev pub worked_as : Result Size Refusal → Answer
worked_as = told_as (accepted_as 0 0)

abbrev pub levels_as : Result Size Refusal → Answer
levels_as = told_as (accepted_as 0 0)

abbrev pub listed_as : Result (ℕ × Size) Refusal → Answer
listed_as = told_as (λ p. accepted_as p.0 0 p.1)

abbrev pub searched_as : Result (Found × Size) Refusal → Answer
searched_as = told_as (λ p. accepted_as p.0.lifted p.0.reached p.1)

abbrev pub bounded_as : Result (ℕ × Size) Refusal → Answer
bounded_as = told_as (λ p. accepted_as p.0 0 p.1)

abbrev pub collapsed_as : Result Size Refusal → Answer
collapsed_as = told_as (accepted_as 0 0)

-- the day and 1, or two zeros where there is none
abbrev pub day_as : Option ℕ → Size → Answer
day_as (Some day) size = accepted_as day 1 size
day_as None size = accepted_as 0 0 size

abbrev pub dated_as : Result (Option ℕ × Size) Refusal → Answer
dated_as = told_as (λ p. day_as p.0 p.1)

abbrev pub shared_as : Result (ℕ × Size) Refusal → Answer
shared_as = told_as (λ p. accepted_as p.0 0 p.1)

abbrev pub ran_as : Result Size Refusal → Answer
ran_as = told_as (accepted_as 0 0)

-- the text-to-sheet call answers two numbers
abbrev pub answered_as : Result ℕ Refusal → Sheeted
answered_as (Ok size) = record { number = 0; value = size }
answered_as (Err r) = record { number = r.number; value = r.place }
