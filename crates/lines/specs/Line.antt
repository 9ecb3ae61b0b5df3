-- The lines of the text, by their kinds of form. The laws are in proofs/Lines.
use Rattle.std.specs.Prelude.{cond, List, ℕ, eqb, Option, Some, None}
use Rattle.finite.specs.Bytes.{bytes}
use Rattle.reader.specs.Number.{on_number}
use Rattle.reader.specs.Form.{skip_at, on_next, form_at}
use Rattle.lines.specs.List.{Numbers, none, list_at, ordered}
use Rattle.lines.specs.declared.line.Form.{Form}
use Rattle.lines.specs.declared.line.Line.{Line}

-- (riders n)
abbrev pub riders_at : List ℕ → ℕ → Option (ℕ × ℕ)
riders_at t p = form_at t p (bytes "(riders ") (bytes ")\n")

-- a list and the bytes that close its line
abbrev pub closed : List ℕ → List ℕ → Numbers → Numbers
closed t tail r = record { values = r.values; next = on_next r.next (λ last. skip_at t last tail) None }

-- (rider v (with ..))
unfoldable pub rider_at : List ℕ → ℕ → ℕ → Numbers
rider_at t v p =
    on_number (form_at t p (bytes "(rider ") (bytes " (with"))
    (λ rider first. cond (eqb rider v) (closed t (bytes "))\n") (list_at t first)) (none None))
    (none None)

-- (retained ..), strictly ascending
unfoldable pub retained_at : List ℕ → ℕ → Numbers
retained_at t p = on_next (skip_at t p (bytes "(retained")) (λ first. closed t (bytes ")\n") (ordered (list_at t first))) (none None)

-- (rounds r)
abbrev pub rounds_at : List ℕ → ℕ → Option (ℕ × ℕ)
rounds_at t p = form_at t p (bytes "(rounds ") (bytes ")\n")

-- a form's single number, if it has one
abbrev pub number_of_form : Form → Option ℕ
number_of_form (Form.Riders n) = Some n
number_of_form (Form.Rider v) = Some v
number_of_form Form.Retained = None
number_of_form (Form.Rounds r) = Some r

-- a line with what it says
abbrev pub kept : {A : Type 0} → ℕ → Form → A → Line × A
kept number form value = (record { number = number; form = form }, value)

-- the answer for a line that has one number
abbrev pub kept_form : ℕ → (ℕ → Form) → Option (ℕ × ℕ) → Option ((Line × ℕ) × ℕ)
kept_form number form m = on_number m (λ v next. Some (kept number (form v) v, next)) None

-- the answer for a line that has a list, which came to k
abbrev pub kept_list : {A : Type 0} → ℕ → Form → A → Numbers → Option ((Line × A) × ℕ)
kept_list number form k r = on_next r.next (λ next. Some (kept number form k, next)) None
