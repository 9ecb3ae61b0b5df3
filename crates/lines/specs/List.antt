-- A list of numbers at a place of the text, a space before each. The laws are in proofs/Lists.
use Rattle.std.specs.Prelude.{cond, List, [], ◌∷◌, ℕ, zero, suc, ◌+◌, ◌-◌, length, get_or, set, leb, eqb, Option, Some, None}
use Rattle.finite.specs.Search.{ascending}
use Rattle.reader.specs.Number.{number_at, on_number}
use Rattle.reader.specs.Form.{on_next}

-- numbers read, and where the text goes on behind them
pub record Numbers : Type 0 where
  pub values : List ℕ
  pub next : Option ℕ

-- no number, and one number before others
abbrev pub none : Option ℕ → Numbers
none next = record { values = []; next = next }

abbrev pub more : ℕ → Numbers → Numbers
more v r = record { values = v ∷ r.values; next = r.next }

-- a list of at most `limit` numbers: it ends where no space follows, and departs where a space has no number behind it
unfoldable pub list_from : ℕ → List ℕ → ℕ → Numbers
list_from zero t p = none (Some p)
list_from (suc limit) t p =
    cond (eqb (get_or t p 0) 32)
    (on_number (number_at t (p + 1)) (λ v next. more v (list_from limit t next)) (none None))
    (none (Some p))

-- a list: it has fewer numbers than the text has bytes left
unfoldable pub list_at : List ℕ → ℕ → Numbers
list_at t p = list_from (suc (length t) - p) t p

-- the answer for a list that came to a value, with the place behind it
abbrev pub ended : {A : Type 0} → A → Option ℕ → Option (A × ℕ)
ended value next = on_next next (λ p. Some (value, p)) None

-- the answer for a list of neighbors: the number of links with it, `before` being there already
abbrev pub listed_of : ℕ → Numbers → Option (ℕ × ℕ)
listed_of before r = ended (before + length r.values) r.next

-- the first number of n or more, if there is one
abbrev pub first_beyond : ℕ → List ℕ → Option ℕ
first_beyond n [] = None
first_beyond n (v ∷ vs) = cond (leb n v) (Some v) (first_beyond n vs)

-- the first number of n or more, of one found earlier and of v
abbrev pub or_beyond : Option ℕ → ℕ → ℕ → Option ℕ
or_beyond (Some beyond) n v = Some beyond
or_beyond None n v = cond (leb n v) (Some v) None

-- a list that departs unless it is strictly ascending
abbrev pub ordered : Numbers → Numbers
ordered r = record { values = r.values; next = cond (ascending r.values) r.next None }

-- the answer for the list of the retained: its first number of n or more
abbrev pub retained_of : ℕ → Numbers → Option (Option ℕ × ℕ)
retained_of n r = ended (first_beyond n r.values) (ordered r).next

-- anchored (retained) bytes with a 1 for each number, as far as there is room
abbrev pub anchor : List ℕ → List ℕ → List ℕ
anchor bytes [] = bytes
anchor bytes (v ∷ vs) = anchor (set bytes v 1) vs
