-- What one request does to the record: one turn of the plain session.
use Rattle.std.specs.Prelude.{◌≡◌, List, ℕ}
use Rattle.table.specs.Table.{vertices}
use Rattle.anchored.specs.Session.{turn, row_of}
use Rattle.anchored.specs.Session.{Row as PlainRow}
use Rattle.pool.specs.Input.{graph_of}
use Rattle.records.specs.Record.{Right, plain_of, Stands}
use Rattle.records.specs.declared.Record.{Record}
use Rattle.step.specs.declared.Row.{Row}
use Rattle.step.specs.declared.Stepped.{Stepped}

-- the numbers of a request
abbrev pub row_as : Row → PlainRow
row_as row = record { status = row.status; lifted = row.lifted; redone = row.redone }

-- what an accepted request leaves: the record and two numbers
abbrev pub accepting : Record → ℕ → ℕ → Stepped
accepting kept lifted redone = record { kept = kept; row = record { status = 0; lifted = lifted; redone = redone } }

-- what a refused one leaves: the record as it is, and a status
abbrev pub refusing : Record → ℕ → Stepped
refusing kept status = record { kept = kept; row = record { status = status; lifted = 0; redone = 0 } }

-- what request x at a position leaves of a right record: exactly one turn of the plain session; reached counts are kept as before
pub record Turned (s l : List ℕ) (position x : ℕ) (kept : Record) (left : Stepped) : Type 0 where
  pub right : Right s l left.kept
  pub reaching : left.kept.reaching ≡ kept.reaching
  pub stands : Stands (vertices s) left.kept (turn (graph_of s l) position x (plain_of kept))
  pub row : row_as left.row ≡ row_of (graph_of s l) (plain_of kept) x
