-- What one event does to the table and the record: one turn of the plain session.
use Rattle.std.specs.Prelude.{◌≡◌, List, ℕ}
use Rattle.table.specs.Table.{vertices}
use Rattle.anchored.specs.Events.{Event, Pool, event_row, event_turn}
use Rattle.pool.specs.Input.{graph_of}
use Rattle.edit.specs.Edit.{Tabled}
use Rattle.records.specs.Record.{Right, plain_of, Stands}
use Rattle.records.specs.declared.Record.{Record}
use Rattle.step.specs.Turn.{row_as}
use Rattle.step.specs.declared.Stepped.{Stepped}

-- the plain session that a table and a record stand for
abbrev pub pool_of : List ℕ → List ℕ → Record → Pool
pool_of s l kept = record { graph = graph_of s l; plain = plain_of kept }

-- the record left as it is, and a status
abbrev pub refusing : Record → ℕ → Stepped
refusing kept status = record { kept = kept; row = record { status = status; lifted = 0; redone = 0 } }

-- what an event at a position makes of the table s and l and of a right record: exactly one turn of the plain session; reached counts are
-- kept as before
pub record Turned (s l : List ℕ) (position : ℕ) (e : Event) (kept : Record) (s' l' : List ℕ) (left : Stepped) : Type 0 where
  pub table : Tabled s' l' (event_turn position e (pool_of s l kept)).graph
  pub right : Right s' l' left.kept
  pub reaching : left.kept.reaching ≡ kept.reaching
  pub stands : Stands (vertices s) left.kept (event_turn position e (pool_of s l kept)).plain
  pub row : row_as left.row ≡ event_row (pool_of s l kept) e
