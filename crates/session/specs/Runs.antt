-- What is promised where nothing of a session is refused.
use Rattle.std.specs.Prelude.{◌≡◌, List, ℕ, ◌≤◌, ◌<◌, length, get_or}
use Rattle.table.specs.Table.{vertices}
use Rattle.table.specs.Guard.{clear}
use Rattle.edit.specs.Lent.{check_lent}
use Rattle.session.specs.Run.{Lists, size, Slices}

-- a lent table that passes its check, a byte of at most 1 for each vertex, and at most 4,096 events in lists of one length
pub record Runs (s l given : List ℕ) (events : Lists) : Type 0 where
  pub table : check_lent s l ≡ clear
  pub long : length given ≡ vertices s
  pub bytes : (v : ℕ) → v < vertices s → get_or given v 0 ≤ 1
  pub firsts : length events.firsts ≡ size events
  pub seconds : length events.seconds ≡ size events
  pub few : size events ≤ 4096

-- lent slices of their lengths: those of the record of n places, those of the events of m
pub record Fits (n m : ℕ) (lent : Slices) : Type 0 where
  pub anchored : length lent.anchored ≡ n
  pub levels : length lent.levels ≡ n
  pub layers : length lent.layers ≡ n
  pub components : length lent.components ≡ n
  pub yields : length lent.yields ≡ n
  pub reached : length lent.reached ≡ n
  pub stamps : length lent.stamps ≡ n
  pub status : length lent.status ≡ m
  pub lifted : length lent.lifted ≡ m
  pub redone : length lent.redone ≡ m
