-- What is left of a number when units are taken off it. The law is in proofs/Lines.
use Rattle.std.specs.Prelude.{◌≡◌, ℕ, ◌+◌, ◌*◌, ◌<◌}
use Rattle.sheet.specs.declared.line.Units.{Units}

-- v is so many units and a rest, which is less than one
pub record Parted (v unit : ℕ) (units : Units) : Type 0 where
  pub whole : units.rest + units.count * unit ≡ v
  pub less : units.rest < unit
