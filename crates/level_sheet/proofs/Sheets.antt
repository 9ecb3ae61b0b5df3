-- An accepted sheet of an admitted input is the defined one, as the search and the cascade take it. Assumes nothing.
use mathlib.Core.List.{List}
use Prim.Native.Nat.{ℕ}
use native.Mathlib.Omega.{arith}
use Rattle.pool.specs.Input.{Admitted}
use Rattle.pool.specs.Sheet.{Sheet}
use Rattle.level_sheet.specs.SheetCheck.{Accepted}

pub accepted_sheet : {s l a lev lay : List ℕ} → Admitted s l a → Accepted s l a lev lay → Sheet s l a lev lay
accepted_sheet admitted accepted = record {
  leveled = record { admitted = admitted; long = omega (arith, accepted.levels_long); hold = accepted.levels_hold };
  layers_long = omega (arith, accepted.layers_long);
  layers_hold = accepted.layers_hold;
}
