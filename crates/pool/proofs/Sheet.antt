-- Scratch arrays that hold the defined levels and layers of an admitted input are its level sheet. Assumes nothing.
use mathlib.Core.Path.{◌≡◌}
use mathlib.Core.List.{List}
use Prim.Native.Nat.{ℕ}
use native.Mathlib.Omega.{arith}
use lib.ListN.{length}
use Rattle.table.specs.Table.{vertices}
use Rattle.anchored.specs.Core.{level, layer}
use Rattle.pool.specs.Input.{graph_of, anchored_by, Admitted}
use Rattle.pool.specs.Arrays.{Holds}
use Rattle.pool.specs.Sheet.{Sheet}

pub in_arrays : {s l a lev lay : List ℕ} → Admitted s l a → length lev ≡ 1024 → length lay ≡ 1024
    → Holds lev (vertices s) (level (graph_of s l) (anchored_by a)) → Holds lay (vertices s) (layer (graph_of s l) (anchored_by a)) → Sheet s l a lev lay
in_arrays admitted levels layers levels_hold layers_hold =
    let small = admitted.table.small in
    record {
      leveled = record { admitted = admitted; long = omega (arith, levels, small); hold = levels_hold };
      layers_long = omega (arith, layers, small);
      layers_hold = layers_hold;
    }
