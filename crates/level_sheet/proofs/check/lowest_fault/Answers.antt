use mathlib.Core.Logic.{inr}
use Rattle.std.proofs.Common.{refl}
use Rattle.level_sheet.specs.Faults.{fault_of}
use Rattle.level_sheet.proofs.Faults.{lowest-none, lowest-next}
use Rattle.level_sheet.proofs.check.lowest_fault.Goals as goal

pub loop-v-init : goal.loop-v-init
loop-v-init c = record { numbered = inr refl; low = lowest-none _ }

pub loop-v-preserved : goal.loop-v-preserved
loop-v-preserved c =
    let a = c.args in
    record {
      numbered = c.lower-lowest.ensures.numbered;
      low = lowest-next (fault_of a.starts.now a.links.now a.anchored.now a.levels.now a.layers.now) c.loop-v.v _ _ _ _ _ c.fault_at-own.ensures c.loop-v.invariant.low c.lower-lowest.ensures.number c.lower-lowest.ensures.place;
    }
