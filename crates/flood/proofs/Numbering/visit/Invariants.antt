-- The neighbors before this place are seen, and those of them that join have their number.
use Rattle.std.proofs.Common.{take}
use Rattle.flood.specs.Flooding.{Visits}
use Rattle.flood.specs.Numbering.{SameNumbers}
use Rattle.flood.proofs.Numbering.visit.Given as goal

abbrev pub invariant-loop-neighbor : goal.invariant-loop-neighbor
invariant-loop-neighbor l =
    let old = l.fn.self in
    let now = l.self in
    record {
      same_numbers : SameNumbers old now;
      visits : Visits l.starts l.links old.pending old.component.now old.queue l.k l.start l.u old.tail (take l.neighbor-index l.part) now.pending now.component.now now.queue l.end;
    }
