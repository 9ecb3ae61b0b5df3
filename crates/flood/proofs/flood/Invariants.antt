-- Every component with a vertex below `start` is numbered in full.
use Rattle.flood.specs.Numbering.{SameNumbers, FloodsBelow}
use Rattle.flood.proofs.flood.Given as goal

abbrev pub invariant-loop-start : goal.invariant-loop-start
invariant-loop-start l = record {
  same_numbers : SameNumbers l.initial.numbering l.numbering;
  floods : FloodsBelow l.starts l.links l.anchored l.numbering l.start;
}
