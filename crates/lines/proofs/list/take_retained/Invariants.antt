-- The loop's invariant: the list up to the position is in the bytes, with its order and its first number of n or more. Assumes nothing.
use Rattle.std.proofs.Common.{◌≡◌, ◌-◌, length}
use Rattle.lines.proofs.Lists.{Anchoring}
use Rattle.lines.proofs.list.take_retained.Given as goal

abbrev pub invariant-loop-reader : goal.invariant-loop-reader
invariant-loop-reader l = record {
  text : l.reader.text ≡ l.initial.reader.text;
  anchoring : Anchoring l.initial.reader.text.now l.initial.anchored l.n l.initial.reader.at l.anchored l.reader.at l.ascending l.least l.beyond;
}

abbrev pub decreases-loop-reader : goal.decreases-loop-reader
decreases-loop-reader l = length l.reader.text.now - l.reader.at
