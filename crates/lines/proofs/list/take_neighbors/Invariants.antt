-- The loop's invariant: the list up to the position is in the links, and the rest is to come. Assumes nothing.
use Rattle.std.proofs.Common.{◌≡◌, ◌-◌, length}
use Rattle.lines.proofs.Lists.{Linking}
use Rattle.lines.proofs.list.take_neighbors.Given as goal

abbrev pub invariant-loop-reader : goal.invariant-loop-reader
invariant-loop-reader l = record {
  text : l.reader.text ≡ l.initial.reader.text;
  linking : Linking l.initial.reader.text.now l.initial.links l.before l.initial.reader.at l.links l.count l.reader.at;
}

abbrev pub decreases-loop-reader : goal.decreases-loop-reader
decreases-loop-reader l = length l.reader.text.now - l.reader.at
