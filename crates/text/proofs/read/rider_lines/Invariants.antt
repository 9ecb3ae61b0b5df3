-- The loop's invariant: the lines of the riders below v are in the starts and the links, and the rest is to come. Assumes nothing.
use Rattle.std.proofs.Common.{◌≡◌}
use Rattle.text.proofs.Texts.{Riding}
use Rattle.text.proofs.read.rider_lines.Given as goal

abbrev pub invariant-loop-v : goal.invariant-loop-v
invariant-loop-v l = record {
  text : l.reader.text ≡ l.initial.reader.text;
  riding : Riding l.initial.reader.text.now l.n l.initial.reader.at l.initial.starts l.initial.links l.starts l.links l.reader.at l.count l.number l.v;
}
