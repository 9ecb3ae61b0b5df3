-- The loop's invariant: the digits up to the position make the value. Assumes nothing.
use Rattle.std.proofs.Common.{◌≡◌, ◌-◌, length}
use Rattle.reader.proofs.Numbers.{Scanning}
use Rattle.reader.proofs.Reader.number.Given as goal

abbrev pub invariant-loop-digit : goal.invariant-loop-digit
invariant-loop-digit l = record {
  text : l.self.text ≡ l.fn.self.text;
  scan : Scanning l.fn.self.text.now l.fn.self.at l.self.at l.value;
}

abbrev pub decreases-loop-digit : goal.decreases-loop-digit
decreases-loop-digit l = length l.self.text.now - l.self.at
