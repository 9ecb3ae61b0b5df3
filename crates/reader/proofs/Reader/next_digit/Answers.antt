-- `Reader::next_digit` meets its contract. Assumes nothing.
use Rattle.std.proofs.Common.{sym, arith}
use Rattle.reader.proofs.Numbers.{digit_is, digit_in}
use Rattle.reader.proofs.Reader.next_digit.Goals as goal

pub overflow_add-self : goal.overflow_add-self
overflow_add-self c =
    let digit = digit_is c.args.self.now.text.now c.args.self.now.at c.in_ok-digit.digit (sym c.in_ok-digit.ensures) in
    let inside = digit_in c.args.self.now.text.now c.args.self.now.at (omega arith) in
    omega arith
