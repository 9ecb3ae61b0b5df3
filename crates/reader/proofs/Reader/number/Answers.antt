-- `Reader::number` meets its contract. Assumes nothing.
use Rattle.std.proofs.Common.{◌≡◌, ◌+◌, ◌*◌, sym, ◌∙◌, arith}
use Rattle.reader.proofs.Numbers.{digit_is, digit_in, digit-none, number-none, number_leading, number-zero, scanning_first, scanning_more, scanning_over, scanning_done}
use Rattle.reader.proofs.Reader.number.Goals as goal

pub returns-in_err-value-clause-value : goal.returns-in_err-value-clause-value
returns-in_err-value-clause-value c = rw c.from_residual.ensures (sym (number-none _ _ (digit-none _ _ (sym c.in_err-value.ensures.value))))

pub returns-in-Some-clause-value : goal.returns-in-Some-clause-value
returns-in-Some-clause-value c =
    let first = digit_is c.args.self.now.text.now c.args.self.now.at c.in_ok-value.value (sym c.in_ok-value.ensures.value) in
    let second = digit_is _ _ _ (rw (c.next_digit.ensures.text, c.in_ok-value.ensures.at) at (sym c.in-Some.ensures)) in
    sym (number_leading _ _ (omega arith) (omega arith))

pub returns-in-None-clause-value : goal.returns-in-None-clause-value
returns-in-None-clause-value c =
    let first = digit_is c.args.self.now.text.now c.args.self.now.at c.in_ok-value.value (sym c.in_ok-value.ensures.value) in
    let second = digit-none _ _ (rw (c.next_digit.ensures.text, c.in_ok-value.ensures.at) at (sym c.in-None.ensures)) in
    rw c.in_ok-value.ensures.at (sym (number-zero _ _ (omega arith) second))

pub loop-digit-init : goal.loop-digit-init
loop-digit-init c = record {
  text = c.next_digit.ensures.text;
  scan = rw c.in_ok-value.ensures.at (scanning_first c.args.self.now.text.now c.args.self.now.at c.in_ok-value.value (sym c.in_ok-value.ensures.value) (omega arith));
}

pub returns-in_err-checked_mul-clause-value : goal.returns-in_err-checked_mul-clause-value
returns-in_err-checked_mul-clause-value c =
    let found = rw c.loop-digit.invariant.text at (sym c.in-Some-next_digit.ensures.value) in
    rw c.from_residual-in_err-checked_mul.ensures (sym (scanning_over _ _ _ _ c.loop-digit.invariant.scan c.in-Some-next_digit.digit found (omega (arith, c.in_err-checked_mul.ensures))))

pub returns-in_err-value-2-clause-value : goal.returns-in_err-value-2-clause-value
returns-in_err-value-2-clause-value c =
    let found = rw c.loop-digit.invariant.text at (sym c.in-Some-next_digit.ensures.value) in
    rw c.from_residual-in_err-value-2.ensures (sym (scanning_over _ _ _ _ c.loop-digit.invariant.scan c.in-Some-next_digit.digit found (omega (arith, c.in_err-value-2.ensures, c.in_ok-checked_mul.ensures))))

pub loop-digit-smaller : goal.loop-digit-smaller
loop-digit-smaller c =
    let digit = digit_is _ _ c.in-Some-next_digit.digit (sym c.in-Some-next_digit.ensures.value) in
    let inside = digit_in c.loop-digit.self.text.now c.loop-digit.self.at (omega arith) in
    rw c.next_digit-in-loop-digit.ensures.text (omega (arith, c.in-Some-next_digit.ensures.at))

pub loop-digit-preserved : goal.loop-digit-preserved
loop-digit-preserved c =
    let found = rw c.loop-digit.invariant.text at (sym c.in-Some-next_digit.ensures.value) in
    let value : c.in_ok-value-2.value ≡ c.loop-digit.value * 10 + c.in-Some-next_digit.digit = omega (arith, c.in_ok-value-2.ensures, c.in_ok-checked_mul.ensures) in
    record {
      text = c.next_digit-in-loop-digit.ensures.text ∙ c.loop-digit.invariant.text;
      scan = rw (c.in-Some-next_digit.ensures.at, value) (scanning_more _ _ _ _ c.loop-digit.invariant.scan c.in-Some-next_digit.digit found (omega arith));
    }

pub returns-clause-value : goal.returns-clause-value
returns-clause-value c =
    let found = rw c.loop-digit.invariant.text at (sym c.in_default.ensures.value) in
    rw c.in_default.ensures.at (sym (scanning_done _ _ _ _ c.loop-digit.invariant.scan found))
