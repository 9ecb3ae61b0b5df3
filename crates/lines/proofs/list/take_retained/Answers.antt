-- `list::take_retained` meets its contract. Assumes nothing.
use Rattle.std.proofs.Common.{refl, sym, ap, ◌∙◌, arith}
use Rattle.std.specs.Option.{option_or}
use Rattle.reader.proofs.Numbers.{number-next}
use Rattle.lines.proofs.Lists.{space_in, space-taken, space-none, earlier_step, anchoring-first, anchoring-more, anchoring_departs, anchoring_done}
use Rattle.lines.proofs.list.take_retained.Goals as goal

pub loop-reader-init : goal.loop-reader-init
loop-reader-init c = record { text = refl; anchoring = anchoring-first _ _ _ _ }

pub returns-in_err-v-clause-value : goal.returns-in_err-v-clause-value
returns-in_err-v-clause-value c =
    let space = space-taken c.loop-reader.reader.text.now c.loop-reader.reader.at c.skip.new.self.at c.skip.result (sym c.loop-reader-test.ensures) c.skip.ensures.value in
    let byte = rw c.loop-reader.invariant.text at space.0 in
    let number = rw (c.skip.ensures.text, c.loop-reader.invariant.text, space.1) at (sym c.in_err-v.ensures.value) in
    rw c.from_residual.ensures (anchoring_departs _ _ _ _ _ _ _ _ _ c.loop-reader.invariant.anchoring byte number).0

pub returns-in_err-v-clause-anchored_value : goal.returns-in_err-v-clause-anchored_value
returns-in_err-v-clause-anchored_value c =
    let space = space-taken c.loop-reader.reader.text.now c.loop-reader.reader.at c.skip.new.self.at c.skip.result (sym c.loop-reader-test.ensures) c.skip.ensures.value in
    let byte = rw c.loop-reader.invariant.text at space.0 in
    let number = rw (c.skip.ensures.text, c.loop-reader.invariant.text, space.1) at (sym c.in_err-v.ensures.value) in
    (anchoring_departs _ _ _ _ _ _ _ _ _ c.loop-reader.invariant.anchoring byte number).1

pub loop-reader-smaller : goal.loop-reader-smaller
loop-reader-smaller c =
    let space = space-taken c.loop-reader.reader.text.now c.loop-reader.reader.at c.skip.new.self.at c.skip.result (sym c.loop-reader-test.ensures) c.skip.ensures.value in
    let within = space_in c.loop-reader.reader.text.now c.loop-reader.reader.at space.0 in
    let further = number-next c.skip.new.self.text.now c.skip.new.self.at c.in_ok-v.v c.number.new.self.at (sym c.in_ok-v.ensures.value) in
    rw (c.number.ensures.text, c.skip.ensures.text) (omega arith)

pub loop-reader-preserved : goal.loop-reader-preserved
loop-reader-preserved c =
    let space = space-taken c.loop-reader.reader.text.now c.loop-reader.reader.at c.skip.new.self.at c.skip.result (sym c.loop-reader-test.ensures) c.skip.ensures.value in
    let byte = rw c.loop-reader.invariant.text at space.0 in
    let number = rw (c.skip.ensures.text, c.loop-reader.invariant.text, space.1) at (sym c.in_ok-v.ensures.value) in
    let beyond = c.or-beyond.ensures ∙ ap (option_or c.loop-reader.beyond) c.then_some.ensures ∙ earlier_step c.loop-reader.beyond c.args.n c.in_ok-v.v in
    record {
      text = c.number.ensures.text ∙ c.skip.ensures.text ∙ c.loop-reader.invariant.text;
      anchoring = anchoring-more _ _ _ _ _ _ _ _ _ c.loop-reader.invariant.anchoring c.in_ok-v.v c.number.new.self.at c.store.new.values _ c.or-beyond.result byte number c.store.ensures refl beyond;
    }

pub returns-clause-value : goal.returns-clause-value
returns-clause-value c =
    let none = space-none c.loop-reader.reader.text.now c.loop-reader.reader.at c.skip.new.self.at c.skip.result (sym c.loop-reader-test.ensures) c.skip.ensures.value in
    rw (c.then_some-2.ensures, c.skip.ensures.stays (sym c.loop-reader-test.ensures)) (anchoring_done _ _ _ _ _ _ _ _ _ c.loop-reader.invariant.anchoring (rw c.loop-reader.invariant.text at none)).0

pub returns-clause-anchored_value : goal.returns-clause-anchored_value
returns-clause-anchored_value c =
    let none = space-none c.loop-reader.reader.text.now c.loop-reader.reader.at c.skip.new.self.at c.skip.result (sym c.loop-reader-test.ensures) c.skip.ensures.value in
    (anchoring_done _ _ _ _ _ _ _ _ _ c.loop-reader.invariant.anchoring (rw c.loop-reader.invariant.text at none)).1
