-- `list::take_neighbors` meets its contract. Assumes nothing.
use Rattle.std.proofs.Common.{sym, ◌∙◌, arith}
use Rattle.reader.proofs.Numbers.{number-next}
use Rattle.lines.proofs.Lists.{space_in, space-taken, space-none, linking_more, linking_departs, linking_done}
use Rattle.lines.proofs.list.take_neighbors.Goals as goal

pub returns-in_err-w-clause-value : goal.returns-in_err-w-clause-value
returns-in_err-w-clause-value c =
    let space = space-taken c.loop-reader.reader.text.now c.loop-reader.reader.at c.skip.new.self.at c.skip.result (sym c.loop-reader-test.ensures) c.skip.ensures.value in
    let byte = rw c.loop-reader.invariant.text at space.0 in
    let number = rw (c.skip.ensures.text, c.loop-reader.invariant.text, space.1) at (sym c.in_err-w.ensures.value) in
    rw c.from_residual.ensures (linking_departs _ _ _ _ _ _ _ c.loop-reader.invariant.linking byte number).0

pub returns-in_err-w-clause-links_value : goal.returns-in_err-w-clause-links_value
returns-in_err-w-clause-links_value c =
    let space = space-taken c.loop-reader.reader.text.now c.loop-reader.reader.at c.skip.new.self.at c.skip.result (sym c.loop-reader-test.ensures) c.skip.ensures.value in
    let byte = rw c.loop-reader.invariant.text at space.0 in
    let number = rw (c.skip.ensures.text, c.loop-reader.invariant.text, space.1) at (sym c.in_err-w.ensures.value) in
    (linking_departs _ _ _ _ _ _ _ c.loop-reader.invariant.linking byte number).1

pub overflow_add-count : goal.overflow_add-count
overflow_add-count c =
    let space = space-taken c.loop-reader.reader.text.now c.loop-reader.reader.at c.skip.new.self.at c.skip.result (sym c.loop-reader-test.ensures) c.skip.ensures.value in
    let within = space_in c.args.reader.now.text.now c.loop-reader.reader.at (rw c.loop-reader.invariant.text at space.0) in
    omega (arith, c.loop-reader.invariant.linking.low)

pub loop-reader-smaller : goal.loop-reader-smaller
loop-reader-smaller c =
    let space = space-taken c.loop-reader.reader.text.now c.loop-reader.reader.at c.skip.new.self.at c.skip.result (sym c.loop-reader-test.ensures) c.skip.ensures.value in
    let within = space_in c.loop-reader.reader.text.now c.loop-reader.reader.at space.0 in
    let further = number-next c.skip.new.self.text.now c.skip.new.self.at c.in_ok-w.w c.number.new.self.at (sym c.in_ok-w.ensures.value) in
    rw (c.number.ensures.text, c.skip.ensures.text) (omega arith)

pub loop-reader-preserved : goal.loop-reader-preserved
loop-reader-preserved c =
    let space = space-taken c.loop-reader.reader.text.now c.loop-reader.reader.at c.skip.new.self.at c.skip.result (sym c.loop-reader-test.ensures) c.skip.ensures.value in
    let byte = rw c.loop-reader.invariant.text at space.0 in
    let number = rw (c.skip.ensures.text, c.loop-reader.invariant.text, space.1) at (sym c.in_ok-w.ensures.value) in
    record {
      text = c.number.ensures.text ∙ c.skip.ensures.text ∙ c.loop-reader.invariant.text;
      linking = linking_more _ _ _ _ _ _ _ c.loop-reader.invariant.linking c.in_ok-w.w c.number.new.self.at c.store.new.values byte number c.store.ensures;
    }

pub returns-clause-value : goal.returns-clause-value
returns-clause-value c =
    let none = space-none c.loop-reader.reader.text.now c.loop-reader.reader.at c.skip.new.self.at c.skip.result (sym c.loop-reader-test.ensures) c.skip.ensures.value in
    rw (c.skip.ensures.stays (sym c.loop-reader-test.ensures)) (linking_done _ _ _ _ _ _ _ c.loop-reader.invariant.linking (rw c.loop-reader.invariant.text at none)).0

pub returns-clause-links_value : goal.returns-clause-links_value
returns-clause-links_value c =
    let none = space-none c.loop-reader.reader.text.now c.loop-reader.reader.at c.skip.new.self.at c.skip.result (sym c.loop-reader-test.ensures) c.skip.ensures.value in
    (linking_done _ _ _ _ _ _ _ c.loop-reader.invariant.linking (rw c.loop-reader.invariant.text at none)).1
