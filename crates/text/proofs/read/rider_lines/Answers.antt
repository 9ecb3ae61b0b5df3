-- `read::rider_lines` meets its contract. Assumes nothing.
use Rattle.std.proofs.Common.{◌∙◌, arith}
use Rattle.std.proofs.lemmas.Grind.{common_steps}
use Rattle.text.proofs.Texts.{riding_more, riding_departs, riding_done}
use Rattle.text.proofs.read.rider_lines.Goals as goal

pub returns-in_err-line-clause-value : goal.returns-in_err-line-clause-value
returns-in_err-line-clause-value c =
    let answer = rw (c.in_err-line.ensures.ok_part, c.loop-v.invariant.text) at c.rider_line.ensures.value in
    let done = riding_departs _ _ _ _ _ _ _ _ _ _ _ c.loop-v.invariant.riding c.store.new.values c.rider_line.new.links (omega arith) c.store.ensures (rw c.loop-v.invariant.text at c.rider_line.ensures.links_value) answer in
    grind (arith, common_steps, done.0)

pub returns-in_err-line-clause-starts_value : goal.returns-in_err-line-clause-starts_value
returns-in_err-line-clause-starts_value c =
    let answer = rw (c.in_err-line.ensures.ok_part, c.loop-v.invariant.text) at c.rider_line.ensures.value in
    let done = riding_departs _ _ _ _ _ _ _ _ _ _ _ c.loop-v.invariant.riding c.store.new.values c.rider_line.new.links (omega arith) c.store.ensures (rw c.loop-v.invariant.text at c.rider_line.ensures.links_value) answer in
    done.1.0

pub returns-in_err-line-clause-links_value : goal.returns-in_err-line-clause-links_value
returns-in_err-line-clause-links_value c =
    let answer = rw (c.in_err-line.ensures.ok_part, c.loop-v.invariant.text) at c.rider_line.ensures.value in
    let done = riding_departs _ _ _ _ _ _ _ _ _ _ _ c.loop-v.invariant.riding c.store.new.values c.rider_line.new.links (omega arith) c.store.ensures (rw c.loop-v.invariant.text at c.rider_line.ensures.links_value) answer in
    done.1.1

pub loop-v-preserved : goal.loop-v-preserved
loop-v-preserved c =
    let answer = rw (c.in_ok-line.ensures.ok_part, c.loop-v.invariant.text) at c.rider_line.ensures.value in
    record {
      text = c.rider_line.ensures.text ∙ c.loop-v.invariant.text;
      riding = riding_more _ _ _ _ _ _ _ _ _ _ _ c.loop-v.invariant.riding c.store.new.values c.rider_line.new.links c.in_ok-line.line c.in_ok-line.more c.rider_line.new.reader.at
          c.loop-v-test.true c.store.ensures (rw c.loop-v.invariant.text at c.rider_line.ensures.links_value) answer;
    }

pub returns-clause-value : goal.returns-clause-value
returns-clause-value c =
    let done = riding_done _ _ _ _ _ _ _ _ _ _ _ c.loop-v.invariant.riding c.store-2.new.values (omega arith) c.store-2.ensures in
    done.0

pub returns-clause-starts_value : goal.returns-clause-starts_value
returns-clause-starts_value c =
    let done = riding_done _ _ _ _ _ _ _ _ _ _ _ c.loop-v.invariant.riding c.store-2.new.values (omega arith) c.store-2.ensures in
    done.1.0

pub returns-clause-links_value : goal.returns-clause-links_value
returns-clause-links_value c =
    let done = riding_done _ _ _ _ _ _ _ _ _ _ _ c.loop-v.invariant.riding c.store-2.new.values (omega arith) c.store-2.ensures in
    done.1.1
