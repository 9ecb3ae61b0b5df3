use Rattle.std.proofs.Common.{arith, ◌∙◌, sym, length}
use Rattle.std.specs.Prelude.{Ok, Err}
use Rattle.table.specs.Guard.{front}
use Rattle.table.proofs.Guards.{handed}
use Rattle.text.specs.Text.{starts_read, links_read, retained_read}
use Rattle.answer.specs.Answer.{answer_of}
use Rattle.answer.proofs.Texts.{byte_read, length-bytes, length-read, text_long, text_departs, as_read}
use Rattle.answer.proofs.call.text_to_sheet.Goals as goal

pub returns-then-text-gt65536 : goal.returns-then-text-gt65536
unfolding answer_of
returns-then-text-gt65536 c =
    let refused = text_long _ _ c.if-text-gt65536.true in
    record { answer = rw c.new.ensures (sym (handed _ _ refused)); sheet = sym (handed _ _ refused) }

pub answer_read-requires : goal.answer_read-requires
answer_read-requires c =
    let t = c.args.text.now in
    let read = c.read_text.ensures in
    record {
      in_bounds = omega (arith, length-read 1025 (starts_read t) read.starts_value);
      in_bounds_2 = omega (arith, length-read 16384 (links_read t) read.links_value);
      in_bounds_3 = omega (arith, length-bytes (retained_read t) read.anchored_value);
      by_index = byte_read (retained_read t) read.anchored_value;
    }

pub returns-in-Err : goal.returns-in-Err
unfolding answer_of
returns-in-Err c =
    let departs = sym c.read_text.ensures.value ∙ c.in-Err.is in
    let refused = text_departs _ _ c.if-text-gt65536.false departs in
    record { answer = rw c.new-in-Err.ensures (sym (handed _ _ refused)); sheet = sym (handed _ _ refused) }

pub returns-in-Ok : goal.returns-in-Ok
unfolding answer_of
returns-in-Ok c =
    let read = c.read_text.ensures in
    let whole = sym c.read_text.ensures.value ∙ c.in-Ok.is in
    let short = c.if-text-gt65536.false in
    let answered = c.answer_read.ensures in
    let bytes = c.args.sheet.now in
    record {
      answer = answered.0 ∙ as_read _ whole read.starts_value read.links_value read.anchored_value (length bytes) short (λ sheet. Ok (length sheet)) Err;
      sheet = answered.1 ∙ as_read _ whole read.starts_value read.links_value read.anchored_value (length bytes) short (λ sheet. front sheet bytes) (λ x. bytes);
    }
