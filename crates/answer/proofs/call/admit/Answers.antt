use Rattle.std.proofs.Common.{◌∙◌, sym}
use Rattle.std.proofs.lemmas.Result.{err_from_is_err_and}
use borrow.Author.Tests.{lt-ltb, le-ltb}
use Rattle.table.proofs.Guards.{exit, goes_on, cleared}
use Rattle.answer.specs.Answer.{asked_of}
use Rattle.answer.proofs.Answers.{asked_tabled}
use Rattle.answer.proofs.call.admit.Goals as goal

pub returns-then-asked-gt1024 : goal.returns-then-asked-gt1024
unfolding asked_of
returns-then-asked-gt1024 c = rw (c.new.ensures, lt-ltb _ _ c.if-asked-gt1024.true)

pub returns-then-asked-gt16384 : goal.returns-then-asked-gt16384
unfolding asked_of
returns-then-asked-gt16384 c = rw (c.new-then-asked-gt16384.ensures, le-ltb _ _ c.if-asked-gt1024.false, lt-ltb _ _ c.if-asked-gt16384.true)

pub returns-in_err-test_table : goal.returns-in_err-test_table
returns-in_err-test_table c =
    exit _ _ _ c.test_table.ensures c.in_err-test_table.was (err_from_is_err_and c.from_residual.result c.from_residual.ensures.1)
    ∙ sym (asked_tabled _ _ _ _ c.if-asked-gt1024.false c.if-asked-gt16384.false)

pub returns : goal.returns
returns c =
    let tabled = asked_tabled _ _ _ _ c.if-asked-gt1024.false c.if-asked-gt16384.false in
    c.test_room.ensures ∙ sym (tabled ∙ cleared _ _ (goes_on c.test_table.ensures c.in_ok-test_table.was))
