use Rattle.std.proofs.Common.{arith, ◌≡◌, ◌∙◌, sym, length, get_or, false, true}
use Rattle.std.proofs.lemmas.Result.{err_from_is_err_and}
use lib.Dec.{eqb, ltb}
use borrow.Author.Tests.{eq-eqb, ne_eqb}
use Rattle.table.specs.Table.{vertices}
use Rattle.table.proofs.Guards.{exit, goes_on, cleared}
use Rattle.table.proofs.Laws.{sound, refused-last}
use Rattle.pool.specs.Input.{admit_of}
use Rattle.pool.proofs.input.admit.Goals as goal

pub returns-in_err-test_table : goal.returns-in_err-test_table
unfolding admit_of
returns-in_err-test_table c = exit _ _ _ c.test_table.ensures c.in_err-test_table.was (err_from_is_err_and c.from_residual.result c.from_residual.ensures.1)

pub overflow_sub-starts : goal.overflow_sub-starts
overflow_sub-starts c = let t = sound _ _ (goes_on c.test_table.ensures c.in_ok-test_table.was) in omega (arith, t.framed.some)

pub returns-then-anchored-starts : goal.returns-then-anchored-starts
unfolding admit_of
returns-then-anchored-starts c =
    let other : eqb (length c.args.anchored.now) (vertices c.args.starts.now) ≡ false = ne_eqb _ _ c.if-anchored-starts.true in
    rw c.new.ensures (sym (cleared _ _ (goes_on c.test_table.ensures c.in_ok-test_table.was) ∙ rw other))

pub returns : goal.returns
unfolding admit_of
returns c =
    let s = c.args.starts.now in
    let a = c.args.anchored.now in
    let long : length a ≡ vertices s = c.if-anchored-starts.false in
    let same : eqb (length a) (vertices s) ≡ true = eq-eqb _ _ long in
    let place = rw long at c.first_bad_byte.ensures in
    rw place at c.refuse.ensures ∙ sym (cleared _ _ (goes_on c.test_table.ensures c.in_ok-test_table.was) ∙ rw same (refused-last 10 (λ v. ltb 1 (get_or a v 0)) (vertices s)))
