-- Test by test.
use Rattle.std.proofs.Common.{◌≡◌, ◌∙◌, sym, length, false, true}
use Rattle.std.proofs.lemmas.Result.{err_from_is_err_and}
use lib.Dec.{eqb}
use Rattle.finite.specs.Search.{all}
use Rattle.table.specs.Table.{vertices}
use Rattle.table.proofs.Guards.{exit, goes_on}
use Rattle.table.proofs.Laws.{refused-found, none-found, pass}
use Rattle.edit.proofs.Checked.{lent-sound}
use Rattle.session.specs.Run.{admit_run}
use Rattle.session.proofs.Admit.{wrong_bytes, wrong_lists, right-lists}
use Rattle.session.proofs.run.admit.Goals.{then-given-n-via-then-given-n, then-given-n-via-else-given-n+then-not-all_are}
use Rattle.session.proofs.run.admit.Goals as goal

pub returns-in_err-check_lent : goal.returns-in_err-check_lent
unfolding admit_run
returns-in_err-check_lent c = exit _ _ _ c.check_lent.ensures c.in_err-check_lent.was (err_from_is_err_and c.from_residual.result c.from_residual.ensures.1)

pub overflow_sub-n : goal.overflow_sub-n
overflow_sub-n c = (lent-sound _ _ (goes_on c.check_lent.ensures c.in_ok-check_lent.was)).framed.some

pub returns-then-given-n : goal.returns-then-given-n
returns-then-given-n c =
    let x = c.args in
    let checked = goes_on c.check_lent.ensures c.in_ok-check_lent.was in
    rw c.new.ensures (elim c.then-given-n.branch [
      | then-given-n-via-then-given-n w ↦ sym (wrong_bytes _ _ _ _ _ _ checked w.if-given-n.true)
      | then-given-n-via-else-given-n+then-not-all_are w ↦
          let unlike : all (eqb x.count) x.others.now ≡ false = cc in
          sym (wrong_lists _ _ _ _ _ _ checked w.if-given-n.false unlike)
    ])

pub returns-in_err-refuse : goal.returns-in_err-refuse
returns-in_err-refuse c =
    let x = c.args in
    let checked = goes_on c.check_lent.ensures c.in_ok-check_lent.was in
    let long : length x.given.now ≡ vertices x.starts.now = c.if-given-n.false in
    let alike : all (eqb x.count) x.others.now ≡ true = cc in
    let place = rw long at c.first_bad_byte.ensures in
    let p = err_from_is_err_and c.from_residual-in_err-refuse.result c.from_residual-in_err-refuse.ensures.1 in
    rw (p.1, p.2) (sym (right-lists _ _ _ _ _ _ checked long alike ∙ refused-found 10 _ _ _ (rw place at (sym c.refuse.ensures ∙ c.in_err-refuse.was))))

pub returns : goal.returns
returns c =
    let x = c.args in
    let checked = goes_on c.check_lent.ensures c.in_ok-check_lent.was in
    let long : length x.given.now ≡ vertices x.starts.now = c.if-given-n.false in
    let alike : all (eqb x.count) x.others.now ≡ true = cc in
    let place = rw long at c.first_bad_byte.ensures in
    c.test_lengths.ensures ∙ sym (right-lists _ _ _ _ _ _ checked long alike ∙ pass 10 _ _ _ (none-found 10 _ _ (rw place at (goes_on c.refuse.ensures c.in_ok-refuse.was))))
