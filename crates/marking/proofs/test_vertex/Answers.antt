use Rattle.std.proofs.Common.{sym}
use Rattle.std.proofs.lemmas.Result.{err_from_is_err_and}
use Rattle.table.proofs.Guards.{exit, goes_on}
use Rattle.marking.specs.Marking.{vertex_of}
use Rattle.marking.proofs.Marking.{vertex-beyond, vertex-within}
use Rattle.marking.proofs.test_vertex.Goals as goal

pub returns-in_err-test_sheet : goal.returns-in_err-test_sheet
unfolding vertex_of
returns-in_err-test_sheet c = exit _ _ _ c.test_sheet.ensures c.in_err-test_sheet.was (err_from_is_err_and c.from_residual.result c.from_residual.ensures.1)

pub returns-then-starts-x : goal.returns-then-starts-x
returns-then-starts-x c = rw c.new.ensures (sym (vertex-beyond _ _ _ _ _ _ (goes_on c.test_sheet.ensures c.in_ok-test_sheet.was) c.if-starts-x.true))

pub returns : goal.returns
returns c = sym (vertex-within _ _ _ _ _ _ (goes_on c.test_sheet.ensures c.in_ok-test_sheet.was) c.if-starts-x.false)
