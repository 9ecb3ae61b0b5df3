use Rattle.std.proofs.Common.{arith, ◌∙◌, sym}
use Rattle.std.proofs.lemmas.Result.{err_from_is_err_and}
use Rattle.table.proofs.Guards.{exit, goes_on, cleared}
use Rattle.marking.proofs.Marking.{vertex-sound}
use Rattle.ceiling.specs.Answers.{start_of}
use Rattle.ceiling.proofs.test_start.Goals as goal

pub returns-in_err-test_vertex : goal.returns-in_err-test_vertex
unfolding start_of
returns-in_err-test_vertex c = exit _ _ _ c.test_vertex.ensures c.in_err-test_vertex.was (err_from_is_err_and c.from_residual.result c.from_residual.ensures.1)

pub test_free-requires : goal.test_free-requires
test_free-requires c =
    let vertex = vertex-sound _ _ _ _ _ _ c.requires.table (goes_on c.test_vertex.ensures c.in_ok-test_vertex.was) in
    omega (arith, vertex.1, c.requires.long)

pub returns : goal.returns
unfolding start_of
returns c = c.test_free.ensures ∙ sym (cleared _ _ (goes_on c.test_vertex.ensures c.in_ok-test_vertex.was))
