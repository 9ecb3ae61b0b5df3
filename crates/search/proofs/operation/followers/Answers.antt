use Rattle.std.proofs.Common.{◌∙◌, sym, ap}
use Rattle.std.specs.Prelude.{Ok}
use Rattle.std.proofs.lemmas.Result.{err_from_is_err_and}
use Rattle.table.proofs.Guards.{exit, goes_on, cleared, handed}
use Rattle.search.specs.Answers.{followers_of}
use Rattle.search.proofs.Answers.{search-sound, followers-found}
use Rattle.search.proofs.operation.followers.Goals as goal

pub returns-in_err-test_search : goal.returns-in_err-test_search
unfolding followers_of
returns-in_err-test_search c =
    let refused = sym c.test_search.ensures ∙ c.in_err-test_search.was in
    record {
      answer = exit _ _ _ c.test_search.ensures c.in_err-test_search.was (err_from_is_err_and c.from_residual.result c.from_residual.ensures.1);
      marks = sym (handed _ _ refused);
    }

pub write_marks-requires : goal.write_marks-requires
write_marks-requires c =
    let promised = search-sound _ _ _ _ _ _ _ (goes_on c.test_search.ensures c.in_ok-test_search.was) in
    record { admitted = promised.0; accepted = promised.1; x_bound = (promised.2, promised.3); marks_len = promised.4 }

pub returns : goal.returns
returns c =
    let clear = goes_on c.test_search.ensures c.in_ok-test_search.was in
    record {
      answer = ap Ok c.write_marks.ensures.answer ∙ sym (followers-found _ _ _ _ _ _ _ clear);
      marks = c.write_marks.ensures.marks ∙ sym (cleared _ _ clear);
    }
