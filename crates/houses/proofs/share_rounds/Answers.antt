use Rattle.std.proofs.Common.{arith, ◌≡◌, sym, ap₂, ◌∙◌}
use Rattle.std.specs.Prelude.{Ok}
use Rattle.std.proofs.lemmas.Result.{err_from_is_err_and}
use Rattle.table.proofs.Guards.{exit, goes_on, handed, cleared}
use Rattle.houses.specs.Answers.{quota_sum}
use Rattle.houses.proofs.Answers.{call_told, shared_written}
use Rattle.houses.proofs.share_rounds.Goals as goal

pub returns-in_err-test_houses : goal.returns-in_err-test_houses
returns-in_err-test_houses c = (
  exit _ _ _ c.test_houses.ensures c.in_err-test_houses.was (err_from_is_err_and c.from_residual.result c.from_residual.ensures.1),
  sym (handed _ _ (sym c.test_houses.ensures ∙ c.in_err-test_houses.was)),
)

pub measure-size-requires : goal.measure-size-requires
measure-size-requires c = (call_told _ _ _ _ _ _ (goes_on c.test_houses.ensures c.in_ok-test_houses.was)).admitted.table

pub write_shared-end-requires : goal.write_shared-end-requires
write_shared-end-requires c =
    let given = call_told _ _ _ _ _ _ (goes_on c.test_houses.ensures c.in_ok-test_houses.was) in
    let lines : c.total-lines.result ≡ quota_sum c.args.quotas.now = omega (arith, c.total-lines.ensures, given.sum_small) in
    record {
      admitted = given.admitted;
      given_len = given.bytes_long;
      starts_in_bounds = omega (arith, given.houses_long);
      quotas_nonzero = given.some;
      quotas_len_bound = given.few;
      starts_in_bounds_2 = rw lines given.enough;
    }

pub returns : goal.returns
returns c =
    let a = c.args in
    let passed = goes_on c.test_houses.ensures c.in_ok-test_houses.was in
    let given = call_told _ _ _ _ _ _ passed in
    let lines : c.total-lines.result ≡ quota_sum a.quotas.now = omega (arith, c.total-lines.ensures, given.sum_small) in
    let written = shared_written a.starts.now a.links.now a.anchored.now a.house.now a.quotas.now lines given.enough c.write_shared-end.ensures in
    (ap₂ (λ end size. Ok (end, size)) written.0 c.measure-size.ensures ∙ sym (cleared _ _ passed), written.1 ∙ sym (cleared _ _ passed))
