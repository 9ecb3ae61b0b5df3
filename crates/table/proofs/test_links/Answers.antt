use Rattle.std.proofs.Common.{arith, ◌∙◌, sym, rules, tests, refl}
use Rattle.std.proofs.lemmas.Result.{err_from_is_err_and}
use Rattle.std.proofs.lemmas.Iterator.{YieldsList-from_range}
use Rattle.std.proofs.lemmas.Iterator.Search.{find_from_yields_List}
use Rattle.finite.proofs.Search.{found-by}
use Rattle.table.specs.Table.{vertices, beyond, looped, unsorted, unreturned}
use Rattle.table.proofs.Guards.{goes_on}
use Rattle.table.proofs.Laws.{refused-found, none-found, refused-last, pass}
use Rattle.table.proofs.test_links.Goals as goal

pub returns-in_err-refuse : goal.returns-in_err-refuse
returns-in_err-refuse c =
    let s = c.args.starts.now in
    let l = c.args.links.now in
    let at_5 = found-by (beyond s l) (vertices s) c.find.result (find_from_yields_List (beyond s l) _ _ c.find.result c.find.ensures.ran (YieldsList-from_range 0 (vertices s) (vertices s) refl (omega arith)) (λ x b q k. search (rules, tests))) in
    let was = rw at_5 at (sym c.refuse.ensures ∙ c.in_err-refuse.was) in
    let p = err_from_is_err_and c.from_residual.result c.from_residual.ensures.1 in
    rw (p.1, p.2) (sym (refused-found 5 (beyond s l) (vertices s) _ was))

pub returns-in_err-refuse-2 : goal.returns-in_err-refuse-2
returns-in_err-refuse-2 c =
    let s = c.args.starts.now in
    let l = c.args.links.now in
    let at_5 = found-by (beyond s l) (vertices s) c.find.result (find_from_yields_List (beyond s l) _ _ c.find.result c.find.ensures.ran (YieldsList-from_range 0 (vertices s) (vertices s) refl (omega arith)) (λ x b q k. search (rules, tests))) in
    let clear_5 = rw at_5 at (goes_on c.refuse.ensures c.in_ok-refuse.was) in
    let at_6 = found-by (looped s l) (vertices s) c.find-2.result (find_from_yields_List (looped s l) _ _ c.find-2.result c.find-2.ensures.ran (YieldsList-from_range 0 (vertices s) (vertices s) refl (omega arith)) (λ x b q k. search (rules, tests))) in
    let was = rw at_6 at (sym c.refuse-2.ensures ∙ c.in_err-refuse-2.was) in
    let p = err_from_is_err_and c.from_residual-in_err-refuse-2.result c.from_residual-in_err-refuse-2.ensures.1 in
    rw (p.1, p.2) (sym (pass 5 (beyond s l) (vertices s) _ (none-found 5 (beyond s l) (vertices s) clear_5) ∙ refused-found 6 (looped s l) (vertices s) _ was))

pub returns-in_err-refuse-3 : goal.returns-in_err-refuse-3
returns-in_err-refuse-3 c =
    let s = c.args.starts.now in
    let l = c.args.links.now in
    let at_5 = found-by (beyond s l) (vertices s) c.find.result (find_from_yields_List (beyond s l) _ _ c.find.result c.find.ensures.ran (YieldsList-from_range 0 (vertices s) (vertices s) refl (omega arith)) (λ x b q k. search (rules, tests))) in
    let clear_5 = rw at_5 at (goes_on c.refuse.ensures c.in_ok-refuse.was) in
    let at_6 = found-by (looped s l) (vertices s) c.find-2.result (find_from_yields_List (looped s l) _ _ c.find-2.result c.find-2.ensures.ran (YieldsList-from_range 0 (vertices s) (vertices s) refl (omega arith)) (λ x b q k. search (rules, tests))) in
    let clear_6 = rw at_6 at (goes_on c.refuse-2.ensures c.in_ok-refuse-2.was) in
    let at_7 = found-by (unsorted s l) (vertices s) c.find-3.result (find_from_yields_List (unsorted s l) _ _ c.find-3.result c.find-3.ensures.ran (YieldsList-from_range 0 (vertices s) (vertices s) refl (omega arith)) (λ x b q k. search (rules, tests))) in
    let was = rw at_7 at (sym c.refuse-3.ensures ∙ c.in_err-refuse-3.was) in
    let p = err_from_is_err_and c.from_residual-in_err-refuse-3.result c.from_residual-in_err-refuse-3.ensures.1 in
    rw (p.1, p.2) (sym (pass 5 (beyond s l) (vertices s) _ (none-found 5 (beyond s l) (vertices s) clear_5) ∙ pass 6 (looped s l) (vertices s) _ (none-found 6 (looped s l) (vertices s) clear_6) ∙ refused-found 7 (unsorted s l) (vertices s) _ was))

pub first_unreturned-requires-clause-in_range : goal.first_unreturned-requires-clause-in_range
first_unreturned-requires-clause-in_range c =
    let s = c.args.starts.now in
    let l = c.args.links.now in
    let at_5 = found-by (beyond s l) (vertices s) c.find.result (find_from_yields_List (beyond s l) _ _ c.find.result c.find.ensures.ran (YieldsList-from_range 0 (vertices s) (vertices s) refl (omega arith)) (λ x b q k. search (rules, tests))) in
    let clear_5 = rw at_5 at (goes_on c.refuse.ensures c.in_ok-refuse.was) in
    none-found 5 (beyond s l) (vertices s) clear_5

pub first_unreturned-requires-clause-sorted : goal.first_unreturned-requires-clause-sorted
first_unreturned-requires-clause-sorted c =
    let s = c.args.starts.now in
    let l = c.args.links.now in
    let at_7 = found-by (unsorted s l) (vertices s) c.find-3.result (find_from_yields_List (unsorted s l) _ _ c.find-3.result c.find-3.ensures.ran (YieldsList-from_range 0 (vertices s) (vertices s) refl (omega arith)) (λ x b q k. search (rules, tests))) in
    let clear_7 = rw at_7 at (goes_on c.refuse-3.ensures c.in_ok-refuse-3.was) in
    none-found 7 (unsorted s l) (vertices s) clear_7

pub returns : goal.returns
returns c =
    let s = c.args.starts.now in
    let l = c.args.links.now in
    let at_5 = found-by (beyond s l) (vertices s) c.find.result (find_from_yields_List (beyond s l) _ _ c.find.result c.find.ensures.ran (YieldsList-from_range 0 (vertices s) (vertices s) refl (omega arith)) (λ x b q k. search (rules, tests))) in
    let clear_5 = rw at_5 at (goes_on c.refuse.ensures c.in_ok-refuse.was) in
    let at_6 = found-by (looped s l) (vertices s) c.find-2.result (find_from_yields_List (looped s l) _ _ c.find-2.result c.find-2.ensures.ran (YieldsList-from_range 0 (vertices s) (vertices s) refl (omega arith)) (λ x b q k. search (rules, tests))) in
    let clear_6 = rw at_6 at (goes_on c.refuse-2.ensures c.in_ok-refuse-2.was) in
    let at_7 = found-by (unsorted s l) (vertices s) c.find-3.result (find_from_yields_List (unsorted s l) _ _ c.find-3.result c.find-3.ensures.ran (YieldsList-from_range 0 (vertices s) (vertices s) refl (omega arith)) (λ x b q k. search (rules, tests))) in
    let clear_7 = rw at_7 at (goes_on c.refuse-3.ensures c.in_ok-refuse-3.was) in
    let at_8 = c.first_unreturned.ensures in
    rw at_8 at c.refuse-4.ensures ∙ sym (pass 5 (beyond s l) (vertices s) _ (none-found 5 (beyond s l) (vertices s) clear_5) ∙ pass 6 (looped s l) (vertices s) _ (none-found 6 (looped s l) (vertices s) clear_6) ∙ pass 7 (unsorted s l) (vertices s) _ (none-found 7 (unsorted s l) (vertices s) clear_7) ∙ refused-last 8 (unreturned s l) (vertices s))
