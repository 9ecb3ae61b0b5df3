use Rattle.std.proofs.Common.{◌<◌, get_or, lt-ltb, ap, ◌∙◌, rules, tests, of_calls, arith}
use Rattle.std.proofs.lemmas.Iterator.{YieldsList-from_slice}
use Rattle.std.proofs.lemmas.Iterator.Adapters.{serves_from_places}
use Rattle.std.proofs.lemmas.Iterator.Search.{any_from_yields_List}
use Rattle.finite.specs.Search.{any}
use Rattle.stale.specs.Marks.{looks_through}
use Rattle.stale.proofs.Marks.{any_is}
use Rattle.stale.proofs.Stale.{near_part}
use Rattle.stale.proofs.Columns.looks.Goals as goal

pub any-requires-clause-callable : goal.any-requires-clause-callable
any-requires-clause-callable c =
    let part = c.neighbors-part in
    let near = near_part c.requires.sound_table c.args.u c.requires.u_bound part.result.now part.ensures in
    serves_from_places (YieldsList-from_slice part.result.now cc) (λ x q k. search (rules, tests)) (λ x k h e. let low : x.now < 1024 = omega (arith, e, near k x.now h) in search of_calls)

pub returns : goal.returns
returns c =
    let args = c.args in
    let x = args.self.now in
    let test = looks_through x.level x.layer x.component args.changed.now args.u in
    let part = c.neighbors-part in
    let near : get_or x.component args.u 0 < 1024 = omega arith in
    rw (lt-ltb (get_or x.component args.u 0) 1024 near)
    (any_from_yields_List test _ _ _ c.any.ensures.ran (YieldsList-from_slice part.result.now cc) (λ x b q k. search (rules, tests))
    ∙ any_is test part.result.now ∙ ap (any test) part.ensures)
