use Rattle.std.proofs.Common.{rules, tests, refl, length, arith}
use Rattle.std.proofs.lemmas.Iterator.{YieldsList-from_range}
use Rattle.std.proofs.lemmas.Iterator.Search.{find_from_yields_List}
use Rattle.finite.proofs.Search.{found-by}
use Rattle.table.specs.Table.{bad_start}
use Rattle.table.proofs.rules.first_bad_start.Goals as goal

pub returns : goal.returns
returns c =
    let s = c.args.starts.now in
    let bad = bad_start s c.args.links.now in
    found-by bad (length s) c.find.result (find_from_yields_List bad _ _ c.find.result c.find.ensures.ran (YieldsList-from_range 0 (length s) (length s) refl (omega arith)) (λ x b q k. search (rules, tests)))
