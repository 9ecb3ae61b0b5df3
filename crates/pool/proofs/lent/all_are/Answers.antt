use Rattle.std.proofs.Common.{rules, tests, ◌∙◌}
use lib.Dec.{eqb}
use Rattle.std.proofs.lemmas.Iterator.{YieldsList-from_slice}
use Rattle.std.proofs.lemmas.Iterator.Search.{all_from_yields_List}
use Rattle.finite.proofs.Search.{list_all-all}
use Rattle.pool.proofs.lent.all_are.Goals as goal

pub returns : goal.returns
returns c =
    let test = eqb c.args.n in
    all_from_yields_List test _ _ c.all.result c.all.ensures.ran (YieldsList-from_slice c.args.lengths.now cc) (λ x b q k. search (rules, tests)) ∙ list_all-all test c.args.lengths.now
