use Rattle.std.proofs.Common.{rules, tests, ◌∙◌}
use lib.Dec.{leb}
use Rattle.std.proofs.lemmas.Iterator.{YieldsList-from_slice}
use Rattle.std.proofs.lemmas.Iterator.Search.{position_from_yields_List}
use Rattle.finite.proofs.Search.{position-found}
use Rattle.pool.proofs.lent.first_outside.Goals as goal

pub returns : goal.returns
returns c =
    let test = leb c.args.bound in
    position_from_yields_List test _ _ c.position.result c.position.ensures.ran (YieldsList-from_slice c.args.numbers.now cc) (λ x b q k. search (rules, tests)) ∙ position-found test c.args.numbers.now
