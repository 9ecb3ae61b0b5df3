use Rattle.std.proofs.Common.{rules, tests, ◌∙◌}
use lib.Dec.{ltb}
use Rattle.std.proofs.lemmas.Iterator.{YieldsList-from_slice}
use Rattle.std.proofs.lemmas.Iterator.Search.{position_from_yields_List}
use Rattle.finite.proofs.Search.{position-found}
use Rattle.pool.proofs.input.first_bad_byte.Goals as goal

pub returns : goal.returns
returns c = position_from_yields_List (ltb 1) _ _ c.position.result c.position.ensures.ran (YieldsList-from_slice c.args.anchored.now cc) (λ x b q k. search (rules, tests)) ∙ position-found (ltb 1) c.args.anchored.now
