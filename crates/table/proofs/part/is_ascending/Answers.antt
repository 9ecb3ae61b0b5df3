use Rattle.std.proofs.Common.{rules, tests}
use lib.Dec.{ltb}
use Rattle.std.proofs.lemmas.List.Sorted.{answers_always}
use Rattle.finite.proofs.Search.{adjacent-ascending}
use Rattle.table.proofs.part.is_ascending.Goals as goal

pub returns : goal.returns
returns c = adjacent-ascending c.args.part.now c.is_sorted_by.result (c.is_sorted_by.ensures.cases ltb (answers_always _ _ _ (λ f a r g h. search (rules, tests))))
