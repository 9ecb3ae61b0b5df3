use Rattle.std.proofs.Common.{arith, sym, ◌∙◌}
use Rattle.finite.proofs.Search.{found_hit, found_none}
use Rattle.table.proofs.rules.first_unreturned.Goals as goal

pub returns-then-is_unreturned : goal.returns-then-is_unreturned
returns-then-is_unreturned c = sym (found_hit _ _ _ c.loop-v.invariant (omega arith) (sym c.is_unreturned.ensures ∙ c.if-is_unreturned.true))

pub returns : goal.returns
returns c = sym (found_none _ _ (λ k h. c.loop-v.invariant k (omega arith)))
