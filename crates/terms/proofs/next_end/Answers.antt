use Rattle.std.proofs.Common.{arith, ◌≡◌, length, subst}
use Rattle.terms.specs.Days.{Nearest}
use Rattle.terms.proofs.Days.{nearest_next}
use Rattle.terms.proofs.next_end.Goals as goal

pub returns : goal.returns
returns c =
    let at = c.loop-end in
    let ends = c.args.ends.now in
    let all : at.end-index ≡ length ends = omega arith in
    nearest_next ends _ _ c.requires at.next (subst (λ m. Nearest ends c.args.day c.args.until m at.next) all at.invariant)
