use Rattle.std.proofs.Common.{◌≡◌, eqb, take, get_or, refl, arith, rules}
use Rattle.std.proofs.lemmas.List.{get_or-take}
use Rattle.finite.proofs.Count.{zeros-at, count-below-zero}
use Rattle.components.proofs.Entries.{members-few, members-more, members-same}
use Rattle.components.proofs.count_members.Goals as goal
use Rattle.components.proofs.count_members.Goals.{then-number-n, else-number-n}

pub loop-number-init : goal.loop-number-init
loop-number-init c = record {
  long = refl;
  counted = λ i b. omega (arith, zeros-at 1024 i, count-below-zero (λ v. eqb (get_or c.args.component.now v 0) i));
}

pub overflow_add-size : goal.overflow_add-size
overflow_add-size c =
    let few = members-few c.args.component.now c.loop-number.size c.args.n c.loop-number.number-index c.loop-number.invariant.counted _ c.if-number-n.true in
    omega arith

pub loop-number-preserved : goal.loop-number-preserved
loop-number-preserved c =
    let at = c.loop-number in
    let numbers = c.args.component.now in
    let read : get_or (take c.args.n numbers) at.number-index 0 ≡ get_or numbers at.number-index 0 = get_or-take c.args.n numbers at.number-index 0 (omega arith) in
    elim c.if-number-n.branch [
      | then-number-n w ↦ record {
        long = search rules;
        counted = rw (w.size-is, read) (members-more numbers at.size c.args.n at.number-index at.invariant.counted (omega arith) (omega arith));
      }
      | else-number-n w ↦ record {
        long = search rules;
        counted = rw w.size-is (members-same numbers at.size c.args.n at.number-index at.invariant.counted (omega arith));
      }
    ]
