-- One of the quota of the house served is spent. Assumes nothing.
use Rattle.std.proofs.Common.{◌-◌, ◌<◌, length, get_or, cond, ltb, eqb, sym, ap, ap₂, ◌∙◌, arith}
use mathlib.Core.Path.{fun_ext}
use lib.ListN.{get_or-eq_default}
use lib.Dec.{eqb→eq, ltb→lt, nltb→le}
use Rattle.finite.proofs.Tests.{split, false_of}
use Rattle.finite.proofs.Count.{set_reads}
use Rattle.anchored.proofs.Houses.{turns_taken, turns-stay}
use Rattle.turns.specs.Turns.{turns_by}
use Rattle.turns.proofs.next.take_turn.Goals as goal

pub returns-then-c-houses : goal.returns-then-c-houses
returns-then-c-houses c =
    let x = c.in-Some.c in
    let left = c.args.turns.now.left in
    let low = c.if-c-houses.true in
    let some = (rw c.in-Some.is at c.requires.left) low in
    let within : x < length left = split (ltb x (length left)) (ltb→lt x (length left)) (λ t. absurd (omega (arith, get_or-eq_default left 0 (nltb→le x (length left) t), some))) in
    rw c.in-Some.is (ap₂ (λ z f. record { next = z; left = f }) c.turns_after-turns.ensures.house
    (fun_ext (λ e. set_reads left x (get_or left x 0 - 1) e (λ q. within) ∙ split (eqb x e)
    (λ t. ap (λ z. cond (eqb x e) (get_or left z 0 - 1) (get_or left e 0)) (eqb→eq x e t))
    (λ t. rw (false_of (eqb x e) t))))
    ∙ sym (turns_taken c.args.houses x (turns_by c.args.turns.now) low))

pub returns-else-c-houses : goal.returns-else-c-houses
returns-else-c-houses c = rw c.in-Some.is (sym (turns-stay c.args.houses c.in-Some.c (turns_by c.args.turns.now) c.if-c-houses.false))

pub returns-in_default : goal.returns-in_default
returns-in_default c = rw c.in_default.is (sym (turns-stay c.args.houses c.args.houses (turns_by c.args.turns.now) (omega arith)))
