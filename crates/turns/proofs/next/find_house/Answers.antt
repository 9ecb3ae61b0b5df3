-- The first house from the next one on that is not to be passed is the one served. Assumes nothing.
use Rattle.std.proofs.Common.{◌≡◌, Bool, ◌||◌, ℕ, ap, sym, ◌∙◌, arith, eqb}
use mathlib.Core.Bool.{not}
use borrow.Author.Count.{below_more}
use Rattle.finite.specs.Count.{below}
use Rattle.finite.specs.Search.{any}
use Rattle.anchored.specs.Houses.{Houses, Turns, turns_after, free_in, is_passed}
use Rattle.anchored.proofs.Houses.{waits, served-found, served-nobody}
use Rattle.pool.specs.Input.{anchored_by}
use Rattle.turns.specs.Turns.{houses_by, turns_by}
use Rattle.turns.proofs.Found.{found_some, found_none}
use Rattle.turns.proofs.next.find_house.Goals as goal

-- house c, the one d turns on, is passed or not, as the test tells
told : (H : Houses) (n : ℕ) (A : ℕ → Bool) (t : Turns) (d c : ℕ) → c ≡ turns_after H.count t.next d
    → {r : Bool} → r ≡ eqb (t.left c) 0 || not (any (free_in H A c) (below n)) → not r ≡ waits H n A t d
unfolding is_passed
told H n A t d c here e = ap not (e ∙ ap (λ x. eqb (t.left x) 0 || not (any (free_in H A x) (below n))) here)

pub returns-then-not-is_passed : goal.returns-then-not-is_passed
returns-then-not-is_passed c =
    let args = c.args in
    let H = houses_by args.house.now args.houses in
    let A = anchored_by args.anchored.now in
    let t = turns_by args.turns.now in
    let waits = sym (told H args.n A t c.loop-d.d _ c.turns_after-c.ensures.house c.is_passed.ensures) ∙ ap not c.if-not-is_passed.true in
    let e = served-found H args.n A t _ c.loop-d.invariant c.loop-d-test.true waits in
    found_some args.houses (c.turns_after-c.ensures.house ∙ sym e) (omega (arith, e))

pub loop-d-preserved : goal.loop-d-preserved
loop-d-preserved c =
    let args = c.args in
    let told = told (houses_by args.house.now args.houses) args.n (anchored_by args.anchored.now) (turns_by args.turns.now) c.loop-d.d _ c.turns_after-c.ensures.house c.is_passed.ensures in
    below_more _ _ c.loop-d.invariant (sym told ∙ ap not c.if-not-is_passed.false)

pub returns : goal.returns
returns c =
    let args = c.args in
    let e : c.loop-d.d ≡ args.houses = omega arith in
    found_none args.houses (omega (arith, served-nobody (houses_by args.house.now args.houses) args.n (anchored_by args.anchored.now) (turns_by args.turns.now) (rw e at c.loop-d.invariant)))
