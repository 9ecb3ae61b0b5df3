use Rattle.std.proofs.Common.{arith, ◌≡◌, ◌≤◌, ◌<◌, ◌+◌, ◌*◌, ℕ, Bool, true, false, not, ◌&&◌, ◌||◌, cond, leb, ltb, eqb, List, length, min, sym, ap, ◌∙◌}
use borrow.Author.Tests.{lt-ltb, le-ltb}
use Rattle.std.proofs.lemmas.Bool.Decides.{nat_tests}
use Rattle.std.specs.Ordering.{is_le, is_lt, nat_cmp}
use Rattle.std.proofs.lemmas.Result.{err_from_is_err_and}
use Rattle.finite.specs.Search.{NoneBelow}
use Rattle.table.specs.Guard.{refused, refused_at, refuse, clear}
use Rattle.table.proofs.Guards.{goes_on}
use Rattle.table.proofs.Laws.{refused-found, none-found, pass}
use Rattle.pool.specs.Lengths.{outside}
use Rattle.houses.specs.Answers.{quota_sum, quotas_of}
use Rattle.houses.proofs.test_quotas.Goals as goal

-- whether there are 1 to 16 houses
outside_houses : (m : ℕ) → (eqb m 0 || ltb 16 m) ≡ not (leb 1 m && leb m 16)
outside_houses m = grind (arith, nat_tests)

is_le-leb : (a b : ℕ) → is_le (nat_cmp a b) ≡ leb a b
is_le-leb a b = grind (arith, nat_tests)

in_houses : (m start end : ℕ) (spent b : Bool) → start ≡ 1 → end ≡ 16 → spent ≡ false → b ≡ (is_le (nat_cmp start m) && cond spent (is_lt (nat_cmp m end)) (is_le (nat_cmp m end))) → leb 1 m && leb m 16 ≡ b
in_houses m start end spent b s e x is = sym (is ∙ rw (s, e, x, is_le-leb 1 m, is_le-leb m 16))

-- what is left of the definition after each test
module _ (n : ℕ) (house quotas : List ℕ) (room : ℕ) where
  many : 60 < quota_sum quotas → quotas_of n house quotas room ≡ refused 11 0
  unfolding quotas_of
  many h = rw (lt-ltb 60 (quota_sum quotas) h)

  module _ (short : quota_sum quotas ≤ 60) where
    crowd : leb 1 (length quotas) && leb (length quotas) 16 ≡ false → quotas_of n house quotas room ≡ refused 26 0
    unfolding quotas_of
    crowd e = rw (le-ltb 60 (quota_sum quotas) short, outside_houses (length quotas), e)

    module _ (few : leb 1 (length quotas) && leb (length quotas) 16 ≡ true) where
      members : quotas_of n house quotas room ≡ refuse 27 (outside (length quotas) house) (length house) (cond (ltb room (quota_sum quotas * (48 + n))) (refused 12 0) clear)
      unfolding quotas_of
      members = rw (le-ltb 60 (quota_sum quotas) short, outside_houses (length quotas), few)

      module _ (housed : NoneBelow (outside (length quotas) house) (length house)) where
        narrow : room < quota_sum quotas * (48 + n) → quotas_of n house quotas room ≡ refused 12 0
        narrow h = members ∙ pass 27 _ _ _ housed ∙ rw (lt-ltb room (quota_sum quotas * (48 + n)) h)

        wide : quota_sum quotas * (48 + n) ≤ room → quotas_of n house quotas room ≡ clear
        wide h = members ∙ pass 27 _ _ _ housed ∙ rw (le-ltb room (quota_sum quotas * (48 + n)) h)

pub returns-then-lines-gt60 : goal.returns-then-lines-gt60
returns-then-lines-gt60 c = rw c.new.ensures (sym (many _ _ _ _ (omega (arith, c.total-lines.ensures))))

-- the sum is not held: it is that of the quotas
short_sum : (quotas : List ℕ) {lines : ℕ} → lines ≡ min 61 (quota_sum quotas) → lines ≤ 60 → (quota_sum quotas ≤ 60) × (quota_sum quotas ≡ lines)
short_sum quotas is h = (omega arith, omega arith)

pub returns-then-not-contains : goal.returns-then-not-contains
returns-then-not-contains c =
    let sum = short_sum c.args.quotas.now c.total-lines.ensures c.if-lines-gt60.false in
    let range = c.new-2.ensures in
    let few = in_houses _ _ _ _ _ range.start range.end range.exhausted c.contains.ensures.value ∙ c.if-not-contains.true in
    rw c.new-then-not-contains.ensures (sym (crowd _ _ _ _ sum.0 few))

pub returns-in_err-refuse : goal.returns-in_err-refuse
returns-in_err-refuse c =
    let sum = short_sum c.args.quotas.now c.total-lines.ensures c.if-lines-gt60.false in
    let range = c.new-2.ensures in
    let few = in_houses _ _ _ _ _ range.start range.end range.exhausted c.contains.ensures.value ∙ c.if-not-contains.false in
    let place = ap (refused_at 27) (sym c.first_outside.ensures) in
    let was = place ∙ sym c.refuse.ensures ∙ c.in_err-refuse.was in
    let p = err_from_is_err_and c.from_residual.result c.from_residual.ensures.1 in
    rw (p.1, p.2) (sym (members _ _ _ _ sum.0 few ∙ refused-found 27 _ _ _ was))

pub returns-then-room-lines : goal.returns-then-room-lines
returns-then-room-lines c =
    let sum = short_sum c.args.quotas.now c.total-lines.ensures c.if-lines-gt60.false in
    let range = c.new-2.ensures in
    let few = in_houses _ _ _ _ _ range.start range.end range.exhausted c.contains.ensures.value ∙ c.if-not-contains.false in
    let place = ap (refused_at 27) (sym c.first_outside.ensures) in
    let none = none-found 27 _ _ (place ∙ goes_on c.refuse.ensures c.in_ok-refuse.was) in
    rw c.new-then-room-lines.ensures (sym (narrow _ _ _ _ sum.0 few none (rw sum.1 c.if-room-lines.true)))

pub returns : goal.returns
returns c =
    let sum = short_sum c.args.quotas.now c.total-lines.ensures c.if-lines-gt60.false in
    let range = c.new-2.ensures in
    let few = in_houses _ _ _ _ _ range.start range.end range.exhausted c.contains.ensures.value ∙ c.if-not-contains.false in
    let place = ap (refused_at 27) (sym c.first_outside.ensures) in
    let none = none-found 27 _ _ (place ∙ goes_on c.refuse.ensures c.in_ok-refuse.was) in
    sym (wide _ _ _ _ sum.0 few none (rw sum.1 c.if-room-lines.false))
