use Rattle.std.proofs.Common.{◌≡◌, ℕ, true, false, ltb, eqb, List, [], ◌∷◌, length, get_or, sym, ap, ◌∙◌}
use Rattle.std.proofs.lemmas.Result.{err_from_is_err_and}
use Rattle.finite.specs.Search.{all}
use Rattle.table.specs.Guard.{refused, refused_at, refuse}
use Rattle.table.proofs.Guards.{goes_on}
use Rattle.table.proofs.Laws.{refused-found, none-found, pass}
use Rattle.houses.specs.Answers.{quotas_of, members_of}
use Rattle.houses.proofs.test_members.Goals as goal

-- what is left of the definition after 9
module _ (n : ℕ) (a house quotas : List ℕ) (room : ℕ) where
  unlike : all (eqb n) (length a ∷ length house ∷ []) ≡ false → members_of n a house quotas room ≡ refused 9 0
  unfolding members_of
  unlike e = rw e

  alike : all (eqb n) (length a ∷ length house ∷ []) ≡ true → members_of n a house quotas room ≡ refuse 10 (λ v. ltb 1 (get_or a v 0)) (length a) (quotas_of n house quotas room)
  unfolding members_of
  alike e = rw e

pub returns-then-not-all_are : goal.returns-then-not-all_are
returns-then-not-all_are c = rw c.new.ensures (sym (unlike _ _ _ _ _ (sym c.all_are.ensures ∙ c.if-not-all_are.true)))

pub returns-in_err-refuse : goal.returns-in_err-refuse
returns-in_err-refuse c =
    let place = ap (refused_at 10) (sym c.first_bad_byte.ensures) in
    let was = place ∙ sym c.refuse.ensures ∙ c.in_err-refuse.was in
    let p = err_from_is_err_and c.from_residual.result c.from_residual.ensures.1 in
    rw (p.1, p.2) (sym (alike _ _ _ _ _ (sym c.all_are.ensures ∙ c.if-not-all_are.false) ∙ refused-found 10 _ _ _ was))

pub returns : goal.returns
returns c =
    let place = ap (refused_at 10) (sym c.first_bad_byte.ensures) in
    let none = place ∙ goes_on c.refuse.ensures c.in_ok-refuse.was in
    c.test_quotas.ensures ∙ sym (alike _ _ _ _ _ (sym c.all_are.ensures ∙ c.if-not-all_are.false) ∙ pass 10 _ _ _ (none-found 10 _ _ none))
