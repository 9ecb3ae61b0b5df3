-- What a session refuses, test by test. Assumes nothing.
use mathlib.Core.Path.{◌≡◌, ◌∙◌}
use mathlib.Core.Bool.{Bool, true, false, cond}
use mathlib.Core.List.{List}
use Prim.Native.Nat.{ℕ}
use lib.ListN.{length, get_or}
use lib.Dec.{ltb}
use borrow.Author.Tests.{eq-eqb, ne_eqb}
use Rattle.table.specs.Table.{vertices}
use Rattle.table.specs.Guard.{refused, refuse}
use Rattle.table.specs.Guard.{Guard}
use Rattle.table.specs.Guard.{clear}
use Rattle.table.proofs.Guards.{cleared}
use Rattle.edit.specs.Lent.{check_lent}
use Rattle.session.specs.Run.{admit_run}

-- 11 and 12, by the number of events and the lengths of the slices
abbrev pub lengths : ℕ → Bool → Guard
lengths m fits = cond (ltb 4096 m) (refused 11 0) (cond fits clear (refused 12 0))

module _ (s l a : List ℕ) (m : ℕ) (matches fits : Bool) (checked : check_lent s l ≡ clear) where
  -- a lent table that passes its check is refused for the number of bytes
  pub wrong_bytes : (length a ≡ vertices s → ⊥) → admit_run s l a m matches fits ≡ refused 9 0
  unfolding admit_run
  wrong_bytes n = cleared _ _ checked ∙ rw (ne_eqb (length a) (vertices s) n)

  module _ (long : length a ≡ vertices s) where
    -- then for lists that are not of one length
    pub wrong_lists : matches ≡ false → admit_run s l a m matches fits ≡ refused 9 0
    unfolding admit_run
    wrong_lists e = cleared _ _ checked ∙ rw (eq-eqb (length a) (vertices s) long, e)

    -- and then for a byte, or what comes after
    pub right-lists : matches ≡ true → admit_run s l a m matches fits ≡ refuse 10 (λ v. ltb 1 (get_or a v 0)) (vertices s) (lengths m fits)
    unfolding admit_run
    right-lists e = cleared _ _ checked ∙ rw (eq-eqb (length a) (vertices s) long, e)
