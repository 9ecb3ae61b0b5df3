-- Lent slices: what is refused, and what is promised where nothing is. Assumes nothing.
use mathlib.Core.Path.{◌≡◌, sym, ◌∙◌}
use mathlib.Core.Bool.{Bool, true, false, cond}
use mathlib.Core.List.{List}
use Prim.Native.Nat.{ℕ}
use native.Mathlib.Omega.{arith}
use lib.Dec.{T, eqb, eqb→eq}
use Rattle.finite.specs.Count.{In}
use Rattle.finite.specs.Search.{all}
use Rattle.finite.proofs.Search.{all-e}
use Rattle.table.specs.Table.{vertices}
use Rattle.table.specs.Guard.{refused}
use Rattle.table.specs.Rule.{Refusal}
use Rattle.table.specs.Guard.{Guard}
use Rattle.table.specs.Guard.{clear}
use Rattle.std.specs.Prelude.{Err}
use Rattle.table.proofs.Guards.{both-passed, cleared}
use Rattle.pool.specs.Input.{admit_of, Admitted}
use Rattle.pool.proofs.Laws.{admitted}
use Rattle.pool.specs.Lengths.{slices_of}

-- where a test that fails leads to a refusal, a guard that is passed passed it
pub passed : (b : Bool) (r : Refusal) (rest : Guard) → cond b rest (Err r) ≡ clear → T b × (rest ≡ clear)
passed true r rest e = (tt, e)
passed false r rest e = let z : ◌≡◌ {A = ℕ} 0 1 = cc in absurd (omega arith)

-- what the test of lengths says of each
pub each : (n : ℕ) (lengths : List ℕ) → T (all (eqb n) lengths) → (k : ℕ) → In k lengths → k ≡ n
each n lengths t k i = sym (eqb→eq n k (all-e (eqb n) lengths t k i))

module _ (s l a lengths : List ℕ) where
  -- of what is admitted the lengths decide
  pub slices-lent : {b : Bool} → admit_of s l a ≡ clear → all (eqb (vertices s)) lengths ≡ b → slices_of s l a lengths ≡ cond b clear (refused 12 0)
  unfolding slices_of
  slices-lent e f = cleared _ _ e ∙ rw f

  -- what is not refused is admitted, and each slice is of n
  pub slices-sound : slices_of s l a lengths ≡ clear → Admitted s l a × ((k : ℕ) → In k lengths → k ≡ vertices s)
  unfolding slices_of
  slices-sound e =
      let n = vertices s in
      let through = both-passed (admit_of s l a) _ e in
      (admitted s l a through.0, each n lengths (passed (all (eqb n) lengths) _ clear through.1).0)
