-- The answers of the component list: refused as the working of the sheet is, or how many components there are. Assumes nothing.
use mathlib.Core.Path.{◌≡◌, sym, ap, ◌∙◌}
use mathlib.Core.List.{List}
use Prim.Native.Nat.{ℕ}
use lib.ListN.{length}
use Rattle.finite.specs.Count.{count, below}
use Rattle.table.specs.Table.{vertices}
use Rattle.table.specs.Size.{size_of}
use Rattle.table.specs.declared.size.Size.{Size}
use Rattle.table.specs.Guard.{clear}
use Rattle.std.specs.Prelude.{Ok, Err}
use Rattle.table.proofs.Guards.{cleared, accepted_only}
use Rattle.anchored.specs.Component.{heads}
use Rattle.anchored.proofs.Ranked.{ranked-length}
use Rattle.pool.specs.Input.{graph_of, anchored_by}
use Rattle.pool.proofs.Laws.{simple}
use Rattle.pool.specs.Lengths.{slices_of}
use Rattle.pool.proofs.Lengths.{slices-sound}
use Rattle.components.specs.Answers.{list_of, numbers_of}

module _ (s l a lengths : List ℕ) where
  listed : ℕ × Size
  listed = (count (heads (graph_of s l) (anchored_by a)) (below (vertices s)), size_of s l)

  pub list_count : slices_of s l a lengths ≡ clear → list_of s l a lengths ≡ Ok (count (heads (graph_of s l) (anchored_by a)) (below (vertices s)), size_of s l)
  unfolding list_of
  list_count e = cleared _ _ e

  -- the count answered is the list's length
  pub list_length : {c : ℕ} {size : Size} → list_of s l a lengths ≡ Ok (c, size) → c ≡ length (numbers_of s l a)
  unfolding list_of listed
  list_length {c} {size} h =
      let told = accepted_only (slices_of s l a lengths) (Ok listed) Err (λ r e. cc) h in
      let both : listed ≡ (c, size) = cc told.1 in
      sym (ap (λ p. p.0) both) ∙ sym (ranked-length (graph_of s l) (simple (slices-sound s l a lengths told.0).0.table) (anchored_by a))
