-- The status of an edge event, test by test. Assumes nothing.
use mathlib.Core.Path.{◌≡◌, refl, ◌∙◌}
use mathlib.Core.Bool.{Bool, true, false, cond, ◌&&◌, beq}
use mathlib.Core.List.{List}
use Prim.Native.Nat.{ℕ, ◌+◌, ◌≤◌, ◌<◌}
use native.Mathlib.Omega.{arith}
use lib.Dec.{ltb}
use borrow.Author.Tests.{lt-ltb, le-ltb, eq-eqb, ne_eqb}
use Rattle.finite.specs.Search.{member}
use Rattle.table.specs.Table.{vertices, neighbors}
use Rattle.anchored.specs.Edge.{link_count}
use Rattle.anchored.specs.Events.{edge_event, adds, edge_status}
use Rattle.pool.specs.Input.{graph_of}
use Rattle.edit.specs.Edit.{last_start, Tabled}
use Rattle.edit.proofs.Canonical.{link-count}

-- the event adds exactly if it is asked to
adds-asked : (adding : Bool) (a b : ℕ) → adds (edge_event adding a b) ≡ adding
adds-asked true a b = refl
adds-asked false a b = refl

same : (b : Bool) → beq b b ≡ true
same true = refl
same false = refl

module _ {s l : List ℕ} (table : Tabled s l (graph_of s l)) (adding : Bool) (a b : ℕ) where
  abbrev status : ℕ
  status = edge_status (graph_of s l) (edge_event adding a b)

  pub status-own : a ≡ b → status ≡ 6
  unfolding edge_status
  status-own e = rw (eq-eqb a b e)

  module _ (other : a ≡ b → ⊥) where
    pub status-first : vertices s ≤ a → status ≡ 15
    unfolding edge_status
    status-first h = rw (ne_eqb a b other, le-ltb a (vertices s) h)

    pub status-second : a < vertices s → vertices s ≤ b → status ≡ 15
    unfolding edge_status
    status-second ha h = rw (ne_eqb a b other, lt-ltb a (vertices s) ha, le-ltb b (vertices s) h)

    module _ (ha : a < vertices s) (hb : b < vertices s) where
      abbrev there : Bool
      there = member b (neighbors s l a)

      of_vertices : status ≡ cond (beq there adding) 22 (cond (adding && ltb 16384 (link_count (graph_of s l) + 2)) 23 0)
      unfolding edge_status
      of_vertices = rw (adds-asked adding a b, ne_eqb a b other, lt-ltb a (vertices s) ha, lt-ltb b (vertices s) hb)

      -- the edge is there already, or is not there
      pub status-vain : there ≡ adding → status ≡ 22
      status-vain e = of_vertices ∙ rw (e, same adding)

      pub status-dropped : there ≡ true → adding ≡ false → status ≡ 0
      status-dropped t e = of_vertices ∙ rw (t, e)

      -- the last start tells whether there is space
      module _ (f : there ≡ false) (e : adding ≡ true) where
        pub status-full : 16382 < last_start s → status ≡ 23
        status-full h = of_vertices ∙ rw (f, e, lt-ltb 16384 (link_count (graph_of s l) + 2) (omega (arith, link-count table)))

        pub status-added : last_start s ≤ 16382 → status ≡ 0
        status-added h = of_vertices ∙ rw (f, e, le-ltb 16384 (link_count (graph_of s l) + 2) (omega (arith, link-count table)))
