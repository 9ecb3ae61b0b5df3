-- A graph has one table in 16,384 places, and its last start is the number of links. Assumes nothing.
use mathlib.Core.Path.{◌≡◌, refl, sym, ap, ap₂, ◌∙◌}
use mathlib.Core.List.{List, [], ◌∷◌, ◌++◌, flatten, append-nil}
use Prim.Native.Nat.{ℕ, zero, suc, ◌+◌, ◌-◌, ◌≤◌}
use native.Mathlib.Omega.{arith}
use lib.ListN.{length, take, drop, get_or, replicate, length-drop, length-replicate, take-append-drop}
use lib.Seq.{take-add, get_or-drop, ext_get_or}
use Rattle.finite.specs.Count.{tabulate, below, sum}
use Rattle.finite.proofs.Count.{length-tabulate, tabulate-at, flatten_append, zeros-at}
use Rattle.table.specs.Table.{vertices, neighbors}
use Rattle.table.proofs.Edges.{degrees-below}
use Rattle.anchored.specs.Graph.{Graph}
use Rattle.anchored.specs.Edge.{link_count}
use Rattle.pool.specs.Input.{graph_of}
use Rattle.edit.specs.Edit.{last_start, Padded, Tabled, starts_of, links_of}

module _ {s l : List ℕ} (P : Padded s l) where
  abbrev lists : ℕ → List ℕ
  lists = neighbors s l

  abbrev before : ℕ → ℕ
  before v = sum (λ u. length (lists u)) (below v)

  -- a start is the number of links before it
  start-before : (v : ℕ) → v ≤ vertices s → get_or s v 0 ≡ before v
  start-before v h = omega (arith, degrees-below s l P.framed v h, P.origin)

  count-last : link_count (graph_of s l) ≡ last_start s
  unfolding link_count
  count-last = sym (start-before (vertices s) (omega arith))

  -- the links before a start are the lists before it
  links-before : (v : ℕ) → v ≤ vertices s → take (get_or s v 0) l ≡ flatten (tabulate lists v)
  unfolding tabulate neighbors flatten
  links-before zero h = ap (λ z. take z l) P.origin
  links-before (suc v) h =
      let q : v + 1 ≡ suc v = omega arith in
      let step = P.framed.step v (omega arith) in
      let meet : get_or s (suc v) 0 ≡ get_or s v 0 + (get_or s (v + 1) 0 - get_or s v 0) = omega (arith, ap (λ z. get_or s z 0) q) in
      ap (λ z. take z l) meet
      ∙ take-add (get_or s v 0) (get_or s (v + 1) 0 - get_or s v 0) l
      ∙ ap₂ ◌++◌ (links-before v (omega arith)) (sym (append-nil (lists v)))
      ∙ sym (flatten_append (tabulate lists v) (lists v ∷ []))

  own-starts : s ≡ starts_of (graph_of s l)
  unfolding starts_of
  own-starts =
      let n = vertices s in
      let some = P.framed.some in
      let long = length-tabulate before (n + 1) in
      ext_get_or 0 s (tabulate before (n + 1)) (omega arith) (λ i b. start-before i (omega arith) ∙ sym (tabulate-at before (n + 1) i (omega arith)))

  own-links : length l ≡ 16384 → l ≡ links_of (graph_of s l)
  unfolding links_of
  own-links full =
      let n = vertices s in
      let last = last_start s in
      let rest : drop last l ≡ replicate (16384 - last) 0 = let most = P.framed.within n (omega arith) in
      ext_get_or 0 (drop last l) (replicate (16384 - last) 0) (omega (arith, length-drop last l, length-replicate {A = ℕ} (16384 - last) 0))
      (λ i b. get_or-drop last l i 0 ∙ P.zeros (last + i) (omega arith) ∙ sym (zeros-at (16384 - last) i)) in
      sym (take-append-drop last l) ∙ ap₂ ◌++◌ (links-before n (omega arith)) (rest ∙ ap (λ (z : ℕ). replicate (16384 - z) 0) (sym count-last))

module _ {s l : List ℕ} {G : Graph} (table : Tabled s l G) where
  -- the last start is the number of links
  pub link-count : link_count G ≡ last_start s
  link-count = ap link_count (sym table.graph) ∙ count-last table.padded

  -- the lent slices are those of the graph's table
  pub table-starts : s ≡ starts_of G
  table-starts = own-starts table.padded ∙ ap starts_of table.graph

  pub table-links : l ≡ links_of G
  table-links = own-links table.padded table.places ∙ ap links_of table.graph

  -- a table of a graph is one of its own
  pub tabled_itself : Tabled s l (graph_of s l)
  tabled_itself = record { padded = table.padded; sound = table.sound; places = table.places; graph = refl }
