-- Through every list of events the graph keeps a table. Assumes nothing.
use mathlib.Core.Path.{◌≡◌, sym, ap, ◌∙◌, subst}
use mathlib.Core.Bool.{Bool}
use mathlib.Core.List.{List}
use Prim.Native.Nat.{ℕ, zero, suc}
use Rattle.table.specs.Table.{vertices}
use Rattle.anchored.specs.Graph.{Graph}
use Rattle.anchored.specs.Events.{Event, Editable, edge_graph, after_events}
use Rattle.anchored.proofs.Events.{edge-size, accepted-edge, turn-anchor, turn-edge, turn-none, by_event}
use Rattle.edit.specs.Edit.{Tabled, starts_of, links_of}
use Rattle.edit.proofs.Canonical.{table-starts, table-links, tabled_itself}
use Rattle.edit.proofs.Edges.{edited_tabled}

-- the graph's own slices are a table of it
abbrev pub HasTable : Graph → Type 0
HasTable G = Tabled (starts_of G) (links_of G) G

pub tabled_canonical : {s l : List ℕ} {G : Graph} → Tabled s l G → HasTable G
tabled_canonical {s} {l} {G} table = subst (λ z. Tabled z (links_of G) G) (table-starts table) (subst (λ z. Tabled s z G) (table-links table) table)

-- and have its vertices
canonical_size : (G : Graph) → HasTable G → vertices (starts_of G) ≡ G.size
canonical_size G table = ap (λ g. g.size) table.graph

-- an edge that is added or dropped leaves a graph with a table
edge_tabled : (G : Graph) (e : Event) → HasTable G → Editable G e → HasTable (edge_graph G e)
edge_tabled G e table E =
    let s = starts_of G in
    let l = links_of G in
    let after = edited_tabled s l e (tabled_itself table) (subst (λ g. Editable g e) (sym table.graph) E) in
    tabled_canonical (subst (λ g. Tabled after.0 after.1 (edge_graph g e)) table.graph after.2)

module _ {s l : List ℕ} {G : Graph} (table : Tabled s l G) (A : ℕ → Bool) (events : ℕ → Event) where
  kept : (i : ℕ) → let H = (after_events G A events i).graph in HasTable H × (H.size ≡ vertices s)
  unfolding after_events
  kept zero = (tabled_canonical table, sym (ap (λ g. g.size) table.graph))
  kept (suc i) =
      let P = after_events G A events i in
      let e = events i in
      let so = kept i in
      by_event P e
      (λ z t. rw (turn-anchor P e (suc i) z t) so)
      (λ z t. rw (turn-edge P e (suc i) z t) (edge_tabled P.graph e so.0 (accepted-edge P e z t), edge-size P.graph e ∙ so.1))
      (λ n. rw (turn-none P e (suc i) n) so)

  -- after every event the slices of the plain session's graph are a table of it, with as many vertices
  pub after_tabled : (i : ℕ) → let H = (after_events G A events i).graph in Tabled (starts_of H) (links_of H) H × (vertices (starts_of H) ≡ vertices s)
  after_tabled i = let so = kept i in (so.0, canonical_size (after_events G A events i).graph so.0 ∙ so.1)
