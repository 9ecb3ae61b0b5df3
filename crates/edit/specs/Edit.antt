-- Document 02, card 6: the table lent for writing, the table of a graph, and a link put into a table in place, or taken out.
use Rattle.std.specs.Prelude.{◌≡◌, cond, ℕ, ◌+◌, ◌-◌, ◌≤◌, ◌<◌, length, get_or, replicate, leb, ltb, eqb}
use mathlib.Core.List.{List, ◌++◌, flatten}
use Rattle.finite.specs.Count.{bit, tabulate, below, sum}
use Rattle.finite.specs.Search.{first}
use Rattle.table.specs.Table.{vertices, neighbors, Framed, SoundTable}
use Rattle.anchored.specs.Graph.{Graph}
use Rattle.anchored.specs.Edge.{link_count}
use Rattle.pool.specs.Input.{graph_of}

-- ---- the lent table

-- card 6: the table's link count is the last start
abbrev pub last_start : List ℕ → ℕ
last_start s = get_or s (vertices s) 0

-- the starts go up from 0 within the link places, and the places past the last start hold 0
pub record Padded (s l : List ℕ) : Type 0 where
  pub framed : Framed s l
  pub few : length l ≤ 16384
  pub origin : get_or s 0 0 ≡ 0
  pub zeros : (i : ℕ) → last_start s ≤ i → get_or l i 0 ≡ 0

-- card 6: a sound table of the graph in exactly 16,384 link places, those past the last start 0. Laws `table-starts`, `table-links`: a graph has one
pub record Tabled (s l : List ℕ) (G : Graph) : Type 0 where
  pub padded : Padded s l
  pub sound : SoundTable s l
  pub places : length l ≡ 16384
  pub graph : graph_of s l ≡ G

-- ---- the table of a graph

-- its starts: how many links stand before those of each vertex
unfoldable pub starts_of : Graph → List ℕ
starts_of G = tabulate (λ v. sum (λ u. length (G.neighbors u)) (below v)) (G.size + 1)

-- its links: the neighbors of each vertex behind those of the one before, and zeros up to 16,384 places
unfoldable pub links_of : Graph → List ℕ
links_of G = flatten (tabulate G.neighbors G.size) ++ replicate (16384 - link_count G) 0

-- ---- one link

-- start i where v has one link more: the starts behind v are one higher
abbrev pub raised_at : List ℕ → ℕ → ℕ → ℕ
raised_at s v i = get_or s i 0 + bit (ltb v i)

-- start i where v has one link less: the starts behind v are one lower
abbrev pub lowered_at : List ℕ → ℕ → ℕ → ℕ
lowered_at s v i = get_or s i 0 - bit (ltb v i)

-- link i where w is put at place p: the links from p on stand one place further
abbrev pub put_at : List ℕ → ℕ → ℕ → ℕ → ℕ
put_at l p w i = cond (ltb i p) (get_or l i 0) (cond (eqb i p) w (get_or l (i - 1) 0))

-- link i where the link at place p is taken out: the links behind it stand one place nearer
abbrev pub taken_at : List ℕ → ℕ → ℕ → ℕ
taken_at l p i = cond (ltb i p) (get_or l i 0) (get_or l (i + 1) 0)

-- the first place in a list of a number that is w or more, or the list's length
abbrev pub place_of : List ℕ → ℕ → ℕ
place_of list w = first (λ i. leb w (get_or list i 0)) (length list)

-- a padded table with another list for v and the same for every other vertex; the last start moved with the list's length
pub record Relisted (s l : List ℕ) (v : ℕ) (list s' l' : List ℕ) : Type 0 where
  pub starts_long : length s' ≡ length s
  pub links_long : length l' ≡ length l
  pub padded : Padded s' l'
  pub here : neighbors s' l' v ≡ list
  pub last : get_or s' (vertices s) 0 + length (neighbors s l v) ≡ last_start s + length list
  pub others : (u : ℕ) → u < vertices s → (v ≡ u → ⊥) → neighbors s' l' u ≡ neighbors s l u
