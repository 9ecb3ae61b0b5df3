-- An edge added to the lent table, or dropped from it, as two links: it stays a table, and its graph is the edited one. Assumes nothing.
use mathlib.Core.Path.{◌≡◌, refl, sym, ap, ap₂, ◌∙◌, subst, fun_ext}
use mathlib.Core.Bool.{not}
use mathlib.Core.List.{List, []}
use Prim.Native.Nat.{ℕ, ◌+◌, ◌-◌, ◌≤◌, ◌<◌}
use native.Mathlib.Omega.{arith}
use lib.ListN.{length, take, drop, get_or, get_or-eq_default}
use lib.Dec.{T, ltb, ltb→lt, nltb→le}
use Rattle.finite.specs.Count.{In, tabulate}
use Rattle.finite.specs.Search.{ascending}
use Rattle.finite.specs.Edits.{insert, remove}
use Rattle.finite.proofs.Tests.{split, true_of, false_of}
use Rattle.finite.proofs.Edits.{insert-length, insert-ascending, remove-ascending}
use Rattle.table.specs.Table.{vertices, neighbors, Framed, SoundTable}
use Rattle.anchored.specs.Graph.{Graph, Simple}
use Rattle.anchored.specs.Edge.{edited}
use Rattle.anchored.specs.Events.{Event, adds, Editable, edge_graph}
use Rattle.anchored.proofs.Edge.{edited-cases, edited-other, with_simple, without-simple}
use Rattle.pool.specs.Input.{graph_of}
use Rattle.pool.proofs.Laws.{simple}
use Rattle.edit.specs.Edit.{last_start, Padded, Tabled, raised_at, lowered_at, put_at, taken_at, place_of, Relisted}
use Rattle.edit.proofs.Places.{put_table, taken_table}
use Rattle.edit.proofs.Canonical.{link-count}

-- ---- the graph of a table

-- a number past the vertices has no neighbors
pub none-beyond : (s l : List ℕ) (u : ℕ) → vertices s ≤ u → neighbors s l u ≡ []
unfolding neighbors
none-beyond s l u h =
    let end : get_or s (u + 1) 0 ≡ 0 = get_or-eq_default s 0 (omega arith) in
    let none : get_or s (u + 1) 0 - get_or s u 0 ≡ 0 = omega arith in
    ap (λ z. take z (drop (get_or s u 0) l)) none

-- so a table with the neighbors that a graph's vertices have, where the graph has no others, is of that graph
pub graph_is : (s l : List ℕ) (G : Graph) → vertices s ≡ G.size → ((u : ℕ) → u < vertices s → neighbors s l u ≡ G.neighbors u) → ((u : ℕ) → vertices s ≤ u → G.neighbors u ≡ [])
    → graph_of s l ≡ G
graph_is s l G size lists none =
    ap₂ (λ (n : ℕ) (f : ℕ → List ℕ). record { size = n; neighbors = f }) size
    (fun_ext (λ u. split (ltb u (vertices s)) (λ t. lists u (ltb→lt u (vertices s) t)) (λ t. let far = nltb→le u (vertices s) t in none-beyond s l u far ∙ sym (none u far))))

-- a table in order, of a simple graph with ascending lists, is sound
pub sound_of : {s l : List ℕ} {G : Graph} → Framed s l → length l ≤ 16384 → graph_of s l ≡ G
    → G.size ≤ 1024 → Simple G → ((v : ℕ) → v < G.size → T (ascending (G.neighbors v))) → SoundTable s l
sound_of {s} {l} f few e small L up =
    let simply : Simple (graph_of s l) = subst Simple (sym e) L in record {
      framed = f;
      small = subst (λ g. g.size ≤ 1024) (sym e) small;
      few = few;
      range = simply.range;
      loopless = simply.loopless;
      ascending = subst (λ g. (v : ℕ) → v < g.size → T (ascending (g.neighbors v))) (sym e) up;
      distinct = simply.distinct;
      symmetric = simply.symmetric;
    }

-- ---- two links

module _ (edit : ℕ → List ℕ → List ℕ) {s l s₁ l₁ s₂ l₂ : List ℕ} (a b : ℕ) (other : a ≡ b → ⊥) (ba : a < vertices s) (bb : b < vertices s)
    (one : Relisted s l a (edit b (neighbors s l a)) s₁ l₁) (two : Relisted s₁ l₁ b (edit a (neighbors s₁ l₁ b)) s₂ l₂)
  where
    abbrev G : Graph
    G = graph_of s l

    abbrev H : Graph
    H = edited edit G a b

    sizes : (vertices s₁ ≡ vertices s) × (vertices s₂ ≡ vertices s)
    sizes = (omega (arith, one.starts_long), omega (arith, one.starts_long, two.starts_long))

    -- the neighbors of b are the old ones between the two
    listed : (u : ℕ) → u < vertices s → neighbors s₂ l₂ u ≡ H.neighbors u
    listed u bu =
        let far : u < vertices s₁ = omega (arith, sizes.0) in
        edited-cases edit G a b u (λ list. neighbors s₂ l₂ u ≡ list)
        (λ e. two.others u far (λ d. other (e ∙ sym d)) ∙ subst (λ z. neighbors s₁ l₁ z ≡ edit b (neighbors s l z)) e one.here)
        (λ n e. subst (λ z. neighbors s₂ l₂ z ≡ edit a (neighbors s l z)) e (two.here ∙ ap (edit a) (one.others b bb other)))
        (λ n m. two.others u far m ∙ one.others u bu n)

    edited-graph : graph_of s₂ l₂ ≡ H
    edited-graph = graph_is s₂ l₂ H sizes.1 (λ u h. listed u (omega (arith, sizes.1))) (λ u h.
        let far : vertices s ≤ u = omega (arith, sizes.1) in
        edited-other edit G a b u (λ e. absurd (omega arith)) (λ e. absurd (omega arith)) ∙ none-beyond s l u far)

    -- with an edit that keeps lists in order it stays a table
    edited-table : Tabled s l G → Simple H → T (ascending (edit b (neighbors s l a))) → T (ascending (edit a (neighbors s l b))) → Tabled s₂ l₂ H
    edited-table table L up down =
        let full : length l₂ ≡ 16384 = two.links_long ∙ one.links_long ∙ table.places in record {
          padded = two.padded;
          sound = sound_of two.padded.framed (omega arith) edited-graph table.sound.small L (λ v h. edited-cases edit G a b v (λ list. T (ascending list))
              (λ e. subst (λ z. T (ascending (edit b (neighbors s l z)))) e up)
              (λ n e. subst (λ z. T (ascending (edit a (neighbors s l z)))) e down)
              (λ n m. table.sound.ascending v h));
          places = full;
          graph = edited-graph;
        }

-- ---- an edge event

-- what `put` asks of a table, and what `take` asks
abbrev CanPut : List ℕ → List ℕ → ℕ → ℕ → Type 0
CanPut s l v w = Padded s l × ((v < vertices s) × ((last_start s < length l) × (In w (neighbors s l v) → ⊥)))

abbrev CanTake : List ℕ → List ℕ → ℕ → ℕ → Type 0
CanTake s l v w = Padded s l × ((v < vertices s) × (T (ascending (neighbors s l v)) × In w (neighbors s l v)))

module _ {s l : List ℕ} (table : Tabled s l (graph_of s l)) {e : Event} (E : Editable (graph_of s l) e) where
  abbrev a : ℕ
  a = e.first

  abbrev b : ℕ
  b = e.second

  abbrev S : SoundTable s l
  S = table.sound

  module _ (t : T (adds e)) where
    -- both ends are put in
    pub first_put : CanPut s l a b
    first_put = (table.padded, (E.first, (omega (arith, E.room t, link-count table, table.places), E.apart t)))

    pub second_put : {s₁ l₁ : List ℕ} → Relisted s l a (insert b (neighbors s l a)) s₁ l₁ → CanPut s₁ l₁ b a
    second_put {s₁} one =
        let size : vertices s₁ ≡ vertices s = omega (arith, one.starts_long) in
        let end : last_start s₁ ≡ get_or s₁ (vertices s) 0 = ap (λ z. get_or s₁ z 0) size in (
          one.padded,
          (
            omega (arith, E.second),
            (
              omega (arith, one.last, insert-length b (neighbors s l a), one.links_long, E.room t, link-count table, table.places),
              λ i. E.apart t (S.symmetric b a E.second (subst (λ z. In a z) (one.others b E.second E.other) i)),
            ),
          ),
        )

    pub added : {s₁ l₁ s₂ l₂ : List ℕ} → Relisted s l a (insert b (neighbors s l a)) s₁ l₁ → Relisted s₁ l₁ b (insert a (neighbors s₁ l₁ b)) s₂ l₂
        → Tabled s₂ l₂ (edge_graph (graph_of s l) e)
    added one two = rw (true_of (adds e) t) (edited-table insert a b E.other E.first E.second one two table
        (with_simple (graph_of s l) (simple S) a b E.first E.second E.other (E.apart t))
        (insert-ascending b (neighbors s l a) (S.ascending a E.first) (E.apart t))
        (insert-ascending a (neighbors s l b) (S.ascending b E.second) (λ i. E.apart t (S.symmetric b a E.second i))))

  module _ (t : T (not (adds e))) where
    -- both ends are taken out
    pub first-take : CanTake s l a b
    first-take = (table.padded, (E.first, (S.ascending a E.first, E.there t)))

    pub second-take : {s₁ l₁ : List ℕ} → Relisted s l a (remove b (neighbors s l a)) s₁ l₁ → CanTake s₁ l₁ b a
    second-take one =
        let between = one.others b E.second E.other in (
          one.padded,
          (
            omega (arith, one.starts_long, E.second),
            (
              subst (λ z. T (ascending z)) (sym between) (S.ascending b E.second),
              subst (λ z. In a z) (sym between) (S.symmetric a b E.first (E.there t)),
            ),
          ),
        )

    pub dropped : {s₁ l₁ s₂ l₂ : List ℕ} → Relisted s l a (remove b (neighbors s l a)) s₁ l₁ → Relisted s₁ l₁ b (remove a (neighbors s₁ l₁ b)) s₂ l₂
        → Tabled s₂ l₂ (edge_graph (graph_of s l) e)
    dropped one two = rw (false_of (adds e) t) (edited-table remove a b E.other E.first E.second one two table
        (without-simple (graph_of s l) (simple S) a b)
        (remove-ascending b (neighbors s l a) (S.ascending a E.first))
        (remove-ascending a (neighbors s l b) (S.ascending b E.second)))

-- ---- there is a table after the event

-- a link put in leaves a table, and one taken out
put_exists : {s l : List ℕ} (v w : ℕ) → CanPut s l v w → (s' : List ℕ) × (l' : List ℕ) × Relisted s l v (insert w (neighbors s l v)) s' l'
put_exists {s} {l} v w can =
    let p = get_or s v 0 + place_of (neighbors s l v) w in
    (tabulate (raised_at s v) (length s), tabulate (put_at l p w) (length l), put_table can.0 v w can.1.0 can.1.1.0 can.1.1.1 refl refl)

take_exists : {s l : List ℕ} (v w : ℕ) → CanTake s l v w → (s' : List ℕ) × (l' : List ℕ) × Relisted s l v (remove w (neighbors s l v)) s' l'
take_exists {s} {l} v w can =
    let p = get_or s v 0 + place_of (neighbors s l v) w in
    (tabulate (lowered_at s v) (length s), tabulate (taken_at l p) (length l), taken_table can.0 v w can.1.0 can.1.1.0 can.1.1.1 refl refl)

pub edited_tabled : (s l : List ℕ) (e : Event) → Tabled s l (graph_of s l) → Editable (graph_of s l) e
    → (s' : List ℕ) × (l' : List ℕ) × Tabled s' l' (edge_graph (graph_of s l) e) × (length s' ≡ length s)
edited_tabled s l e table E = split (adds e)
    (λ t.
    let one = put_exists e.first e.second (first_put table E t) in
    let two = put_exists e.second e.first (second_put table E t one.2) in
    (two.0, two.1, added table E t one.2 two.2, two.2.starts_long ∙ one.2.starts_long))
    (λ t.
    let one = take_exists e.first e.second (first-take table E t) in
    let two = take_exists e.second e.first (second-take table E t one.2) in
    (two.0, two.1, dropped table E t one.2 two.2, two.2.starts_long ∙ one.2.starts_long))
