-- What is known of the two kinds of event: one that anchors a vertex, and one that adds or drops an edge. Assumes nothing.
use mathlib.Core.Path.{◌≡◌, refl, sym, ap, ap₂, subst, ◌∙◌}
use mathlib.Core.Bool.{Bool, false, not, ◌&&◌, ◌||◌, or_assoc, and-or_distrib_left}
use mathlib.Core.List.{List}
use Prim.Native.Nat.{ℕ, ◌<◌}
use native.Mathlib.Omega.{arith}
use lib.ListN.{get_or, set, replicate}
use lib.Dec.{T, eqb, eqb_refl}
use borrow.Author.Tests.{lt-ltb}
use Rattle.finite.proofs.Tests.{true_of, not-or, neqb}
use Rattle.finite.proofs.Count.{zeros-at}
use Rattle.anchored.specs.Graph.{Graph, Simple}
use Rattle.anchored.specs.Yield.{nobody, bare_level}
use Rattle.anchored.specs.Changed.{Tells}
use Rattle.anchored.proofs.Changed.{same-tells}
use Rattle.anchored.specs.Edge.{Parted}
use Rattle.anchored.proofs.Parted.{inside, parted-tells}
use Rattle.table.specs.Table.{vertices, neighbors, SoundTable}
use Rattle.pool.specs.Input.{graph_of}
use Rattle.pool.specs.Arrays.{Holds}
use Rattle.pool.proofs.Laws.{simple}
use Rattle.stale.specs.Marks.{marked, Added, up_to, differs, inside_by}
use Rattle.stale.specs.Columns.{ColumnsOf, Known, Brought}
use Rattle.stale.specs.declared.Columns.{Columns}
use Rattle.stale.proofs.Marks.{added_twice, added_thrice, place-added}

-- a set with the same members tells the same
tells_as : {G H : Graph} {A B p q : ℕ → Bool} → ((v : ℕ) → p v ≡ q v) → Tells G H A B p → Tells G H A B q
tells_as e so = record {
  far = λ f w bf bw c t. subst (λ z. T (not z)) (e w) (so.far f w bf bw c t);
  near = λ f w p bw t q n m. so.near f w p bw t q (subst (λ z. T (not z)) (sym (e w)) n) (subst (λ z. T (not z)) (sym (e p)) m);
}

-- ---- a vertex is anchored

-- where the graph stays, the event brings nothing: there is no edge, and the bare levels stay
pub anchor_known : {s l : List ℕ} {A B : ℕ → Bool} {x y : Columns} → SoundTable s l → ColumnsOf (graph_of s l) A x → ColumnsOf (graph_of s l) B y
    → Known s l x y (replicate 1024 0) (replicate 1024 0) (graph_of s l) A B nobody
anchor_known {s} {l} {A} {B} table before later =
    let G = graph_of s l in
    let none : (v : ℕ) → marked (replicate 1024 0) v ≡ false = λ v. ap (λ z. eqb z 1) (zeros-at 1024 v) in
    record {
      simple = simple table;
      size = refl;
      before = before;
      later = later;
      lists = λ u h n. refl;
      tells = tells_as (λ v. sym (none v)) (same-tells G A B);
      brought = λ u h. none u ∙ sym (ap (λ z. not z || false) (true_of (eqb (bare_level G u) (bare_level G u)) (eqb_refl (bare_level G u))));
    }

-- ---- an edge is added or dropped

-- the first end tells of edges inside components, the changed bare levels and the ends are brought
pub edge_known : {s l : List ℕ} {G : Graph} {a b : ℕ} {A B : ℕ → Bool} {x y : Columns} {bare fresh bound marks : List ℕ} → SoundTable s l → Simple G → G.size ≡ vertices s → Parted G (graph_of s l) a b
    → ((u : ℕ) → u < vertices s → (a ≡ u → ⊥) → (b ≡ u → ⊥) → G.neighbors u ≡ neighbors s l u) → ColumnsOf G A x → ColumnsOf (graph_of s l) B y
    → Holds bare (vertices s) (bare_level G) → Holds fresh (vertices s) (bare_level (graph_of s l)) → Brought (vertices s) x y bare fresh a b bound marks
    → Known s l x y bound marks G A B (λ v. eqb a v || eqb b v)
edge_known {s} {l} {G} {a} {b} {A} {B} {x} {y} {bare} {fresh} {bound} table plain sz edge others before later bares freshes brings =
    let H = graph_of s l in
    let first : a < vertices s = subst (λ n. a < n) sz edge.first in
    let second : b < vertices s = subst (λ n. b < n) sz edge.second in
    let same-inside : (v : ℕ) → inside G H A B a b v ≡ marked bound v = λ v.
    sym (brings.inside v ∙ sym (and-or_distrib_left (eqb a v) (eqb (get_or x.component a 0) (get_or x.component b 0)) (eqb (get_or y.component a 0) (get_or y.component b 0)))
    ∙ ap₂ (λ (p q : Bool). eqb a v && (p || q))
    (ap₂ eqb (before.components a edge.first) (before.components b edge.second))
    (ap₂ eqb (later.components a first) (later.components b second))) in
    record {
      simple = plain;
      size = sz;
      before = before;
      later = later;
      lists = λ u h n. let apart = not-or (eqb a u) (eqb b u) n in others u h (neqb a u apart.0) (neqb b u apart.1);
      tells = tells_as same-inside (parted-tells G H plain (simple table) sz (omega (arith, table.small)) A B a b edge);
      brought = λ u h. brings.rows u h ∙ or_assoc (differs bare fresh u) (eqb a u) (eqb b u)
          ∙ ap (λ z. z || (eqb a u || eqb b u)) (ap₂ (λ (p q : ℕ). not (eqb p q)) (bares u h) (freshes u h));
    }

-- the passes over the edge, one after the other, and its two ends marked, leave what it brings
module _ (n : ℕ) (x y : Columns) (bare fresh : List ℕ) (a b : ℕ) where
  pub passes_bring : {before bound moves : List ℕ} → a < 1024 → b < 1024 → Added (inside_by x.component a b) (replicate 1024 0) before → Added (inside_by y.component a b) before bound
      → Added (up_to (differs bare fresh) n) (replicate 1024 0) moves → Brought n x y bare fresh a b bound (set (set moves a 1) b 1)
  passes_bring {moves = moves} first second old new moved =
      let long = moved.long in
      let end = place-added moves a long first in
      let end' = place-added (set moves a 1) b end.long second in
      record {
        bounds_long = new.long;
        marks_long = end'.long;
        inside = λ v. added_twice old new v ∙ ap (λ z. eqb z 1 || inside_by x.component a b v || inside_by y.component a b v) (zeros-at 1024 v);
        rows = λ v h. rw (lt-ltb v n h, zeros-at 1024 v) at (added_thrice moved end end' v);
      }
