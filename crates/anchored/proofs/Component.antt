-- Components: two vertices have one component number exactly when they are joined, and any labelling with the three properties
-- of `component_unique` is the numbering. Assumes nothing.
use Prim.Native.Nat.{ℕ, zero, suc, ◌≤◌, ◌<◌}
use mathlib.Core.Path.{◌≡◌, refl, sym, ap, ◌∙◌, subst}
use mathlib.Core.Logic.{◌↔◌}
use mathlib.Core.Bool.{Bool, not, ◌&&◌}
use mathlib.Core.List.{List}
use lib.Dec.{T, eqb, eqb→eq, eqb_refl}
use native.Mathlib.Omega.{arith}
use Rattle.finite.specs.Count.{In}
use Rattle.finite.specs.Search.{first}
use Rattle.finite.specs.Sets.{has, having, rounds, grow}
use Rattle.finite.proofs.Tests.{and_i, and_l, and_r, or_r, or-e, false_of}
use Rattle.finite.proofs.Search.{any_i, any-e, first_holds, first-least}
use Rattle.finite.proofs.Sets.{rounds-suc, having_i, having-e, length-having, grow_i, grow-e, grow_keeps, grow-rest}
use Rattle.anchored.specs.Graph.{Graph, Simple}
use Rattle.anchored.specs.Core.{level}
use Rattle.anchored.specs.Component.{Joined, stay, hop, joins, around, component}

module _ (G : Graph) (L : Simple G) (A : ℕ → Bool) where
  abbrev lev : ℕ → ℕ
  lev = level G A

  abbrev Join : ℕ → ℕ → Type 0
  Join = Joined G A

  pub joined-level : (v w : ℕ) → Join v w → lev v ≡ lev w
  joined-level v w (stay e) = ap lev e
  joined-level v w (hop {w = y} k b a i e) = joined-level v y k ∙ e

  pub joined-lt : (v w : ℕ) → v < G.size → Join v w → w < G.size
  joined-lt v w h (stay e) = subst (λ z. z < G.size) e h
  joined-lt v w h (hop k b a i e) = b

  pub joined_free : (v w : ℕ) → T (not (A v)) → Join v w → T (not (A w))
  joined_free v w h (stay e) = subst (λ z. T (not (A z))) e h
  joined_free v w h (hop k b a i e) = a

  pub joined_trans : (v w z : ℕ) → Join v w → Join w z → Join v z
  joined_trans v w z k (stay e) = subst (Join v) e k
  joined_trans v w z k (hop {w = y} m b a i e) = hop (joined_trans v w y k m) b a i e

  pub joined_sym : (v w : ℕ) → v < G.size → T (not (A v)) → Join v w → Join w v
  joined_sym v w bv av (stay e) = stay (sym e)
  joined_sym v w bv av (hop {w = y} k b a i e) =
      joined_trans w y v (hop (stay refl) (joined-lt v y bv k) (joined_free v y av k) (L.symmetric w y b i) (sym e)) (joined_sym v y bv av k)

  begin : ℕ → List Bool
  begin v = having (λ w. eqb v w && not (A w)) G.size

  around-rest : (v : ℕ) → grow G.size (joins G A) (around G A v) ≡ around G A v
  unfolding around
  around-rest v = grow-rest G.size (joins G A) G.size _ (length-having _ G.size) (omega arith)

  joined-around : (v w : ℕ) → v < G.size → T (not (A v)) → Join v w → T (has (around G A v) w)
  unfolding around joins
  joined-around v w bv av (stay e) = subst (λ z. T (has (around G A v) z)) e
      (grow_keeps G.size (joins G A) G.size _ v bv (having_i _ G.size v bv (and_i (eqb v v) _ (eqb_refl v) av)))
  joined-around v w bv av (hop {w = y} k b a i e) =
      subst (λ s. T (has s w)) (around-rest v) (grow_i G.size (joins G A) (around G A v) w b (or_r (has (around G A v) w) _ (and_i (not (A w)) _ a
      (any_i (λ u. has (around G A v) u && eqb (lev u) (lev w)) (G.neighbors w) y i
      (and_i (has (around G A v) y) _ (joined-around v y bv av k) (subst (λ z. T (eqb (lev y) z)) e (eqb_refl (lev y))))))))

  grown-joined : (v m w : ℕ) → T (has (rounds (grow G.size (joins G A)) m (begin v)) w) → Join v w
  unfolding rounds begin joins
  grown-joined v zero w h = stay (eqb→eq v w (and_l (eqb v w) _ (having-e _ G.size w h)))
  grown-joined v (suc m) w h =
      let s = rounds (grow G.size (joins G A)) m (begin v) in
      let g : T (has (grow G.size (joins G A) s) w) = rw rounds-suc at h in
      let d = grow-e G.size (joins G A) s w g in
      or-e (has s w) _ d.1 (grown-joined v m w) (λ t.
      let r = any-e (λ u. has s u && eqb (lev u) (lev w)) (G.neighbors w) (and_r (not (A w)) _ t) in
      hop (grown-joined v m r.0 (and_l (has s r.0) _ r.2)) d.0 (and_l (not (A w)) _ t) r.1 (eqb→eq (lev r.0) (lev w) (and_r (has s r.0) _ r.2)))

  around-joined : (v w : ℕ) → T (has (around G A v) w) → Join v w
  unfolding around begin
  around-joined v w h = grown-joined v G.size w h

  component-eq : (v : ℕ) → T (not (A v)) → component G A v ≡ first (has (around G A v)) G.size
  unfolding component
  component-eq v a = rw (false_of (A v) a)

  -- the number is a vertex of the component, and the lowest
  pub component-joined : (v : ℕ) → v < G.size → T (not (A v)) → Join v (component G A v)
  component-joined v b a = rw (component-eq v a) (around-joined v _ (first_holds (has (around G A v)) G.size v b (joined-around v v b a (stay refl))))

  pub component-least : (v w : ℕ) → v < G.size → T (not (A v)) → Join v w → component G A v ≤ w
  component-least v w b a k = rw (component-eq v a) (first-least (has (around G A v)) G.size w (joined-around v w b a k))

  pub component_iff : (v w : ℕ) → v < G.size → w < G.size → T (not (A v)) → T (not (A w)) → (component G A v ≡ component G A w) ↔ Join v w
  component_iff v w bv bw av aw = (
    λ e. joined_trans v (component G A v) w (component-joined v bv av) (joined_sym w (component G A v) bw aw (subst (Join w) (sym e) (component-joined w bw aw))),
    λ k.
        let x = component-least v (component G A w) bv av (joined_trans v w (component G A w) k (component-joined w bw aw)) in
        let y = component-least w (component G A v) bw aw (joined_trans w v (component G A v) (joined_sym v w bv av k) (component-joined v bv av)) in
        omega arith,
  )

  -- labels that are joined to their vertex, no higher than it, and equal along every edge inside a level, are the numbers
  pub component_unique : (lab : ℕ → ℕ) → ((v : ℕ) → v < G.size → T (not (A v)) → Join v (lab v) × (lab v ≤ v))
      → ((v w : ℕ) → v < G.size → T (not (A v)) → In w (G.neighbors v) → T (not (A w)) → lev w ≡ lev v → lab w ≡ lab v)
      → (v : ℕ) → v < G.size → T (not (A v)) → lab v ≡ component G A v
  component_unique lab f g v b a =
      let p = component G A v in
      let k = component-joined v b a in
      let bp = joined-lt v p b k in
      let ap = joined_free v p a k in
      let x = component-least v (lab v) b a (f v b a).0 in
      let y = (f p bp ap).1 in
      let z : lab v ≡ lab p = along p k in
      omega arith
    where
      along : (z : ℕ) → Join v z → lab v ≡ lab z
      along z (stay e) = ap lab e
      along z (hop {w = y} k c d i e) = along y k ∙ g z y c d i (joined_free v y a k) e
