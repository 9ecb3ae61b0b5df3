-- An edge added or dropped: the graph stays simple, and no level moves by more than one. Assumes nothing.
use Prim.Native.Nat.{ℕ, zero, suc, ◌≤◌, ◌<◌, zero-le}
use mathlib.Core.Path.{◌≡◌, refl, sym, ◌∙◌, subst}
use mathlib.Core.Logic.{◌↔◌, ◌⊎◌, inl, inr, ⊎_elim}
use mathlib.Core.Bool.{Bool, not, ◌&&◌}
use mathlib.Core.List.{List}
use lib.Dec.{T, eqb, T_not, not_T, eqb→eq}
use native.Mathlib.Omega.{arith}
use native.Mathlib.Nat.{le_trans}
use Rattle.finite.specs.Count.{In, Distinct, count}
use Rattle.finite.specs.Sets.{has}
use Rattle.finite.specs.Edits.{insert, remove}
use Rattle.finite.proofs.Tests.{and_i, and_l, and_r, split, true_of, false_of, neqb, eqb_of}
use Rattle.finite.proofs.Count.{count_off, count_inject}
use Rattle.finite.proofs.Edits.{insert_in, insert-distinct, remove_in, remove-distinct}
use Rattle.anchored.specs.Graph.{Graph, Simple}
use Rattle.anchored.specs.Core.{core, level}
use Rattle.anchored.specs.Edge.{edited, with_edge, without_edge}
use Rattle.anchored.proofs.Core.{core-lt, core_solid, core-largest, level_in, level-max, level-anchored}

-- ---- a graph with fewer edges, at most one fewer at each vertex

pub record Thinner (G H : Graph) : Type 0 where
  pub size : G.size ≡ H.size
  pub fewer : (v w : ℕ) → v < G.size → In w (H.neighbors v) → In w (G.neighbors v)
  pub but : (v : ℕ) → v < G.size → (x : ℕ) × ((w : ℕ) → In w (G.neighbors v) → (w ≡ x → ⊥) → In w (H.neighbors v))

-- a list that has all of another but x has at most one fewer that pass
count_lost : (p : ℕ → Bool) (x : ℕ) (l m : List ℕ) → Distinct l → ((w : ℕ) → In w l → (w ≡ x → ⊥) → In w m) → count p l ≤ suc (count p m)
count_lost p x l m d f =
    let rest : ℕ → Bool = λ w. p w && not (eqb x w) in
    let one = count_off p rest x l d (λ w i n t. and_i (p w) _ t (not_T (eqb x w) (λ q. n (sym (eqb→eq x w q))))) in
    let two = count_inject rest p l m d (λ w i t. (and_l (p w) _ t, f w i (λ e. T_not (eqb x w) (and_r (p w) _ t) (eqb_of x w (sym e))))) in
    omega arith

module _ (G H : Graph) (L : Simple G) (M : Simple H) (K : Thinner G H) (A : ℕ → Bool) where
  core-fewer : (k v : ℕ) → T (has (core H A k) v) → T (has (core G A k) v)
  core-fewer k v t =
      let S = has (core H A k) in
      core-largest G L A k S (λ w b s a.
      let b' : w < H.size = subst (λ n. w < n) K.size b in
      le_trans (core_solid H M A k w b' s a) (count_inject S S (H.neighbors w) (G.neighbors w) (M.distinct w b') (λ p i q. (q, K.fewer w p b i))))
      v (subst (λ n. v < n) (sym K.size) (core-lt H M A k v t)) t

  core-one-less : (k v : ℕ) → T (has (core G A (suc k)) v) → T (has (core H A k) v)
  core-one-less k v t =
      let S = has (core G A (suc k)) in
      core-largest H M A k S (λ w b s a.
      let b' : w < G.size = subst (λ n. w < n) (sym K.size) b in
      let r = K.but w b' in
      omega (arith, core_solid G L A (suc k) w b' s a, count_lost S r.0 (G.neighbors w) (H.neighbors w) (L.distinct w b') r.1))
      v (subst (λ n. v < n) K.size (core-lt G L A (suc k) v t)) t

  -- without those edges no level is higher, and none lower by more than one
  pub thinner_low : (v : ℕ) → v < G.size → level H A v ≤ level G A v
  thinner_low v b = split (A v)
      (λ a. omega (arith, level-anchored G L A v a, level-anchored H M A v a))
      (λ a. level-max G L A v (level H A v) a (core-fewer (level H A v) v (level_in H M A v (subst (λ n. v < n) K.size b) a)))

  pub thinner_one : (v : ℕ) → v < G.size → level G A v ≤ suc (level H A v)
  thinner_one v b = split (A v)
      (λ a. omega (arith, level-anchored G L A v a, level-anchored H M A v a))
      (λ a. go a (level G A v) (level_in G L A v b a))
    where
      go : T (not (A v)) → (k : ℕ) → T (has (core G A k) v) → k ≤ suc (level H A v)
      go a zero h = zero-le
      go a (suc k) h = omega (arith, level-max H M A v k a (core-one-less k v h))

-- ---- the neighbors of an edited graph

module _ (edit : ℕ → List ℕ → List ℕ) (G : Graph) (a b v : ℕ) where
  -- they are edited at the two ends
  pub edited-first : a ≡ v → (edited edit G a b).neighbors v ≡ edit b (G.neighbors v)
  edited-first e = rw (true_of (eqb a v) (eqb_of a v e))

  pub edited-second : (a ≡ v → ⊥) → b ≡ v → (edited edit G a b).neighbors v ≡ edit a (G.neighbors v)
  edited-second n e = rw (false_of (eqb a v) (not_T (eqb a v) (λ t. n (eqb→eq a v t))), true_of (eqb b v) (eqb_of b v e))

  pub edited-other : (a ≡ v → ⊥) → (b ≡ v → ⊥) → (edited edit G a b).neighbors v ≡ G.neighbors v
  edited-other n m = rw (false_of (eqb a v) (not_T (eqb a v) (λ t. n (eqb→eq a v t))), false_of (eqb b v) (not_T (eqb b v) (λ t. m (eqb→eq b v t))))

  pub edited-cases : (C : List ℕ → Type 0) → (a ≡ v → C (edit b (G.neighbors v))) → ((a ≡ v → ⊥) → b ≡ v → C (edit a (G.neighbors v)))
      → ((a ≡ v → ⊥) → (b ≡ v → ⊥) → C (G.neighbors v)) → C ((edited edit G a b).neighbors v)
  edited-cases C f g h = split (eqb a v)
      (λ t. let e = eqb→eq a v t in subst C (sym (edited-first e)) (f e))
      (λ t. let n = neqb a v t in split (eqb b v)
      (λ q. let e = eqb→eq b v q in subst C (sym (edited-second n e)) (g n e))
      (λ q. let m = neqb b v q in subst C (sym (edited-other n m)) (h n m)))

-- v and w are the two ends
abbrev Ends : ℕ → ℕ → ℕ → ℕ → Type 0
Ends a b v w = ((a ≡ v) × (b ≡ w)) ⊎ ((b ≡ v) × (a ≡ w))

swap : {a b v w : ℕ} → Ends a b v w → Ends a b w v
swap = ⊎_elim (λ e. inr (e.1, e.0)) (λ e. inl (e.1, e.0))

module _ (G : Graph) (L : Simple G) (a b : ℕ) where
  with_in : (v w : ℕ) → In w ((with_edge G a b).neighbors v) ↔ (In w (G.neighbors v) ⊎ Ends a b v w)
  with_in v w = edited-cases insert G a b v (λ l. In w l ↔ (In w (G.neighbors v) ⊎ Ends a b v w))
      (λ e. let r = insert_in b (G.neighbors v) w in (
        λ i. ⊎_elim (λ q. inr (inl (e, sym q))) inl (r.0 i),
        ⊎_elim (λ i. r.1 (inr i)) (⊎_elim (λ q. r.1 (inl (sym q.1))) (λ q. r.1 (inl (sym q.1 ∙ e ∙ sym q.0)))),
      ))
      (λ n e. let r = insert_in a (G.neighbors v) w in (
        λ i. ⊎_elim (λ q. inr (inr (e, sym q))) inl (r.0 i),
        ⊎_elim (λ i. r.1 (inr i)) (⊎_elim (λ q. absurd (n q.0)) (λ q. r.1 (inl (sym q.1)))),
      ))
      (λ n m. (inl, ⊎_elim (λ i. i) (⊎_elim (λ q. absurd (n q.0)) (λ q. absurd (m q.0)))))

  without_in : (v w : ℕ) → v < G.size → In w ((without_edge G a b).neighbors v) ↔ (In w (G.neighbors v) × (Ends a b v w → ⊥))
  without_in v w bv = edited-cases remove G a b v (λ l. In w l ↔ (In w (G.neighbors v) × (Ends a b v w → ⊥)))
      (λ e. let r = remove_in b (G.neighbors v) w (L.distinct v bv) in (
        λ i. let s = r.0 i in (s.0, ⊎_elim (λ q. s.1 (sym q.1)) (λ q. s.1 (sym q.1 ∙ e ∙ sym q.0))),
        λ i. r.1 (i.0, λ q. i.1 (inl (e, sym q))),
      ))
      (λ n e. let r = remove_in a (G.neighbors v) w (L.distinct v bv) in (
        λ i. let s = r.0 i in (s.0, ⊎_elim (λ q. absurd (n q.0)) (λ q. s.1 (sym q.1))),
        λ i. r.1 (i.0, λ q. i.1 (inr (e, sym q))),
      ))
      (λ n m. (λ i. (i, ⊎_elim (λ q. n q.0) (λ q. m q.0)), λ i. i.0))

  -- a graph with one edge less is simple
  pub without-simple : Simple (without_edge G a b)
  without-simple = record {
    range = λ v w bv i. L.range v w bv ((without_in v w bv).0 i).0;
    loopless = λ v bv i. L.loopless v bv ((without_in v v bv).0 i).0;
    distinct = λ v bv. edited-cases remove G a b v Distinct
        (λ e. remove-distinct b (G.neighbors v) (L.distinct v bv)) (λ n e. remove-distinct a (G.neighbors v) (L.distinct v bv)) (λ n m. L.distinct v bv);
    symmetric = λ v w bv i.
        let r = (without_in v w bv).0 i in
        (without_in w v (L.range v w bv r.0)).1 (L.symmetric v w bv r.0, λ e. r.1 (swap e));
  }

  pub without_thinner : Thinner G (without_edge G a b)
  without_thinner = record {
    size = refl;
    fewer = λ v w bv i. ((without_in v w bv).0 i).0;
    but = λ v bv. split (eqb a v)
        (λ t. (b, λ w i n. (without_in v w bv).1 (i, ⊎_elim (λ q. n (sym q.1)) (λ q. n (sym q.1 ∙ eqb→eq a v t ∙ sym q.0)))))
        (λ t. (a, λ w i n. (without_in v w bv).1 (i, ⊎_elim (λ q. absurd (neqb a v t q.0)) (λ q. n (sym q.1)))));
  }

  -- one with an edge more, between two vertices that are not neighbors yet, is simple
  module _ (ba : a < G.size) (bb : b < G.size) (other : a ≡ b → ⊥) (free : In b (G.neighbors a) → ⊥) where
    apart : In a (G.neighbors b) → ⊥
    apart i = free (L.symmetric b a bb i)

    pub with_simple : Simple (with_edge G a b)
    with_simple = record {
      range = λ v w bv i. ⊎_elim (L.range v w bv) (⊎_elim (λ e. subst (λ z. z < G.size) e.1 bb) (λ e. subst (λ z. z < G.size) e.1 ba)) ((with_in v w).0 i);
      loopless = λ v bv i. ⊎_elim (L.loopless v bv) (⊎_elim (λ e. other (e.0 ∙ sym e.1)) (λ e. other (e.1 ∙ sym e.0))) ((with_in v v).0 i);
      distinct = λ v bv. edited-cases insert G a b v Distinct
          (λ e. insert-distinct b (G.neighbors v) (L.distinct v bv) (subst (λ z. In b (G.neighbors z) → ⊥) e free))
          (λ n e. insert-distinct a (G.neighbors v) (L.distinct v bv) (subst (λ z. In a (G.neighbors z) → ⊥) e apart))
          (λ n m. L.distinct v bv);
      symmetric = λ v w bv i. (with_in w v).1 (⊎_elim (λ j. inl (L.symmetric v w bv j)) (λ e. inr (swap e)) ((with_in v w).0 i));
    }

    pub with_thinner : Thinner (with_edge G a b) G
    with_thinner = record {
      size = refl;
      fewer = λ v w bv i. (with_in v w).1 (inl i);
      but = λ v bv. split (eqb a v)
          (λ t. (b, λ w i n. ⊎_elim (λ j. j) (⊎_elim (λ q. absurd (n (sym q.1))) (λ q. absurd (n (sym q.1 ∙ eqb→eq a v t ∙ sym q.0)))) ((with_in v w).0 i)))
          (λ t. (a, λ w i n. ⊎_elim (λ j. j) (⊎_elim (λ q. absurd (neqb a v t q.0)) (λ q. absurd (n (sym q.1)))) ((with_in v w).0 i)));
    }
