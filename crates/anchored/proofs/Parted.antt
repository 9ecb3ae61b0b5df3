-- One edge added or dropped: the graphs before and after differ in that edge and in no other, and its first end tells of edges inside
-- components. Assumes nothing.
use Prim.Native.Nat.{ℕ, ◌≤◌, ◌<◌}
use mathlib.Core.Path.{◌≡◌, refl, sym, ap, ◌∙◌, subst}
use mathlib.Core.Logic.{inl, inr, ⊎_elim}
use mathlib.Core.Bool.{Bool, ◌&&◌, ◌||◌}
use lib.Dec.{T, eqb, T_not, not_T, eqb→eq, eqb_refl}
use native.Mathlib.Omega.{arith}
use Rattle.finite.specs.Count.{In}
use Rattle.finite.specs.Search.{member}
use Rattle.finite.specs.Edits.{insert, remove}
use Rattle.finite.proofs.Tests.{and_i, and_l, and_r, or_l, or-e, split, same, true_of, false_of, neqb, eqb_of}
use Rattle.finite.proofs.Search.{member_i, member-e}
use Rattle.finite.proofs.Edits.{insert_in, remove_in}
use Rattle.anchored.specs.Graph.{Graph, Simple}
use Rattle.anchored.specs.Component.{component, together}
use Rattle.anchored.specs.Edge.{with_edge, without_edge, Parted}
use Rattle.anchored.specs.Step.{undisturbed}
use Rattle.anchored.specs.Changed.{Tells}
use Rattle.anchored.specs.Events.{Event, adds, Editable, edge_graph}
use Rattle.anchored.proofs.Edge.{edited-first, edited-second, edited-other}
use Rattle.anchored.proofs.Step.{free_before, free_after, together-stays, inside-stays}
use Rattle.anchored.proofs.Changed.{together-number, number-together}

module _ (G : Graph) (L : Simple G) (a b : ℕ) (ba : a < G.size) (bb : b < G.size) where
  with_parted : (In b (G.neighbors a) → ⊥) → Parted G (with_edge G a b) a b
  with_parted free = record {
    first = ba;
    second = bb;
    parted = λ e. free (member-e b (G.neighbors a) (subst T (sym e)
        (member_i b ((with_edge G a b).neighbors a) (subst (λ l. In b l) (sym (edited-first insert G a b a refl)) ((insert_in b (G.neighbors a) b).1 (inl refl))))));
    others = λ v w bv n m. split (eqb a v)
        (λ t. let p = eqb→eq a v t in sym (ap (member w) (edited-first insert G a b v p)
        ∙ same (member w (insert b (G.neighbors v))) (member w (G.neighbors v))
        (λ q. member_i w (G.neighbors v) (⊎_elim (λ e. absurd (n (p, sym e))) (λ i. i) ((insert_in b (G.neighbors v) w).0 (member-e w (insert b (G.neighbors v)) q))))
        (λ q. member_i w (insert b (G.neighbors v)) ((insert_in b (G.neighbors v) w).1 (inr (member-e w (G.neighbors v) q))))))
        (λ t. let o = neqb a v t in split (eqb b v)
        (λ s. let p = eqb→eq b v s in sym (ap (member w) (edited-second insert G a b v o p)
        ∙ same (member w (insert a (G.neighbors v))) (member w (G.neighbors v))
        (λ q. member_i w (G.neighbors v) (⊎_elim (λ e. absurd (m (p, sym e))) (λ i. i) ((insert_in a (G.neighbors v) w).0 (member-e w (insert a (G.neighbors v)) q))))
        (λ q. member_i w (insert a (G.neighbors v)) ((insert_in a (G.neighbors v) w).1 (inr (member-e w (G.neighbors v) q))))))
        (λ s. sym (ap (member w) (edited-other insert G a b v o (neqb b v s)))));
  }

  without-parted : In b (G.neighbors a) → Parted G (without_edge G a b) a b
  without-parted there = record {
    first = ba;
    second = bb;
    parted = λ e. ((remove_in b (G.neighbors a) b (L.distinct a ba)).0 (subst (λ l. In b l) (edited-first remove G a b a refl)
        (member-e b ((without_edge G a b).neighbors a) (subst T e (member_i b (G.neighbors a) there))))).1 refl;
    others = λ v w bv n m. split (eqb a v)
        (λ t. let p = eqb→eq a v t in sym (ap (member w) (edited-first remove G a b v p)
        ∙ same (member w (remove b (G.neighbors v))) (member w (G.neighbors v))
        (λ q. member_i w (G.neighbors v) ((remove_in b (G.neighbors v) w (L.distinct v bv)).0 (member-e w (remove b (G.neighbors v)) q)).0)
        (λ q. member_i w (remove b (G.neighbors v)) ((remove_in b (G.neighbors v) w (L.distinct v bv)).1 (member-e w (G.neighbors v) q, λ e. n (p, sym e))))))
        (λ t. let o = neqb a v t in split (eqb b v)
        (λ s. let p = eqb→eq b v s in sym (ap (member w) (edited-second remove G a b v o p)
        ∙ same (member w (remove a (G.neighbors v))) (member w (G.neighbors v))
        (λ q. member_i w (G.neighbors v) ((remove_in a (G.neighbors v) w (L.distinct v bv)).0 (member-e w (remove a (G.neighbors v)) q)).0)
        (λ q. member_i w (remove a (G.neighbors v)) ((remove_in a (G.neighbors v) w (L.distinct v bv)).1 (member-e w (G.neighbors v) q, λ e. m (p, sym e))))))
        (λ s. sym (ap (member w) (edited-other remove G a b v o (neqb b v s)))));
  }

-- so does the edge of an accepted event
pub edge-parted : (G : Graph) → Simple G → (e : Event) → Editable G e → Parted G (edge_graph G e) e.first e.second
edge-parted G L e S = split (adds e)
    (λ t. rw (true_of (adds e) t) (with_parted G L e.first e.second S.first S.second (S.apart t)))
    (λ t. rw (false_of (adds e) t) (without-parted G L e.first e.second S.first S.second (S.there t)))

-- ---- what tells of edges inside components

module _ (G H : Graph) (A B : ℕ → Bool) where
  -- v is the first end of the edge, inside a component before or after
  abbrev pub inside : ℕ → ℕ → ℕ → Bool
  inside a b v = eqb a v && (eqb (component G A a) (component G A b) || eqb (component H B a) (component H B b))

-- where one edge is other, its first end tells, if it is inside a component before or after
module _ (G H : Graph) (L : Simple G) (M : Simple H) (sz : G.size ≡ H.size) (few : G.size ≤ 65535) (A B : ℕ → Bool) (a b : ℕ) (edge : Parted G H a b) where
  parted-far : (f : ℕ) → f < G.size → T (undisturbed G H A B f) → T (together G A f a) → T (inside G H A B a b a) → ⊥
  parted-far f bf c t i =
      let ba = edge.first in
      let bb = edge.second in
      let stays = together-stays G H L M sz A B f bf c in
      let both : T (together G A f b) = or-e (eqb (component G A a) (component G A b)) _ (and_r (eqb a a) _ i)
      (λ q. number-together G L few A f b bf (free_before G H L M sz A B f bf c) (sym (together-number G A f a t ∙ eqb→eq (component G A a) (component G A b) q)))
      (λ q. subst T (sym (stays b bb)) (number-together H M (omega arith) B f b (omega arith) (free_after G H L M sz A B f bf c)
      (sym (together-number H B f a (subst T (stays a ba) t) ∙ eqb→eq (component H B a) (component H B b) q)))) in
      edge.parted (inside-stays G H L M sz A B f bf c a b ba bb t both)

  -- two vertices of one component: the edge is inside
  parted-near : (f : ℕ) → T (together G A f a) → T (together G A f b) → T (inside G H A B a b a)
  parted-near f t q = and_i (eqb a a) _ (eqb_refl a) (or_l (eqb (component G A a) (component G A b)) _
      (eqb_of (component G A a) (component G A b) (sym (together-number G A f a t) ∙ together-number G A f b q)))

  pub parted-tells : Tells G H A B (inside G H A B a b)
  parted-tells = record {
    far = λ f w bf bw c t. not_T (inside G H A B a b w) (λ i.
        let e = eqb→eq a w (and_l (eqb a w) _ i) in
        parted-far f bf c (subst (λ z. T (together G A f z)) (sym e) t) (subst (λ z. T (inside G H A B a b z)) (sym e) i));
    near = λ f w p bw t q n m. edge.others w p bw
        (λ e. T_not (inside G H A B a b w) n (subst (λ z. T (inside G H A B a b z)) e.0
        (parted-near f (subst (λ z. T (together G A f z)) (sym e.0) t) (subst (λ z. T (together G A f z)) (sym e.1) q))))
        (λ e. T_not (inside G H A B a b p) m (subst (λ z. T (inside G H A B a b z)) e.1
        (parted-near f (subst (λ z. T (together G A f z)) (sym e.1) q) (subst (λ z. T (together G A f z)) (sym e.0) t))));
  }
