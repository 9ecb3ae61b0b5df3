-- The degrees of a sound table sum to twice its edges, and what its size says. Assumes nothing.
use mathlib.Core.Path.{◌≡◌, sym, ap, ◌∙◌, subst}
use mathlib.Core.Bool.{not, ◌||◌}
use mathlib.Core.List.{List}
use Prim.Native.Nat.{ℕ, zero, suc, ◌+◌, ◌≤◌, ◌<◌}
use native.Mathlib.Numerals.{add-one}
use native.Mathlib.Omega.{arith}
use lib.ListN.{length, get_or}
use lib.Dec.{T, ltb, ltb→lt, nltb→le}
use Rattle.finite.specs.Count.{below, count, sum, In}
use Rattle.finite.specs.Search.{member, greatest_of}
use Rattle.finite.proofs.Tests.{and_i, and_l, and_r, or_l, or_r, or-e, nand_i, split, same}
use Rattle.finite.proofs.Count.{in_below, count_cong, count_union, count-listed, sum_cong, sum-add, sum-below-zero, sum-below-more, sum_swap}
use Rattle.finite.proofs.Search.{member_i, member-e, greatest_bounds, greatest_one, greatest_zero}
use Rattle.table.specs.Table.{vertices, neighbors, check_of, Framed, SoundTable}
use Rattle.table.specs.Size.{edge, edges_of, degree_of, size_of, Measures}
use Rattle.table.specs.Guard.{clear}
use Rattle.table.proofs.Laws.{neighbors-length, neighbors-few, ends, sound}

-- the links of the vertices below v end where those of v start
pub degrees-below : (s l : List ℕ) → Framed s l → (v : ℕ) → v ≤ vertices s → sum (degree_of s l) (below v) + get_or s 0 0 ≡ get_or s v 0
degrees-below s l f zero h = omega (arith, sum-below-zero (degree_of s l))
degrees-below s l f (suc v) h =
    let more = sum-below-more (degree_of s l) v in
    let own = neighbors-length s l f v (omega arith) in
    rw (sym (add-one v)) (omega (arith, f.step v (omega arith), degrees-below s l f v (omega arith)))

module _ (s l : List ℕ) (t : SoundTable s l) where
  abbrev all : List ℕ
  all = below (vertices s)

  -- a neighbor of v makes an edge with it, as the upper or as the lower end
  either : (v w : ℕ) → v < vertices s → member w (neighbors s l v) ≡ (edge s l v w || edge s l w v)
  either v w h = same (member w (neighbors s l v)) (edge s l v w || edge s l w v)
      (λ m.
      let back = member_i v (neighbors s l w) (t.symmetric v w h (member-e w (neighbors s l v) m)) in
      split (ltb v w)
      (λ up. or_l (edge s l v w) _ (and_i (ltb v w) _ up (and_i (member w (neighbors s l v)) _ m back)))
      (λ down. or_r (edge s l v w) _ (and_i (ltb w v) _ (below_it down m) (and_i (member v (neighbors s l w)) _ back m))))
      (λ m. or-e (edge s l v w) _ m
      (λ e. and_l (member w (neighbors s l v)) _ (and_r (ltb v w) _ e))
      (λ e. and_r (member v (neighbors s l w)) _ (and_r (ltb w v) _ e)))
    where
      itself : T (member w (neighbors s l v)) → w ≡ v → ⊥
      itself m e = t.loopless v h (subst (λ z. In z (neighbors s l v)) e (member-e w (neighbors s l v) m))

      below_it : T (not (ltb v w)) → T (member w (neighbors s l v)) → T (ltb w v)
      below_it down m = split (ltb w v) (λ less. less) (λ more. absurd (itself m (omega (arith, nltb→le v w down, nltb→le w v more))))

  degree_split : (v : ℕ) → v < vertices s → degree_of s l v ≡ count (edge s l v) all + count (λ w. edge s l w v) all
  degree_split v h =
      let part = neighbors s l v in
      sym (count-listed (λ w. member w part) (vertices s) part (t.distinct v h) (λ w i. (t.range v w h i, member_i w part i)) (λ w less m. member-e w part m))
      ∙ count_cong (λ w. member w part) (λ w. edge s l v w || edge s l w v) all (λ w i. either v w h)
      ∙ count_union (edge s l v) (λ w. edge s l w v) all (λ w i m. nand_i (ltb w v) _ (λ less. absurd (omega (arith, ltb→lt w v less, ltb→lt v w (and_l (ltb v w) _ m)))))

  -- each edge is counted at both ends
  pub handshake : edges_of s l + edges_of s l ≡ sum (degree_of s l) (below (vertices s))
  unfolding edges_of
  handshake =
      let lower : ℕ → ℕ = λ v. count (edge s l v) all in
      let upper : ℕ → ℕ = λ v. count (λ w. edge s l w v) all in
      omega (arith, sum_swap (edge s l) all all, sum-add lower upper all, sum_cong (degree_of s l) (λ v. lower v + upper v) all (λ v i. degree_split v ((in_below (vertices s) v).0 i)))

-- what the size says
pub measured : (s l : List ℕ) → check_of s l ≡ clear → Measures s l (size_of s l)
unfolding size_of
measured s l e =
    let t = sound s l e in
    let twice = handshake s l t in
    let degrees = degrees-below s l t.framed (vertices s) (omega arith) in
    let links : edges_of s l + edges_of s l ≡ length l = omega (arith, (ends s l e).0, (ends s l e).1) in
    let few = t.few in
    let zero_of : vertices s ≡ 0 → greatest_of (degree_of s l) (vertices s) ≡ 0 = λ none. rw none (greatest_zero (degree_of s l)) in
    record {
      twice = links;
      attained = greatest_one (degree_of s l) (vertices s);
      bounds = greatest_bounds (degree_of s l) (vertices s);
      no_edges = λ none. let q : get_or s (vertices s) 0 ≡ get_or s 0 0 = ap (λ v. get_or s v 0) none in omega (arith, links, (ends s l e).0, (ends s l e).1);
      no_degree = zero_of;
      few = omega (arith, links);
      small = split (ltb 0 (vertices s))
          (λ some. let top = greatest_one (degree_of s l) (vertices s) (ltb→lt 0 (vertices s) some) in omega (arith, top.2, neighbors-few s l t top.0 top.1, t.small))
          (λ none. omega (arith, zero_of (omega (arith, nltb→le 0 (vertices s) none))));
    }
