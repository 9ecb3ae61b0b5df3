-- The candidates that remain when no more is to be struck out are the followers; so the marks are the defined ones. Assumes nothing.
use mathlib.Core.Path.{◌≡◌, refl, sym, ◌∙◌, subst}
use mathlib.Core.Logic.{⊎_elim}
use mathlib.Core.Bool.{Bool, true, false, not, cond, ◌&&◌, ◌||◌}
use mathlib.Core.List.{List}
use Prim.Native.Nat.{ℕ, zero, suc, ◌+◌, ◌≤◌, ◌<◌}
use native.Mathlib.Numerals.{add-one}
use native.Mathlib.Omega.{arith}
use lib.ListN.{length, take, get_or}
use lib.Seq.{take_all}
use lib.Dec.{T, ltb, eqb, leb→le, T_not, not_T, eqb→eq}
use Rattle.finite.specs.Count.{count, below, In}
use Rattle.finite.specs.Search.{member}
use Rattle.finite.specs.Sets.{has}
use Rattle.finite.proofs.Tests.{and_i, and_l, and_r, or_l, or_r, or-e, split, same}
use Rattle.finite.proofs.Count.{in_at, in_take, in_take-more, in_below, count_cong, count_union, count-listed}
use Rattle.finite.proofs.Search.{member_i, member-e}
use Rattle.table.specs.Table.{vertices, neighbors}
use Rattle.anchored.specs.Graph.{Graph, Simple}
use Rattle.anchored.specs.Core.{level}
use Rattle.anchored.specs.Followers.{adding, follows, followers, candidates, reached, mark}
use Rattle.anchored.proofs.Candidates.{follower_candidate, candidate_free}
use Rattle.anchored.proofs.Support.{supports, supports_mono, struck-out, settled}
use Rattle.pool.specs.Input.{graph_of, anchored_by}
use Rattle.pool.specs.Arrays.{Holds}
use Rattle.pool.specs.Sheet.{Leveled}
use Rattle.pool.proofs.Laws.{simple}
use Rattle.candidates.specs.Reaching.{alike}
use Rattle.support.specs.Striking.{supports_of, State, out, gone, loss_of, Settled}
use Rattle.support.proofs.Striking.{out-length}

-- struck out: 1; else a candidate: 2. The defined mark, said of what remains
mark_is : (m c : Bool) → (T m → T c) → ◌≡◌ {A = ℕ} (cond m 1 (cond c 2 0)) (cond (c && not m) 2 (cond c 1 0))
mark_is true true f = refl
mark_is true false f = absurd (f tt)
mark_is false true f = refl
mark_is false false f = refl

module _ {s l a levels : List ℕ} (leveled : Leveled s l a levels) (x : ℕ) where
  abbrev G : Graph
  G = graph_of s l

  abbrev A : ℕ → Bool
  A = anchored_by a

  abbrev lev : ℕ → ℕ
  lev = level G A

  L : Simple G
  L = simple leveled.admitted.table

  -- support counted over the sheet, in any set
  supports_is : (M N : ℕ → Bool) (v p : ℕ) → v < vertices s → p < vertices s → M p ≡ N p → supports_of a levels M x v p ≡ supports G A x N v p
  unfolding supports_of
  supports_is M N v p bv bp e = rw (leveled.hold v bv, leveled.hold p bp, e)

  pub support_is : (M N : ℕ → Bool) (v : ℕ) → v < vertices s → ((p : ℕ) → M p ≡ N p) → count (supports_of a levels M x v) (neighbors s l v) ≡ count (supports G A x N v) (neighbors s l v)
  support_is M N v b e = count_cong (supports_of a levels M x v) (supports G A x N v) (neighbors s l v) (λ p i. supports_is M N v p b (L.range v p b i) (e p))

  module _ {C : ℕ → Bool} (is : (v : ℕ) → C v ≡ has (candidates G A x) v) where
    candidate : (v : ℕ) → T (C v) → T (has (candidates G A x) v)
    candidate v t = subst T (is v) t

    -- those of C that do not stand in z
    abbrev without : List ℕ → ℕ → Bool
    without z v = C v && not (member v z)

    abbrev outside : ℕ → ℕ → Bool
    outside v p = adding A x p || ltb (lev v) (lev p)

    -- the support without z, and what is lost with z, are the whole support
    module _ (z : List ℕ) (within : (p : ℕ) → In p z → T (C p)) (v : ℕ) (b : v < vertices s) where
      level_same : (p : ℕ) → p < vertices s → T (gone levels z v p) → T (eqb (lev p) (lev v))
      level_same p bp t =
          let e : T (alike levels p v) = and_r (member p z) _ t in
          rw (leveled.hold p bp, leveled.hold v b) at e

      gone_candidate : (p : ℕ) → T (gone levels z v p) → T (C p)
      gone_candidate p t = within p (member-e p z (and_l (member p z) _ t))

      whole : (p : ℕ) → p < vertices s → supports G A x C v p ≡ supports G A x (without z) v p || gone levels z v p
      whole p bp = same (supports G A x C v p) (supports G A x (without z) v p || gone levels z v p)
          (λ t. or-e (outside v p) _ t
          (λ o. or_l (supports G A x (without z) v p) _ (or_l (outside v p) _ o))
          (λ o. split (member p z)
          (λ m. or_r (supports G A x (without z) v p) _ (and_i (member p z) _ m
          (let e : T (eqb (lev p) (lev v)) = and_r (C p) _ o in rw (leveled.hold p bp, leveled.hold v b) e)))
          (λ m. or_l (supports G A x (without z) v p) _ (or_r (outside v p) _ (and_i (without z p) _ (and_i (C p) _ (and_l (C p) _ o) m) (and_r (C p) _ o))))))
          (λ t. or-e (supports G A x (without z) v p) _ t
          (supports_mono G L A x (without z) C v p (and_l (C p) _))
          (λ o. or_r (outside v p) _ (and_i (C p) _ (gone_candidate p o) (level_same p bp o))))

      apart : (p : ℕ) → p < vertices s → T (supports G A x (without z) v p) → T (not (gone levels z v p))
      apart p bp t = not_T (gone levels z v p) (λ o.
          or-e (outside v p) _ t
          (λ m. or-e (adding A x p) _ m
          (λ y. T_not (adding A x p) (candidate_free G L A x p (candidate p (gone_candidate p o))) y)
          (λ y. absurd (omega (arith, leb→le (suc (lev v)) (lev p) y, eqb→eq (lev p) (lev v) (level_same p bp o)))))
          (λ m. T_not (member p z) (and_r (C p) _ (and_l (without z p) _ m)) (and_l (member p z) _ o)))

      support_split : count (supports G A x C v) (neighbors s l v) ≡ count (supports G A x (without z) v) (neighbors s l v) + loss_of s l levels z v
      support_split =
          count_cong (supports G A x C v) (λ p. supports G A x (without z) v p || gone levels z v p) (neighbors s l v) (λ p i. whole p (L.range v p b i))
          ∙ count_union (supports G A x (without z) v) (gone levels z v) (neighbors s l v) (λ p i. apart p (L.range v p b i))

    module _ {S : ℕ → ℕ} (counted : (v : ℕ) → T (C v) → S v ≡ count (supports G A x C v) (neighbors s l v)) {st : State} (k : Settled s l levels S C st) where
      abbrev z : List ℕ
      z = out st

      -- none of those struck out is a follower, in the order of striking out
      none-follows : (i : ℕ) → i ≤ length z → (v : ℕ) → In v (take i z) → T (not (follows G A x v))
      none-follows zero b v j = absurd j
      none-follows (suc i) b v j = ⊎_elim
          (none-follows i (omega arith) v)
          (λ e.
          let before : (p : ℕ) → In p (take i z) → T (C p) = λ p m. k.listed.within p (in_take z i p m) in
          let at : In v z = subst (λ y. In y z) (sym e) (in_at z i 0 b) in
          let c = k.listed.within v at in
          let bv = k.listed.small v c in
          let few : S v ≤ get_or levels v 0 + loss_of s l levels (take i z) v = rw e (k.ordered i b) in
          struck-out G L A x (without (take i z))
          (λ p bp f. and_i (C p) _ (subst T (sym (is p)) (follower_candidate G L A x p bp f)) (not_T (member p (take i z)) (λ m. T_not (follows G A x p) (none-follows i (omega arith) p (member-e p (take i z) m)) f)))
          v bv
          (omega (arith, counted v c, support_split (take i z) before v bv, leveled.hold v bv)))
          ((in_take-more z i v b).0 (subst (λ m. In v (take m z)) (sym (add-one i)) j))

      -- what remains are the followers
      pub remaining : (v : ℕ) → v < vertices s → without z v ≡ follows G A x v
      remaining = settled G L A x (without z)
          (λ v t. let c = and_l (C v) _ t in (k.listed.small v c, candidate_free G L A x v (candidate v c)))
          (λ w b t.
          let c = and_l (C w) _ t in
          let enough = k.enough w c (λ i. T_not (member w z) (and_r (C w) _ t) (member_i w z i)) in
          omega (arith, counted w c, support_split z k.listed.within w b, leveled.hold w b))
          (λ v b f. and_i (C v) _ (subst T (sym (is v)) (follower_candidate G L A x v b f)) (not_T (member v z) (λ m.
          T_not (follows G A x v) (none-follows (length z) (omega arith) v (subst (In v) (sym (take_all (length z) z (omega arith))) (member-e v z m))) f)))

      -- so the marks are the defined ones
      pub marks_are : Holds st.marks (vertices s) (mark G A x)
      unfolding mark
      marks_are v b =
          let e : follows G A x v ≡ C v && not (member v z) = sym (remaining v b) in
          let f : has (candidates G A x) v ≡ C v = sym (is v) in
          rw (e, f) (k.listed.marked v ∙ mark_is (member v z) (C v) (λ t. k.listed.within v (member-e v z t)))

      -- every candidate is a follower or struck out
      pub counts_are : followers G A x + st.end ≡ reached G A x
      unfolding followers reached
      counts_are =
          let either : (v : ℕ) → v < vertices s → has (candidates G A x) v ≡ follows G A x v || member v z = λ v b.
          let e : follows G A x v ≡ C v && not (member v z) = sym (remaining v b) in
          let f : has (candidates G A x) v ≡ C v = sym (is v) in
          rw (e, f) (same (C v) (C v && not (member v z) || member v z)
          (λ t. split (member v z) (or_r (C v && not (member v z)) _) (λ m. or_l (C v && not (member v z)) _ (and_i (C v) _ t m)))
          (λ t. or-e (C v && not (member v z)) _ t (and_l (C v) _) (λ m. k.listed.within v (member-e v z m)))) in
          let all = count_cong (has (candidates G A x)) (λ v. follows G A x v || member v z) (below (vertices s)) (λ v i. either v ((in_below (vertices s) v).0 i)) in
          let both = count_union (follows G A x) (λ v. member v z) (below (vertices s)) (λ v i t.
          let r : T (C v && not (member v z)) = subst T (sym (remaining v ((in_below (vertices s) v).0 i))) t in and_r (C v) _ r) in
          let listed = count-listed (λ v. member v z) (vertices s) z k.listed.distinct (λ v i. (k.listed.small v (k.listed.within v i), member_i v z i)) (λ v b t. member-e v z t) in
          omega (arith, out-length k.listed)
