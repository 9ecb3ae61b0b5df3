-- The choice of a house: the loop that finds it, and that the net yields of a right record give the defined one. Assumes nothing.
use Rattle.std.proofs.Common.{Some, None, true}
use Rattle.std.proofs.lemmas.Int.{ints}
use mathlib.Core.Path.{◌≡◌, refl, sym, ap, ◌∙◌, ap₂, subst}
use mathlib.Core.Logic.{⊎_elim}
use mathlib.Core.Bool.{Bool, false, not, cond}
use mathlib.Core.List.{List}
use Prim.Native.Nat.{ℕ, suc, ◌+◌, ◌-◌, ◌≤◌, ◌<◌}
use native.Mathlib.Nat.{eq-or-lt_of_le}
use native.Mathlib.Omega.{arith}
use lib.IntN.{ℤ}
use lib.Signed.{le_z, lt_z, ◌≤ℤ◌, ◌<ℤ◌, le_z_yes, lt_z_yes, ≤ℤ_refl, <ℤ-≤ℤ_trans, <ℤ_irrefl, clash_ℤ}
use lib.ListN.{get_or}
use lib.Dec.{T, eqb, lt→ltb, not_T}
use borrow.Author.Count.{below_more}
use Rattle.finite.specs.Best.{best_in, choice_in}
use Rattle.finite.proofs.Tests.{and_i, and_l, and_r, nand, not-not, split, same, true_of, false_of}
use Rattle.finite.proofs.Search.{all-below_i, all-below-e, first_hit, first-none, first_cong}
use Rattle.finite.proofs.Best.{best_i, best_passes, best_most}
use Rattle.finite.proofs.Signed.{sub_cases}
use Rattle.table.specs.Table.{vertices}
use Rattle.anchored.specs.Graph.{Graph}
use Rattle.anchored.specs.Followers.{followers}
use Rattle.anchored.specs.Yield.{least, climb, net, net_yield, no_more, choice_of}
use Rattle.anchored.specs.Houses.{free_in}
use Rattle.anchored.proofs.Choice.{climb-le}
use Rattle.pool.specs.Input.{graph_of, anchored_by}
use Rattle.pool.proofs.Laws.{simple}
use Rattle.records.specs.Record.{Right}
use Rattle.records.specs.Yield.{yield_at}
use Rattle.records.specs.declared.Record.{Record}
use Rattle.records.proofs.Nets.{right_yield}
use Rattle.turns.specs.Choice.{best_by, choice_by, yield_in}
use Rattle.turns.specs.Turns.{houses_by}

-- ---- the order of signed numbers

<ℤ-≤ℤ : {a b : ℤ} → a <ℤ b → a ≤ℤ b
<ℤ-≤ℤ h = omega (arith, ints)

≤ℤ-<ℤ-trans : {a b c : ℤ} → a ≤ℤ b → b <ℤ c → a <ℤ c
≤ℤ-<ℤ-trans h k = omega (arith, ints)

-- ---- a vertex as a house sees it: with its yield, or, of another house, not at all

pub seen_some : (mine : Bool) {y : ℤ} (z : ℤ) → Some y ≡ cond mine (Some z) None → y ≡ cond mine z least
seen_some true z e = cc
seen_some false z e = cc

pub seen_none : (mine : Bool) (z : ℤ) → None ≡ cond mine (Some z) None → cond mine z least ≡ least
seen_none true z e = cc
seen_none false z e = refl

-- ---- the loop

module _ (n : ℕ) (yield : ℕ → ℤ) where
  -- a vertex is best exactly when its yield is above the least and no other one is greater
  best_by_i : (v : ℕ) → least <ℤ yield v → ((w : ℕ) → w < n → yield w ≤ℤ yield v) → T (best_by n yield v)
  unfolding best_by
  best_by_i v h most = and_i (lt_z least (yield v)) _ h.lt (all-below_i (λ w. le_z (yield w) (yield v)) n (λ w b. (most w b).le))

  best_by-above : (v : ℕ) → T (best_by n yield v) → least <ℤ yield v
  unfolding best_by
  best_by-above v t = lt_z_yes (and_l (lt_z least (yield v)) _ t)

  best_by_most : (v : ℕ) → T (best_by n yield v) → (w : ℕ) → w < n → yield w ≤ℤ yield v
  unfolding best_by
  best_by_most v t w b = le_z_yes (all-below-e (λ w. le_z (yield w) (yield v)) n (and_r (lt_z least (yield v)) _ t) w b)

  -- `greatest` is the greatest yield of the first v vertices and `chosen` the lowest that has it; n and the least where none is above that
  pub record Leading (chosen : ℕ) (greatest : ℤ) (v : ℕ) : Type 0 where
    pub within : chosen ≤ n
    pub nobody : chosen ≡ n → greatest ≡ least
    pub its : chosen < n → greatest ≡ yield chosen
    pub above : chosen < n → least <ℤ greatest
    pub most : (w : ℕ) → w < v → yield w ≤ℤ greatest
    pub lowest : chosen < n → (w : ℕ) → w < chosen → yield w <ℤ greatest

  pub leading_none : Leading n least 0
  leading_none = record {
    within = omega arith;
    nobody = λ e. refl;
    its = λ h. absurd (omega arith);
    above = λ h. absurd (omega arith);
    most = λ w h. absurd (omega arith);
    lowest = λ h. absurd (omega arith);
  }

  module _ {chosen v : ℕ} {greatest : ℤ} (leads : Leading chosen greatest v) where
    pub leading_above : least ≤ℤ greatest
    leading_above = ⊎_elim
        (λ e. subst (λ z. least ≤ℤ z) (sym (leads.nobody e)) (≤ℤ_refl least))
        (λ h. <ℤ-≤ℤ (leads.above h))
        (eq-or-lt_of_le leads.within)

    -- v has no greater yield
    pub leading_keep : yield v ≤ℤ greatest → Leading chosen greatest (v + 1)
    leading_keep h = record {
      within = leads.within;
      nobody = leads.nobody;
      its = leads.its;
      above = leads.above;
      most = below_more (λ w. yield w ≤ℤ greatest) v leads.most h;
      lowest = leads.lowest;
    }

    -- v has a greater yield
    pub leading_take : v < n → greatest <ℤ yield v → Leading v (yield v) (v + 1)
    leading_take b h = record {
      within = omega arith;
      nobody = λ e. absurd (omega arith);
      its = λ b. refl;
      above = λ b. ⊎_elim
          (λ e. subst (λ z. z <ℤ yield v) (leads.nobody e) h)
          (λ k. <ℤ-≤ℤ_trans (leads.above k) (<ℤ-≤ℤ h))
          (eq-or-lt_of_le leads.within);
      most = below_more (λ w. yield w ≤ℤ yield v) v (λ w k. <ℤ-≤ℤ (rises w k)) (≤ℤ_refl (yield v));
      lowest = λ b. rises;
    }
      where
        rises : (w : ℕ) → w < v → yield w <ℤ yield v
        rises w k = ≤ℤ-<ℤ-trans (leads.most w k) h

  -- of all vertices: the choice
  pub leading_all : {chosen : ℕ} {greatest : ℤ} → Leading chosen greatest n → chosen ≡ choice_by n yield
  leading_all {chosen} leads = ⊎_elim
      (λ e. e ∙ sym (first-none (best_by n yield) n (λ w h. refused w (λ t. clash_ℤ (best_by-above w t) (subst (λ z. yield w ≤ℤ z) (leads.nobody e) (leads.most w h))))))
      (λ h. let its = leads.its h in sym (first_hit (best_by n yield) n chosen
      (λ w k. refused w (λ t. clash_ℤ (leads.lowest h w k) (subst (λ z. z ≤ℤ yield w) (sym its) (best_by_most w t chosen h))))
      h
      (true_of (best_by n yield chosen) (best_by_i chosen (subst (λ z. least <ℤ z) its (leads.above h)) (λ w k. subst (λ z. yield w ≤ℤ z) its (leads.most w k))))))
      (eq-or-lt_of_le leads.within)
    where
      refused : (w : ℕ) → (T (best_by n yield w) → ⊥) → best_by n yield w ≡ false
      refused w f = false_of (best_by n yield w) (not_T (best_by n yield w) f)

-- ---- the yields of a right record are the net yields, so a house's choice by them is the defined one

module _ {s l : List ℕ} {kept : Record} (right : Right s l kept) (hs : List ℕ) (c : ℕ) where
  abbrev G : Graph
  G = graph_of s l

  abbrev A : ℕ → Bool
  A = anchored_by kept.anchored

  -- whom the house may anchor
  abbrev free : ℕ → Bool
  free = free_in (houses_by hs 0) A c

  -- a yield as the house sees it
  abbrev seen : ℕ → ℤ
  seen = yield_in hs c (yield_at kept)

  seen-free : (v : ℕ) → v < vertices s → T (free v) → seen v ≡ net G A v
  unfolding net_yield
  seen-free v h t =
      ap (λ (b : Bool). cond b (yield_at kept v) least) (true_of (eqb (get_or hs v 0) c) (and_l (eqb (get_or hs v 0) c) _ t))
      ∙ right_yield right v h
      ∙ ap (λ (b : Bool). cond b least (net G A v)) (false_of (A v) (and_r (eqb (get_or hs v 0) c) _ t))

  -- a vertex is one of these exactly when its yield is above the least: no climb exceeds the number of vertices
  free-above : (v : ℕ) → v < vertices s → T (free v) → least <ℤ seen v
  unfolding net
  free-above v h t =
      let few = climb-le G (simple right.admitted.table) A v h (and_r (eqb (get_or hs v 0) c) _ t) in
      let small = right.admitted.table.small in
      lt_z_yes (subst (λ z. T (lt_z least z)) (sym (seen-free v h t)) (sub_cases (λ z. T (lt_z least z)) (followers G A v) (climb G A v)
      (λ q. tt)
      (λ q. lt→ltb (climb G A v - suc (followers G A v)) 32767 (omega arith))))

  above-free : (v : ℕ) → least <ℤ seen v → T (free v)
  above-free v h = split (eqb (get_or hs v 0) c)
      (λ t. and_i (eqb (get_or hs v 0) c) _ t (split (A v) (λ q. absurd (<ℤ_irrefl (rw (true_of (eqb (get_or hs v 0) c) t, true_of (A v) q) at h))) (λ q. q)))
      (λ t. absurd (<ℤ_irrefl (rw (false_of (eqb (get_or hs v 0) c) t) at h)))

  unseen : (v : ℕ) → T (not (free v)) → seen v ≡ least
  unseen v t = split (eqb (get_or hs v 0) c)
      (λ q. rw (true_of (eqb (get_or hs v 0) c) q, true_of (A v) (not-not (A v) (nand (eqb (get_or hs v 0) c) _ t q))))
      (λ q. rw (false_of (eqb (get_or hs v 0) c) q))

  best_same : (v : ℕ) → v < vertices s → best_by (vertices s) seen v ≡ best_in free (no_more G A) (vertices s) v
  best_same v h = let n = vertices s in same (best_by n seen v) (best_in free (no_more G A) n v)
      (λ t.
      let mine = above-free v (best_by-above n seen v t) in
      best_i free (no_more G A) n v mine (λ w k f. subst T (ap₂ le_z (seen-free w k f) (seen-free v h mine)) (best_by_most n seen v t w k).le))
      (λ t.
      let mine = best_passes free (no_more G A) n v t in
      let above = free-above v h mine in
      best_by_i n seen v above (λ w k. split (free w)
      (λ q. le_z_yes (subst T (ap₂ le_z (sym (seen-free w k q)) (sym (seen-free v h mine))) (best_most free (no_more G A) n v t w k q)))
      (λ q. <ℤ-≤ℤ (subst (λ z. z <ℤ seen v) (sym (unseen w q)) above))))

  pub choice-by : choice_by (vertices s) seen ≡ choice_of G A free
  unfolding choice_of choice_in
  choice-by = first_cong (best_by (vertices s) seen) (best_in free (no_more G A) (vertices s)) (vertices s) best_same
