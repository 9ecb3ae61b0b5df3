-- Laws of choices: the lowest of the best numbers below a bound. Assumes nothing.
use mathlib.Core.Path.{◌≡◌, sym, subst}
use mathlib.Core.Logic.{⊎_elim}
use mathlib.Core.Bool.{Bool, not, ◌&&◌, ◌||◌}
use Prim.Native.Nat.{ℕ, zero, suc, ◌≤◌, ◌<◌}
use native.Mathlib.Nat.{eq-or-lt_of_le}
use native.Mathlib.Omega.{arith}
use lib.Dec.{T, T_not, not_T}
use Rattle.finite.specs.Count.{below}
use Rattle.finite.specs.Search.{any}
use Rattle.finite.specs.Best.{best_in, choice_in}
use Rattle.finite.proofs.Tests.{and_i, and_l, and_r, or_l, or_r, or-e, split, same, false_of}
use Rattle.finite.proofs.Search.{any-below_i, any-below-e, all-below_i, all-below-e, first-none, first_passes, first-least, first_cong, first-le}

module _ (p : ℕ → Bool) (no_better : ℕ → ℕ → Bool) (n : ℕ) where
  -- a number is best exactly when it passes and no other that passes is better
  pub best_i : (v : ℕ) → T (p v) → ((w : ℕ) → w < n → T (p w) → T (no_better w v)) → T (best_in p no_better n v)
  unfolding best_in
  best_i v t f = and_i (p v) _ t (all-below_i (λ w. not (p w) || no_better w v) n (λ w b. split (p w) (λ s. or_r (not (p w)) _ (f w b s)) (or_l (not (p w)) _)))

  pub best_passes : (v : ℕ) → T (best_in p no_better n v) → T (p v)
  unfolding best_in
  best_passes v t = and_l (p v) _ t

  pub best_most : (v : ℕ) → T (best_in p no_better n v) → (w : ℕ) → w < n → T (p w) → T (no_better w v)
  unfolding best_in
  best_most v t w b s = or-e (not (p w)) _ (all-below-e (λ u. not (p u) || no_better u v) n (and_r (p v) _ t) w b) (λ q. absurd (T_not (p w) q s)) (λ q. q)

  -- a choice is best, and the lowest of the best; there is none where none passes
  pub choice_in_best : choice_in p no_better n < n → T (best_in p no_better n (choice_in p no_better n))
  unfolding choice_in
  choice_in_best h = first_passes (best_in p no_better n) n h

  pub choice_in-lowest : (v : ℕ) → T (best_in p no_better n v) → choice_in p no_better n ≤ v
  unfolding choice_in
  choice_in-lowest v t = first-least (best_in p no_better n) n v t

  pub choice_in-le : choice_in p no_better n ≤ n
  unfolding choice_in
  choice_in-le = first-le (best_in p no_better n) n

  pub choice_in-none : ((v : ℕ) → v < n → T (not (p v))) → choice_in p no_better n ≡ n
  unfolding choice_in
  choice_in-none f = first-none (best_in p no_better n) n (λ v b. false_of (best_in p no_better n v) (not_T (best_in p no_better n v) (λ t. T_not (p v) (f v b) (best_passes v t))))

-- tests that agree below n give the same choice
pub choice_in_cong : (p q : ℕ → Bool) (no_better : ℕ → ℕ → Bool) (n : ℕ) → ((v : ℕ) → v < n → p v ≡ q v) → choice_in p no_better n ≡ choice_in q no_better n
unfolding choice_in
choice_in_cong p q no_better n e = first_cong (best_in p no_better n) (best_in q no_better n) n (λ v b. same (best_in p no_better n v) (best_in q no_better n v)
    (λ t. best_i q no_better n v (subst T (e v b) (best_passes p no_better n v t)) (λ w h s. best_most p no_better n v t w h (subst T (sym (e w h)) s)))
    (λ t. best_i p no_better n v (subst T (sym (e v b)) (best_passes q no_better n v t)) (λ w h s. best_most q no_better n v t w h (subst T (e w h) s))))

-- an order of all numbers: any two compare, and comparisons chain
pub record Comparing (no_better : ℕ → ℕ → Bool) : Type 0 where
  pub total : (v w : ℕ) → T (not (no_better v w)) → T (no_better w v)
  pub chains : (u v w : ℕ) → T (no_better u v) → T (no_better v w) → T (no_better u w)

module _ (p : ℕ → Bool) (no_better : ℕ → ℕ → Bool) (order : Comparing no_better) where
  itself : (v : ℕ) → T (no_better v v)
  itself v = split (no_better v v) (λ t. t) (order.total v v)

  -- of the numbers below n that pass, if one does, one is best
  some_best : (n v : ℕ) → v < n → T (p v) → (w : ℕ) × (w < n) × T (p w) × ((u : ℕ) → u < n → T (p u) → T (no_better u w))
  some_best zero v h t = absurd (omega arith)
  some_best (suc n) v h t = split (any p (below n))
      (λ s.
      let r = any-below-e p n s in
      let g = some_best n r.0 r.1 r.2 in
      split (p n && not (no_better n g.0))
      (λ q.
      let more = order.total n g.0 (and_r (p n) _ q) in
      (n, omega arith, and_l (p n) _ q, λ u b k. last u b (λ z. T (no_better z n)) (itself n) (λ l. order.chains u g.0 n (g.3 u l k) more)))
      (λ q. (
        g.0,
        omega (arith, g.1),
        g.2,
        λ u b k. last u b (λ z. T (p z) → T (no_better z g.0))
            (λ pn. split (no_better n g.0) (λ o. o) (λ o. absurd (T_not (p n && not (no_better n g.0)) q (and_i (p n) _ pn o))))
            (λ l pu. g.3 u l pu) k,
      )))
      (λ s.
      let none : (u : ℕ) → u < n → T (p u) → ⊥ = λ u l k. T_not (any p (below n)) s (any-below_i p n u l k) in
      let here : T (p n) = last v h (λ z. T (p z) → T (p n)) (λ k. k) (λ l k. absurd (none v l k)) t in
      (n, omega arith, here, λ u b k. last u b (λ z. T (p z) → T (no_better z n)) (λ m. itself n) (λ l m. absurd (none u l m)) k))
    where
      last : (u : ℕ) → u < suc n → (P : ℕ → Type 0) → P n → (u < n → P u) → P u
      last u b P here under = let l : u ≤ n = omega arith in ⊎_elim (λ e. rw e here) under (eq-or-lt_of_le l)

  -- one passes: there is a choice
  pub choice_in_some : (n v : ℕ) → v < n → T (p v) → choice_in p no_better n < n
  choice_in_some n v b t = let g = some_best n v b t in omega (arith, choice_in-lowest p no_better n g.0 (best_i p no_better n g.0 g.2 g.3), g.1)

  -- leaving out numbers of which none is best changes no choice
  pub choice_in_skips : (skip : ℕ → Bool) (n : ℕ) → ((w : ℕ) → w < n → T (p w) → T (skip w) → T (not (best_in p no_better n w)))
      → choice_in (λ v. p v && not (skip v)) no_better n ≡ choice_in p no_better n
  unfolding choice_in
  choice_in_skips skip n beaten = first_cong (best_in rest no_better n) (best_in p no_better n) n (λ v b. same (best_in rest no_better n v) (best_in p no_better n v) (of_all v b) (of_rest v b))
    where
      rest : ℕ → Bool
      rest v = p v && not (skip v)

      kept : (v : ℕ) → v < n → T (best_in p no_better n v) → T (rest v)
      kept v b t = let pv = best_passes p no_better n v t in and_i (p v) _ pv (not_T (skip v) (λ s. T_not (best_in p no_better n v) (beaten v b pv s) t))

      of_rest : (v : ℕ) → v < n → T (best_in p no_better n v) → T (best_in rest no_better n v)
      of_rest v b t = best_i rest no_better n v (kept v b t) (λ w h s. best_most p no_better n v t w h (and_l (p w) _ s))

      of_all : (v : ℕ) → v < n → T (best_in rest no_better n v) → T (best_in p no_better n v)
      of_all v b t =
          let pv = and_l (p v) _ (best_passes rest no_better n v t) in
          let g = some_best n v b pv in
          let top = best_i p no_better n g.0 g.2 g.3 in
          best_i p no_better n v pv (λ w h s. order.chains w g.0 v (g.3 w h s) (best_most rest no_better n v t g.0 g.1 (kept g.0 g.1 top)))
