-- One house that has every vertex: its lines are the ordinary rounds, as many as its quota. Assumes nothing.
use mathlib.Core.Path.{◌≡◌, refl, sym, ap, ap₂, ◌∙◌, subst}
use mathlib.Core.Bool.{Bool, not, ◌&&◌}
use Prim.Native.Nat.{ℕ, zero, suc, ◌≤◌, ◌<◌}
use native.Mathlib.Omega.{arith}
use lib.Dec.{T, eqb, ltb, ltb→lt, nltb→le, T_not}
use borrow.Author.Tests.{eq-eqb, ne_eqb}
use Rattle.finite.specs.Count.{below}
use Rattle.finite.specs.Search.{any}
use Rattle.finite.proofs.Tests.{and_i, split, true_of, eqb_of}
use Rattle.finite.proofs.Count.{count-below-le, tabulate_cong}
use Rattle.finite.proofs.Search.{any-below_i}
use Rattle.anchored.specs.Graph.{Graph}
use Rattle.anchored.specs.Yield.{choice}
use Rattle.anchored.specs.Session.{turn}
use Rattle.anchored.specs.Houses.{Houses, Sharing, free_in, is_passed, served_on, after_line, named, after_lines, house_choice}
use Rattle.anchored.proofs.Choice.{choice_of_cong, choice-none}
use Rattle.anchored.proofs.Houses.{next-lt, quota_kept, served_open, open_free, all-passed, named_some, named_none}
use Rattle.rounds.specs.Rounds.{played, round_for, round_on, rounds_of}
use Rattle.rounds.specs.Shared.{name_on, shared_after, shared_rounds}

module _ (G : Graph) (H : Houses) (quota : ℕ → ℕ) (A : ℕ → Bool) (alone : H.count ≡ 1) (every : (v : ℕ) → v < G.size → H.house v ≡ 0) where
  abbrev before : ℕ → Sharing
  before = shared_after G H quota A

  abbrev some : 0 < H.count
  some = omega arith

  left : (i : ℕ) → i < quota 0 → 0 < (before i).turns.left 0
  left i h =
      let kept = quota_kept G H (house_choice G H) quota A some 0 some i in
      omega (arith, kept, count-below-le (λ k. eqb (served_on G H (before k)) 0) i)

  -- with somebody left it is not to be passed before its last line
  waits : (i : ℕ) → i < quota 0 → let B = (before i).session.anchors in T (any (free_in H B 0) (below G.size)) → T (not (is_passed H G.size B (before i).turns 0))
  unfolding is_passed
  waits i h t =
      let B = (before i).session.anchors in
      rw (ne_eqb ((before i).turns.left 0) 0 (λ e. absurd (omega (arith, left i h))), true_of (any (free_in H B 0) (below G.size)) t) tt

  -- while it has something left of its quota it names the choice
  one_name : (i : ℕ) → i < quota 0 → name_on G H (before i) ≡ choice G (before i).session.anchors
  unfolding choice house_choice
  one_name i h = split (any (free_in H B 0) (below G.size))
      (λ t.
      let low : c < H.count = split (ltb c H.count) (ltb→lt c H.count) (λ q.
      let shut = all-passed H G.size B (before i).turns next (nltb→le c H.count q) 0 some in
      absurd (T_not (is_passed H G.size B (before i).turns 0) (waits i h t) shut)) in
      let first : c ≡ 0 = omega arith in
      named_some G H (house_choice G H) 0 (before i) low
      ∙ ap (house_choice G H 0 B) first
      ∙ choice_of_cong G B (free_in H B 0) (λ v. not (B v)) (λ v b. ap (λ q. q && not (B v)) (eq-eqb (H.house v) 0 (every v b))))
      (λ t.
      let none : H.count ≤ c = split (ltb c H.count)
      (λ q.
      let low = ltb→lt c H.count q in
      let free = open_free H G.size B (before i).turns c (served_open H G.size B (before i).turns low) in
      let first : c ≡ 0 = omega arith in
      absurd (T_not (any (free_in H B 0) (below G.size)) t (subst (λ e. T (any (free_in H B e) (below G.size))) first free)))
      (nltb→le c H.count) in
      named_none G H (house_choice G H) 0 (before i) none
      ∙ sym (choice-none G B (λ v b. split (B v) (λ q. q) (λ q. absurd (T_not (any (free_in H B 0) (below G.size)) t
      (any-below_i (free_in H B 0) G.size v b (and_i (eqb (H.house v) 0) _ (eqb_of (H.house v) 0 (every v b)) q)))))))
    where
      B : ℕ → Bool
      B = (before i).session.anchors

      c : ℕ
      c = served_on G H (before i)

      next : (before i).turns.next < H.count
      next = next-lt G H (house_choice G H) quota A some i

  -- so what its lines leave is what the rounds leave
  one-session : (i : ℕ) → i ≤ quota 0 → (before i).session ≡ played G A i
  unfolding played after_lines after_line house_choice named
  one-session zero h = refl
  one-session (suc i) h =
      let e = one-session i (omega arith) in
      ap₂ (turn G (suc i)) (one_name i (omega arith) ∙ ap (λ P. choice G P.anchors) e) e

  pub one-rounds : (m : ℕ) → m ≤ quota 0 → shared_rounds G H quota A m ≡ rounds_of G A m
  unfolding shared_rounds rounds_of round_on
  one-rounds m h = tabulate_cong _ _ m (λ i b.
      let e = one-session i (omega arith) in
      ap₂ (round_for G) e (one_name i (omega arith) ∙ ap (λ P. choice G P.anchors) e))
