-- The rounds are a session: its requests are the names of the lines, and each line has the numbers of its request. Assumes nothing.
use mathlib.Core.Path.{◌≡◌, refl, sym, ap, ap₂, ◌∙◌}
use mathlib.Core.Logic.{◌⊎◌, inl, inr, ⊎_elim}
use mathlib.Core.Bool.{Bool, false}
use mathlib.Core.List.{List}
use Prim.Native.Nat.{ℕ, zero, suc, ◌≤◌, ◌<◌}
use native.Mathlib.Nat.{eq-or-lt_of_le}
use native.Mathlib.Omega.{arith}
use lib.Dec.{ltb, ltb→lt, nltb→le}
use Rattle.finite.specs.Count.{count, below, tabulate}
use Rattle.finite.proofs.Tests.{split}
use Rattle.finite.proofs.Count.{tabulate-at, count_none}
use Rattle.anchored.specs.Graph.{Graph}
use Rattle.anchored.specs.Followers.{followers}
use Rattle.anchored.specs.Yield.{choice}
use Rattle.anchored.specs.Session.{Plain, status_of, turn, row_of, after}
use Rattle.anchored.specs.Houses.{Houses, served_on, named, house_choice}
use Rattle.anchored.proofs.Session.{status-free, status-beyond, row-accepted, row-refused}
use Rattle.anchored.proofs.Choice.{choice-free, choice-le}
use Rattle.anchored.proofs.Houses.{named_none, line_picks, line_accepted, house_picks, lines-session}
use Rattle.rounds.specs.Rounds.{played, round_for}
use Rattle.rounds.specs.Shared.{name_on, shared_after}
use Rattle.rounds.proofs.Lines.{round_some, round_none}

-- the choices of the first r rounds
abbrev pub choices : Graph → (ℕ → Bool) → ℕ → List ℕ
choices G A r = tabulate (λ i. choice G (played G A i).anchors) r

-- the session of these requests is what the rounds leave, one by one
pub rounds-session : (G : Graph) (A : ℕ → Bool) (r i : ℕ) → i ≤ r → after G A (choices G A r) i ≡ played G A i
unfolding after played
rounds-session G A r zero h = refl
rounds-session G A r (suc i) h = ap₂ (turn G (suc i)) (tabulate-at (λ k. choice G (played G A k).anchors) r i (omega arith)) (rounds-session G A r i (omega arith))

-- the same for the lines that houses share
pub shared_session : (G : Graph) (H : Houses) (quota : ℕ → ℕ) (A : ℕ → Bool) (m i : ℕ) → i ≤ m
    → after G A (tabulate (λ k. name_on G H (shared_after G H quota A k)) m) i ≡ (shared_after G H quota A i).session
unfolding named house_choice
shared_session G H quota A m i h = lines-session G H (house_choice G H) quota A m i h

-- ---- a line has the numbers of its request

module _ (G : Graph) (S : Plain) (x : ℕ) where
  -- x is a vertex, and its request accepted, or it is the size, and refused
  abbrev pub Named : Type 0
  Named = ((x < G.size) × (status_of G S.anchors x ≡ 0)) ⊎ (x ≡ G.size)

  nobody : x ≡ G.size → status_of G S.anchors x ≡ 0 → ⊥
  nobody e z = absurd (omega (arith, status-beyond G S.anchors x (omega arith)))

  -- its number of recomputed rows
  pub line_redone : Named → (round_for G S x).redone ≡ (row_of G S x).redone
  line_redone = ⊎_elim
      (λ h. ap (λ r. r.redone) (round_some G S x h.0))
      (λ e. ap (λ r. r.redone) (round_none G S x e) ∙ ap (λ r. r.redone) (sym (row-refused G S x (nobody e))))

  -- and as many are marked as its request lifts
  pub line_lifted : Named → count (round_for G S x).lifted (below G.size) ≡ (row_of G S x).lifted
  unfolding followers
  line_lifted = ⊎_elim
      (λ h. ap (λ r. count r.lifted (below G.size)) (round_some G S x h.0) ∙ ap (λ r. r.lifted) (sym (row-accepted G S x h.1)))
      (λ e. ap (λ r. count r.lifted (below G.size)) (round_none G S x e) ∙ count_none (λ v. false) (below G.size) (λ w i. tt) ∙ ap (λ r. r.lifted) (sym (row-refused G S x (nobody e))))

-- a round names the choice
pub choice-named : (G : Graph) (S : Plain) → Named G S (choice G S.anchors)
choice-named G S = ⊎_elim inr (λ h. inl (h, (status-free G S.anchors (choice G S.anchors)).1 (h, choice-free G S.anchors h))) (eq-or-lt_of_le (choice-le G S.anchors))

-- a line of the houses names a vertex of the house served, or nobody
pub shared_named : (G : Graph) (H : Houses) (quota : ℕ → ℕ) (A : ℕ → Bool) → 0 < H.count → (i : ℕ) → let S = shared_after G H quota A i in Named G S.session (name_on G H S)
unfolding named house_choice
shared_named G H quota A some i = let S = shared_after G H quota A i in let pick = house_choice G H in split (ltb (served_on G H S) H.count)
    (λ t.
    let h = ltb→lt (served_on G H S) H.count t in
    inl ((line_picks G H pick quota A some (house_picks G H) i h).0, line_accepted G H pick quota A some (house_picks G H) i h))
    (λ t. inr (named_none G H pick i S (nltb→le (served_on G H S) H.count t)))
