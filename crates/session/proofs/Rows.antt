-- The status of an event, and the rows that it does not recompute. Assumes nothing.
use mathlib.Core.Path.{◌≡◌, sym}
use mathlib.Core.Bool.{Bool, not}
use Prim.Native.Nat.{ℕ}
use lib.Dec.{T}
use Rattle.finite.proofs.Tests.{split, true_of, false_of}
use Rattle.anchored.specs.Graph.{Graph}
use Rattle.anchored.specs.Step.{recomputed}
use Rattle.anchored.specs.Events.{Event, Pool, event_status}
use Rattle.anchored.proofs.Session.{row_number}

-- ---- the status of an event

module _ (P : Pool) (e : Event) where
  -- stamps do not matter to it
  pub status-same : (g : Graph) (B : ℕ → Bool) (stamps : ℕ → ℕ) → g ≡ P.graph → B ≡ P.plain.anchors → event_status P e ≡ event_status (record { graph = g; plain = record { anchors = B; stamps = stamps } }) e
  unfolding event_status
  status-same g B stamps same_graph same_set = rw (same_graph, same_set)

-- ---- rows

-- they depend on the two graphs, the two sets and the ends alone
pub recomputed-same : {G G' H H' : Graph} {A A' B B' E E' : ℕ → Bool} → G ≡ G' → H ≡ H' → A ≡ A' → B ≡ B' → E ≡ E' → recomputed G H A B E ≡ recomputed G' H' A' B' E'
recomputed-same g h a b e = rw (g, h, a, b, e)

-- a number of a row is kept, if the vertex is anchored before exactly if it is after, and the number of a vertex not anchored is the same
pub row_kept : {X : Type 0} (top : X) (A B : ℕ → Bool) (before after : ℕ → X) (v : ℕ) → A v ≡ B v → (T (not (A v)) → before v ≡ after v) → row_number top B after v ≡ row_number top A before v
row_kept top A B before after v same kept = rw (sym same) (split (A v)
    (λ a. rw (true_of (A v) a))
    (λ a. rw (false_of (A v) a) (sym (kept a))))
