-- What the parts of the search promise makes its marks and both counts. Assumes nothing.
use mathlib.Core.Path.{◌≡◌, sym, ◌∙◌, subst}
use mathlib.Core.Bool.{Bool}
use mathlib.Core.List.{List}
use Prim.Native.Nat.{ℕ, ◌+◌}
use native.Mathlib.Omega.{arith}
use lib.ListN.{take}
use lib.Dec.{T}
use Rattle.finite.specs.Count.{count, In}
use Rattle.finite.specs.Search.{member}
use Rattle.finite.specs.Sets.{has}
use Rattle.finite.proofs.Count.{count-listed}
use Rattle.finite.proofs.Search.{member_i, member-e}
use Rattle.table.specs.Table.{vertices, neighbors}
use Rattle.anchored.specs.Graph.{Graph}
use Rattle.anchored.specs.Followers.{followers, candidates, reached, mark}
use Rattle.anchored.proofs.Support.{supports}
use Rattle.pool.specs.Input.{graph_of, anchored_by}
use Rattle.pool.specs.Arrays.{Holds}
use Rattle.pool.specs.Sheet.{Leveled}
use Rattle.candidates.specs.Reaching.{Reached}
use Rattle.candidates.proofs.Reaching.{queue_length}
use Rattle.support.specs.Striking.{supports_of, State, Settled}
use Rattle.support.proofs.Remaining.{support_is, marks_are, counts_are}

-- the queue is as long as there are candidates
pub reached_is : {s l a : List ℕ} {x : ℕ} {marks queue : List ℕ} {tail : ℕ} → Reached s l a x marks queue tail → tail ≡ reached (graph_of s l) (anchored_by a) x
unfolding reached
reached_is {s} {l} {a} {x} {queue = queue} {tail = tail} r =
    let q = take tail queue in
    let listed = count-listed (has (candidates (graph_of s l) (anchored_by a) x)) (vertices s) q r.queued.distinct
    (λ v i. (r.queued.within v i, subst T (r.all v) (member_i v q i)))
    (λ v b t. member-e v q (subst T (sym (r.all v)) t)) in
    omega (arith, queue_length r.queued)

module _ {s l a levels : List ℕ} (leveled : Leveled s l a levels) {x : ℕ} {marks queue : List ℕ} {tail : ℕ} (r : Reached s l a x marks queue tail)
    {C : ℕ → Bool} (all : (v : ℕ) → C v ≡ member v (take tail queue))
    {S : ℕ → ℕ} (counts : (v : ℕ) → In v (take tail queue) → S v ≡ count (supports_of a levels (λ p. member p (take tail queue)) x v) (neighbors s l v))
    {st : State} (k : Settled s l levels S C st) where
  abbrev G : Graph
  G = graph_of s l

  abbrev A : ℕ → Bool
  A = anchored_by a

  found_is : (v : ℕ) → C v ≡ has (candidates G A x) v
  found_is v = all v ∙ r.all v

  found-support : (v : ℕ) → T (C v) → S v ≡ count (supports G A x C v) (neighbors s l v)
  found-support v t = counts v (member-e v (take tail queue) (subst T (all v) t)) ∙ support_is leveled x (λ p. member p (take tail queue)) C v (k.listed.small v t) (λ p. sym (all p))

  -- the marks, and the counts
  pub found-marks : Holds st.marks (vertices s) (mark G A x)
  found-marks = marks_are leveled x found_is found-support k

  pub found-counts : followers G A x + st.end ≡ tail
  found-counts = counts_are leveled x found_is found-support k ∙ sym (reached_is r)
