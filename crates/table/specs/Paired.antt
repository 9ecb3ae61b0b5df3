-- Links paired with their return links, vertex after vertex. The laws are in proofs/Pairing.
use Rattle.std.specs.Prelude.{◌≡◌, List, ℕ, ◌+◌, ◌≤◌, ◌<◌, length, get_or}
use Rattle.finite.specs.Count.{In}
use Rattle.table.specs.Table.{vertices, neighbors}

-- the links of u before `place` ascend, to vertices below v, other than u, that list u
pub record PairedTo (s l : List ℕ) (v u place : ℕ) : Type 0 where
  pub from : get_or s u 0 ≤ place
  pub upto : place ≤ get_or s (u + 1) 0
  pub lower : (i : ℕ) → i < place → get_or s u 0 ≤ i → get_or l i 0 < v
  pub other : (i : ℕ) → i < place → get_or s u 0 ≤ i → get_or l i 0 ≡ u → ⊥
  pub rising : (j : ℕ) → j < place → (i : ℕ) → i < j → get_or s u 0 ≤ i → get_or l i 0 < get_or l j 0
  pub returned : (i : ℕ) → i < place → get_or s u 0 ≤ i → In u (neighbors s l (get_or l i 0))

-- so for each vertex below v, up to its next place
pub record Paired (s l : List ℕ) (v : ℕ) (next : List ℕ) : Type 0 where
  pub room : vertices s ≤ length next
  pub each : (u : ℕ) → u < v → PairedTo s l v u (get_or next u 0)

-- every link is paired: the next place of each vertex is the end of its links
abbrev pub Spent : List ℕ → List ℕ → Type 0
Spent s next = (u : ℕ) → u < vertices s → get_or next u 0 ≡ get_or s (u + 1) 0
