-- Starts in order, and neighbors by their places. Assumes nothing.
use mathlib.Core.Path.{◌≡◌, sym, ◌∙◌, subst}
use mathlib.Core.List.{List}
use Prim.Native.Nat.{ℕ, zero, suc, ◌+◌, ◌-◌, ◌≤◌, ◌<◌}
use native.Mathlib.Omega.{arith}
use lib.ListN.{length, drop, get_or}
use lib.Seq.{get_or-take, get_or-drop, ext_get_or}
use Rattle.table.specs.Table.{vertices, neighbors, Framed}
use Rattle.table.proofs.Laws.{neighbors-length}

-- starts rise
starts_rise : {s l : List ℕ} → Framed s l → (u k : ℕ) → u + k ≤ vertices s → get_or s u 0 ≤ get_or s (u + k) 0
starts_rise f u zero h = let q : u + 0 ≡ u = omega arith in rw q (omega arith)
starts_rise f u (suc k) h =
    let q : u + suc k ≡ u + k + 1 = omega arith in
    rw q (omega (arith, starts_rise f u k (omega arith), f.step (u + k) (omega arith)))

pub starts-le : {s l : List ℕ} → Framed s l → (u w : ℕ) → u ≤ w → w ≤ vertices s → get_or s u 0 ≤ get_or s w 0
starts-le {s} f u w h b = let q : u + (w - u) ≡ w = omega arith in subst (λ z. get_or s u 0 ≤ get_or s z 0) q (starts_rise f u (w - u) (omega arith))

-- a neighbor by its place
pub neighbor_at : {s l : List ℕ} → Framed s l → (u i : ℕ) → u < vertices s → i < get_or s (u + 1) 0 - get_or s u 0 → get_or (neighbors s l u) i 0 ≡ get_or l (get_or s u 0 + i) 0
unfolding neighbors
neighbor_at {s} {l} f u i h b = get_or-take (get_or s (u + 1) 0 - get_or s u 0) (drop (get_or s u 0) l) i 0 b ∙ get_or-drop (get_or s u 0) l i 0

-- a list is a vertex's if it has as many numbers as the vertex has links, and each is the link at its place
pub part_is : {s l : List ℕ} → Framed s l → (u : ℕ) (list : List ℕ) → u < vertices s → length list ≡ get_or s (u + 1) 0 - get_or s u 0
    → ((i : ℕ) → i < length list → get_or l (get_or s u 0 + i) 0 ≡ get_or list i 0) → neighbors s l u ≡ list
part_is {s} {l} f u list h long reads =
    let own = neighbors-length s l f u h in
    ext_get_or 0 (neighbors s l u) list (own ∙ sym long) (λ i b. neighbor_at f u i h (omega arith) ∙ reads i (omega arith))
