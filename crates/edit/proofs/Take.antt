-- A link taken out of a padded table: the neighbor lists afterwards. Assumes nothing.
use mathlib.Core.Path.{◌≡◌, sym, ap, ◌∙◌, subst}
use mathlib.Core.Bool.{cond}
use mathlib.Core.List.{List, ◌++◌}
use Prim.Native.Nat.{ℕ, suc, ◌+◌, ◌-◌, ◌≤◌, ◌<◌}
use native.Mathlib.Omega.{arith}
use lib.ListN.{length, take, drop, get_or, length-append, length-drop, get_or-eq_default}
use lib.Seq.{length-take-le}
use lib.Dec.{ltb, ltb→lt, nltb→le}
use borrow.Author.Tests.{lt-ltb, le-ltb}
use Rattle.finite.specs.Count.{bit, tabulate}
use Rattle.finite.proofs.Tests.{split, true_of, false_of}
use Rattle.finite.proofs.Count.{length-tabulate, tabulate-at}
use Rattle.finite.proofs.Edits.{taken_reads}
use Rattle.table.specs.Table.{vertices, neighbors, Framed}
use Rattle.table.proofs.Laws.{neighbors-length}
use Rattle.edit.specs.Edit.{last_start, Padded, lowered_at, taken_at, Relisted}
use Rattle.edit.proofs.Parts.{starts-le, neighbor_at, part_is}

module _ {s l : List ℕ} (P : Padded s l) (v p : ℕ) (hv : v < vertices s) (low : get_or s v 0 ≤ p) (high : p < get_or s (v + 1) 0) where
  abbrev s⁻ : List ℕ
  s⁻ = tabulate (lowered_at s v) (length s)

  abbrev l⁻ : List ℕ
  l⁻ = tabulate (taken_at l p) (length l)

  long-s : length s⁻ ≡ length s
  long-s = length-tabulate (lowered_at s v) (length s)

  long-l : length l⁻ ≡ length l
  long-l = length-tabulate (taken_at l p) (length l)

  up_to : (i : ℕ) → i ≤ v → get_or s⁻ i 0 ≡ get_or s i 0
  up_to i h =
      let c : i < length s = omega arith in
      let e = tabulate-at (lowered_at s v) (length s) i c in
      omega (arith, e, ap bit (le-ltb v i h))

  behind : (i : ℕ) → v < i → i < length s → get_or s⁻ i 0 ≡ get_or s i 0 - 1
  behind i h b =
      let e = tabulate-at (lowered_at s v) (length s) i b in
      omega (arith, e, ap bit (lt-ltb v i h))

  before-p : (i : ℕ) → i < p → i < length l → get_or l⁻ i 0 ≡ get_or l i 0
  before-p i h b = tabulate-at (taken_at l p) (length l) i b ∙ ap (λ t. cond t (get_or l i 0) (get_or l (i + 1) 0)) (lt-ltb i p h)

  from-p : (i : ℕ) → p ≤ i → i < length l → get_or l⁻ i 0 ≡ get_or l (i + 1) 0
  from-p i h b = tabulate-at (taken_at l p) (length l) i b ∙ ap (λ t. cond t (get_or l i 0) (get_or l (i + 1) 0)) (le-ltb i p h)

  abbrev f : Framed s l
  f = P.framed

  framed⁻ : Framed s⁻ l⁻
  framed⁻ = record {
    some = omega (arith, long-s, f.some);
    step = λ u h.
        let b : u < vertices s = omega (arith, long-s) in
        let rise = f.step u b in
        split (ltb v u)
        (λ t. let g = ltb→lt v u t in omega (arith, behind u g (omega arith), behind (u + 1) (omega arith) (omega arith)))
        (λ t. let g = nltb→le v u t in split (ltb v (u + 1))
        (λ q.
        let k = ltb→lt v (u + 1) q in
        let same : u ≡ v = omega arith in
        let more : get_or s u 0 < get_or s (u + 1) 0 = subst (λ z. get_or s z 0 < get_or s (z + 1) 0) (sym same) (omega arith) in
        omega (arith, up_to u g, behind (u + 1) k (omega arith)))
        (λ q. let k = nltb→le v (u + 1) q in omega (arith, up_to u g, up_to (u + 1) k)));
    within = λ u h.
        let b : u ≤ vertices s = omega (arith, long-s) in
        let top = f.within u b in
        split (ltb v u)
        (λ t. let g = ltb→lt v u t in omega (arith, behind u g (omega (arith, f.some)), long-l))
        (λ t. let g = nltb→le v u t in omega (arith, up_to u g, long-l));
  }

  -- behind the last link, which moved by one, there are zeros
  padded⁻ : Padded s⁻ l⁻
  padded⁻ = record {
    framed = framed⁻;
    few = omega (arith, long-l, P.few);
    origin = omega (arith, up_to 0 (omega arith), P.origin);
    zeros = λ i h. split (ltb i (length l))
        (λ t.
        let b = ltb→lt i (length l) t in
        let n = vertices s in
        let end : get_or s⁻ (vertices s⁻) 0 ≡ get_or s n 0 - 1 = let q : vertices s⁻ ≡ n = omega (arith, long-s) in subst (λ z. get_or s⁻ z 0 ≡ get_or s n 0 - 1) (sym q) (behind n (omega arith) (omega (arith, f.some))) in
        let top = starts-le f (v + 1) n (omega arith) (omega arith) in
        from-p i (omega arith) b ∙ P.zeros (i + 1) (omega arith))
        (λ t. get_or-eq_default l⁻ 0 (omega (arith, nltb→le i (length l) t, long-l)));
  }

  -- ---- v's list

  abbrev a : ℕ
  a = get_or s v 0

  abbrev N : List ℕ
  N = neighbors s l v

  abbrev k : ℕ
  k = p - a

  -- v's part of the links, in which the place lies
  part : (length N ≡ get_or s (v + 1) 0 - a) × (get_or s (v + 1) 0 ≤ last_start s) × (last_start s ≤ length l)
  part = (neighbors-length s l f v hv, starts-le f (v + 1) (vertices s) (omega arith) (omega arith), f.within (vertices s) (omega arith))

  abbrev new : List ℕ
  new = take k N ++ drop (suc k) N

  new-long : length new + 1 ≡ length N
  new-long = let own = part in omega (arith, length-append (take k N) (drop (suc k) N), length-take-le k N (omega arith), length-drop (suc k) N)

  -- its links: up to the place the old ones, and from there on those behind it
  taken_link : (i : ℕ) → i + 1 < length N → get_or l⁻ (a + i) 0 ≡ cond (ltb i k) (get_or N i 0) (get_or N (i + 1) 0)
  taken_link i h = let own = part in split (ltb i k)
      (λ t. let g = ltb→lt i k t in rw (true_of (ltb i k) t) (before-p (a + i) (omega arith) (omega arith) ∙ sym (neighbor_at f v i hv (omega arith))))
      (λ t.
      let g = nltb→le i k t in
      let on : a + i + 1 ≡ a + (i + 1) = omega arith in
      rw (false_of (ltb i k) t) (from-p (a + i) (omega arith) (omega arith) ∙ ap (λ z. get_or l z 0) on ∙ sym (neighbor_at f v (i + 1) hv (omega arith))))

  -- the link is gone from it
  taken_here : neighbors s⁻ l⁻ v ≡ new
  taken_here =
      let own = part in
      let first = up_to v (omega arith) in
      let next = behind (v + 1) (omega arith) (omega arith) in
      part_is framed⁻ v new (omega (arith, long-s)) (omega (arith, new-long)) (λ i b.
      ap (λ z. get_or l⁻ (z + i) 0) first ∙ taken_link i (omega (arith, new-long)) ∙ sym (taken_reads N k i (omega arith)))

  taken_last : get_or s⁻ (vertices s) 0 + length N ≡ last_start s + length new
  taken_last = let own = part in omega (arith, behind (vertices s) (omega arith) (omega (arith, f.some)), new-long)

  -- every other list stays
  taken_other : (u : ℕ) → u < vertices s → (v ≡ u → ⊥) → neighbors s⁻ l⁻ u ≡ neighbors s l u
  taken_other u hu n =
      let own = neighbors-length s l f u hu in
      let rise = f.step u hu in
      let top = f.within (u + 1) (omega arith) in
      split (ltb v u)
      (λ t.
      let g = ltb→lt v u t in
      let first = behind u g (omega arith) in
      let next = behind (u + 1) (omega arith) (omega arith) in
      let far = starts-le f (v + 1) u (omega arith) (omega arith) in
      part_is framed⁻ u (neighbors s l u) (omega (arith, long-s)) (omega arith) (λ i b.
      let q : get_or s u 0 - 1 + i + 1 ≡ get_or s u 0 + i = omega arith in
      ap (λ z. get_or l⁻ (z + i) 0) first
      ∙ from-p (get_or s u 0 - 1 + i) (omega arith) (omega arith) ∙ ap (λ z. get_or l z 0) q ∙ sym (neighbor_at f u i hu (omega arith))))
      (λ t.
      let g = nltb→le v u t in
      let first = up_to u g in
      let next = up_to (u + 1) (omega arith) in
      let near = starts-le f (u + 1) v (omega arith) (omega arith) in
      part_is framed⁻ u (neighbors s l u) (omega (arith, long-s)) (omega arith) (λ i b.
      ap (λ z. get_or l⁻ (z + i) 0) first
      ∙ before-p (get_or s u 0 + i) (omega arith) (omega arith) ∙ sym (neighbor_at f u i hu (omega arith))))

  pub taken_relisted : Relisted s l v new s⁻ l⁻
  taken_relisted = record { starts_long = long-s; links_long = long-l; padded = padded⁻; here = taken_here; last = taken_last; others = taken_other }
