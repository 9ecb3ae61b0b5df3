-- A link put into a padded table: the neighbor lists afterwards. Assumes nothing.
use mathlib.Core.Path.{◌≡◌, sym, ap, ◌∙◌, subst}
use mathlib.Core.Bool.{cond}
use mathlib.Core.List.{List, ◌∷◌, ◌++◌}
use Prim.Native.Nat.{ℕ, ◌+◌, ◌-◌, ◌≤◌, ◌<◌}
use native.Mathlib.Omega.{arith}
use lib.ListN.{length, take, drop, get_or, length-append, length-drop, get_or-eq_default}
use lib.Seq.{length-take-le}
use lib.Dec.{ltb, eqb, ltb→lt, nltb→le, eqb→eq}
use borrow.Author.Tests.{lt-ltb, le-ltb, eq-eqb, ne_eqb}
use Rattle.finite.specs.Count.{bit, tabulate}
use Rattle.finite.proofs.Tests.{split, true_of, false_of, neqb}
use Rattle.finite.proofs.Count.{length-tabulate, tabulate-at}
use Rattle.finite.proofs.Edits.{put_reads}
use Rattle.table.specs.Table.{vertices, neighbors, Framed}
use Rattle.table.proofs.Laws.{neighbors-length}
use Rattle.edit.specs.Edit.{last_start, Padded, raised_at, put_at, Relisted}
use Rattle.edit.proofs.Parts.{starts-le, neighbor_at, part_is}

module _ {s l : List ℕ} (P : Padded s l) (v p w : ℕ) (hv : v < vertices s) (low : get_or s v 0 ≤ p) (high : p ≤ get_or s (v + 1) 0) (room : last_start s < length l) where
  abbrev s⁺ : List ℕ
  s⁺ = tabulate (raised_at s v) (length s)

  abbrev l⁺ : List ℕ
  l⁺ = tabulate (put_at l p w) (length l)

  long-s : length s⁺ ≡ length s
  long-s = length-tabulate (raised_at s v) (length s)

  long-l : length l⁺ ≡ length l
  long-l = length-tabulate (put_at l p w) (length l)

  up_to : (i : ℕ) → i ≤ v → get_or s⁺ i 0 ≡ get_or s i 0
  up_to i h =
      let c : i < length s = omega arith in
      let e = tabulate-at (raised_at s v) (length s) i c in
      omega (arith, e, ap bit (le-ltb v i h))

  behind : (i : ℕ) → v < i → i < length s → get_or s⁺ i 0 ≡ get_or s i 0 + 1
  behind i h b =
      let e = tabulate-at (raised_at s v) (length s) i b in
      omega (arith, e, ap bit (lt-ltb v i h))

  before-p : (i : ℕ) → i < p → i < length l → get_or l⁺ i 0 ≡ get_or l i 0
  before-p i h b = tabulate-at (put_at l p w) (length l) i b ∙ ap (λ t. cond t (get_or l i 0) (cond (eqb i p) w (get_or l (i - 1) 0))) (lt-ltb i p h)

  at_p : (i : ℕ) → i ≡ p → i < length l → get_or l⁺ i 0 ≡ w
  at_p i e b = tabulate-at (put_at l p w) (length l) i b
      ∙ ap (λ t. cond t (get_or l i 0) (cond (eqb i p) w (get_or l (i - 1) 0))) (le-ltb i p (omega arith))
      ∙ ap (λ t. cond t w (get_or l (i - 1) 0)) (eq-eqb i p e)

  behind_p : (i : ℕ) → p < i → i < length l → get_or l⁺ i 0 ≡ get_or l (i - 1) 0
  behind_p i h b = tabulate-at (put_at l p w) (length l) i b
      ∙ ap (λ t. cond t (get_or l i 0) (cond (eqb i p) w (get_or l (i - 1) 0))) (le-ltb i p (omega arith))
      ∙ ap (λ t. cond t w (get_or l (i - 1) 0)) (ne_eqb i p (λ e. absurd (omega arith)))

  abbrev f : Framed s l
  f = P.framed

  framed⁺ : Framed s⁺ l⁺
  framed⁺ = record {
    some = omega (arith, long-s, f.some);
    step = λ u h.
        let b : u < vertices s = omega (arith, long-s) in
        let rise = f.step u b in
        split (ltb v u)
        (λ t. let g = ltb→lt v u t in omega (arith, behind u g (omega arith), behind (u + 1) (omega arith) (omega arith)))
        (λ t. let g = nltb→le v u t in split (ltb v (u + 1))
        (λ q. let k = ltb→lt v (u + 1) q in omega (arith, up_to u g, behind (u + 1) k (omega arith)))
        (λ q. let k = nltb→le v (u + 1) q in omega (arith, up_to u g, up_to (u + 1) k)));
    within = λ u h.
        let b : u ≤ vertices s = omega (arith, long-s) in
        let top = starts-le f u (vertices s) b (omega arith) in
        split (ltb v u)
        (λ t. let g = ltb→lt v u t in omega (arith, behind u g (omega (arith, f.some)), long-l))
        (λ t. let g = nltb→le v u t in omega (arith, up_to u g, long-l));
  }

  -- behind the last link, which moved by one, there are zeros
  padded⁺ : Padded s⁺ l⁺
  padded⁺ = record {
    framed = framed⁺;
    few = omega (arith, long-l, P.few);
    origin = omega (arith, up_to 0 (omega arith), P.origin);
    zeros = λ i h. split (ltb i (length l))
        (λ t.
        let b = ltb→lt i (length l) t in
        let n = vertices s in
        let end : get_or s⁺ (vertices s⁺) 0 ≡ get_or s n 0 + 1 = let q : vertices s⁺ ≡ n = omega (arith, long-s) in subst (λ z. get_or s⁺ z 0 ≡ get_or s n 0 + 1) (sym q) (behind n (omega arith) (omega (arith, f.some))) in
        let top = starts-le f (v + 1) n (omega arith) (omega arith) in
        behind_p i (omega arith) b ∙ P.zeros (i - 1) (omega arith))
        (λ t. get_or-eq_default l⁺ 0 (omega (arith, nltb→le i (length l) t, long-l)));
  }

  -- ---- v's list

  abbrev a : ℕ
  a = get_or s v 0

  abbrev N : List ℕ
  N = neighbors s l v

  abbrev k : ℕ
  k = p - a

  -- v's part of the links, in which the place lies
  part : (length N ≡ get_or s (v + 1) 0 - a) × (a ≤ get_or s (v + 1) 0) × (get_or s (v + 1) 0 ≤ last_start s)
  part = (neighbors-length s l f v hv, f.step v hv, starts-le f (v + 1) (vertices s) (omega arith) (omega arith))

  abbrev new : List ℕ
  new = take k N ++ w ∷ drop k N

  new-long : length new ≡ length N + 1
  new-long = let own = part in omega (arith, length-append (take k N) (w ∷ drop k N), length-take-le k N (omega arith), length-drop k N)

  -- its links: up to the place the old ones, there w, and behind it the old ones
  put_link : (i : ℕ) → i ≤ length N → get_or l⁺ (a + i) 0 ≡ cond (ltb i k) (get_or N i 0) (cond (eqb i k) w (get_or N (i - 1) 0))
  put_link i h = let own = part in split (ltb i k)
      (λ t. let g = ltb→lt i k t in rw (true_of (ltb i k) t) (before-p (a + i) (omega arith) (omega arith) ∙ sym (neighbor_at f v i hv (omega arith))))
      (λ t. let g = nltb→le i k t in rw (false_of (ltb i k) t) (split (eqb i k)
      (λ q. let e = eqb→eq i k q in rw (true_of (eqb i k) q) (at_p (a + i) (omega arith) (omega arith)))
      (λ q.
      let n = neqb i k q in
      let back : a + i - 1 ≡ a + (i - 1) = omega arith in
      rw (false_of (eqb i k) q) (behind_p (a + i) (omega arith) (omega arith) ∙ ap (λ z. get_or l z 0) back ∙ sym (neighbor_at f v (i - 1) hv (omega arith))))))

  -- w stands in it, at its place
  put_here : neighbors s⁺ l⁺ v ≡ new
  put_here =
      let own = part in
      let first = up_to v (omega arith) in
      let next = behind (v + 1) (omega arith) (omega arith) in
      part_is framed⁺ v new (omega (arith, long-s)) (omega (arith, new-long)) (λ i b.
      ap (λ z. get_or l⁺ (z + i) 0) first ∙ put_link i (omega (arith, new-long)) ∙ sym (put_reads N k w i (omega arith)))

  put_last : get_or s⁺ (vertices s) 0 + length N ≡ last_start s + length new
  put_last = omega (arith, behind (vertices s) (omega arith) (omega (arith, f.some)), new-long)

  -- every other list stays
  put_other : (u : ℕ) → u < vertices s → (v ≡ u → ⊥) → neighbors s⁺ l⁺ u ≡ neighbors s l u
  put_other u hu n =
      let own = neighbors-length s l f u hu in
      let rise = f.step u hu in
      let top = starts-le f (u + 1) (vertices s) (omega arith) (omega arith) in
      split (ltb v u)
      (λ t.
      let g = ltb→lt v u t in
      let first = behind u g (omega arith) in
      let next = behind (u + 1) (omega arith) (omega arith) in
      let far = starts-le f (v + 1) u (omega arith) (omega arith) in
      part_is framed⁺ u (neighbors s l u) (omega (arith, long-s)) (omega arith) (λ i b.
      let q : get_or s u 0 + 1 + i - 1 ≡ get_or s u 0 + i = omega arith in
      ap (λ z. get_or l⁺ (z + i) 0) first
      ∙ behind_p (get_or s u 0 + 1 + i) (omega arith) (omega arith) ∙ ap (λ z. get_or l z 0) q ∙ sym (neighbor_at f u i hu (omega arith))))
      (λ t.
      let g = nltb→le v u t in
      let first = up_to u g in
      let next = up_to (u + 1) (omega arith) in
      let near = starts-le f (u + 1) v (omega arith) (omega arith) in
      part_is framed⁺ u (neighbors s l u) (omega (arith, long-s)) (omega arith) (λ i b.
      ap (λ z. get_or l⁺ (z + i) 0) first
      ∙ before-p (get_or s u 0 + i) (omega arith) (omega arith) ∙ sym (neighbor_at f u i hu (omega arith))))

  pub put_relisted : Relisted s l v new s⁺ l⁺
  put_relisted = record { starts_long = long-s; links_long = long-l; padded = padded⁺; here = put_here; last = put_last; others = put_other }
