-- The place of a link in a padded table, and the table after it is put in or taken out there. Assumes nothing.
use mathlib.Core.Path.{◌≡◌, sym, ap, ◌∙◌, subst}
use mathlib.Core.Bool.{Bool}
use mathlib.Core.List.{List, ◌∷◌, ◌++◌}
use Prim.Native.Nat.{ℕ, suc, ◌+◌, ◌-◌, ◌≤◌, ◌<◌}
use native.Mathlib.Omega.{arith}
use lib.ListN.{length, take, drop, get_or}
use lib.Dec.{T, leb, ltb, leb→le, le→leb, nleb→lt, ltb→lt, nltb→le}
use Rattle.std.specs.List.{position}
use Rattle.std.specs.Option.{unwrap_or}
use Rattle.std.proofs.lemmas.List.Sums.{position_or_len_is}
use Rattle.finite.specs.Count.{In, tabulate}
use Rattle.finite.specs.Search.{ascending}
use Rattle.finite.specs.Edits.{insert, remove}
use Rattle.finite.proofs.Tests.{split, true_of, false_of}
use Rattle.finite.proofs.Count.{in_at, at_in}
use Rattle.finite.proofs.Search.{first-le, first_below, first-before, first_passes, first-least, ascending-lt}
use Rattle.finite.proofs.Edits.{insert-place, remove-place}
use Rattle.table.specs.Table.{vertices, neighbors}
use Rattle.table.proofs.Laws.{neighbors-length}
use Rattle.edit.specs.Edit.{last_start, Padded, raised_at, lowered_at, put_at, taken_at, place_of, Relisted}
use Rattle.edit.proofs.Parts.{starts-le}
use Rattle.edit.proofs.Put.{put_relisted}
use Rattle.edit.proofs.Take.{taken_relisted}

-- ---- in one list

module _ (N : List ℕ) (w : ℕ) where
  abbrev k : ℕ
  k = place_of N w

  abbrev reaches : ℕ → Bool
  reaches i = leb w (get_or N i 0)

  pub place-le : k ≤ length N
  place-le = first-le reaches (length N)

  smaller : (i : ℕ) → i < k → get_or N i 0 < w
  smaller i h = nleb→lt w (get_or N i 0) (first-before reaches (length N) i h)

  -- it is the first position where w is reached, or the length
  pub place_found : unwrap_or (position (leb w) N) (length N) ≡ k
  place_found =
      let at = position_or_len_is (leb w) N k 0 place-le (first_below reaches (length N)) (λ h. true_of (reaches k) (first_passes reaches (length N) h)) in
      rw at (split (ltb k (length N))
      (λ t. rw (true_of (ltb k (length N)) t))
      (λ t. rw (false_of (ltb k (length N)) t) (omega (arith, place-le, nltb→le k (length N) t))))

  -- a number that does not stand in the list goes there
  pub placed : (In w N → ⊥) → insert w N ≡ take k N ++ w ∷ drop k N
  placed n = insert-place w N k place-le smaller (λ h.
      let up = leb→le w (get_or N k 0) (first_passes reaches (length N) h) in
      let other : get_or N k 0 ≡ w → ⊥ = λ e. n (subst (λ z. In z N) e (in_at N k 0 h)) in
      omega arith)

  -- one that stands in an ascending list stands there
  pub found : T (ascending N) → In w N → (k < length N) × (get_or N k 0 ≡ w)
  found asc i =
      let r = at_in N w 0 i in
      let j = r.0 in
      let least : k ≤ j = first-least reaches (length N) j (le→leb w (get_or N j 0) (omega (arith, r.2))) in
      let h : k < length N = omega (arith, r.1) in
      let up = leb→le w (get_or N k 0) (first_passes reaches (length N) h) in (
        h,
        split (ltb k j)
            (λ t. absurd (omega (arith, ascending-lt N asc k j (ltb→lt k j t) r.1, r.2)))
            (λ t. let e : k ≡ j = omega (arith, nltb→le k j t) in subst (λ z. get_or N z 0 ≡ w) (sym e) r.2),
      )

  pub removed : T (ascending N) → In w N → remove w N ≡ take k N ++ drop (suc k) N
  removed asc i = let f = found asc i in remove-place w N k f.0 (λ j h e. omega (arith, smaller j h)) f.1

-- ---- in a table

module _ {s l : List ℕ} (P : Padded s l) where
  module _ (v w : ℕ) (hv : v < vertices s) where
    abbrev N : List ℕ
    N = neighbors s l v

    abbrev p : ℕ
    p = get_or s v 0 + place_of N w

    own : length N ≡ get_or s (v + 1) 0 - get_or s v 0
    own = neighbors-length s l P.framed v hv

    -- the place is in v's part, or at its end
    pub place-within : (p ≤ get_or s (v + 1) 0) × (get_or s (v + 1) 0 ≤ last_start s)
    place-within = (
      omega (arith, place-le N w, own, P.framed.step v hv),
      starts-le P.framed (v + 1) (vertices s) (omega arith) (omega arith),
    )

    back : p - get_or s v 0 ≡ place_of N w
    back = omega arith

    -- the link is put in
    pub put_table : last_start s < length l → (In w N → ⊥) → {s' l' : List ℕ} → s' ≡ tabulate (raised_at s v) (length s) → l' ≡ tabulate (put_at l p w) (length l)
        → Relisted s l v (insert w N) s' l'
    put_table room n es el =
        let new = put_relisted P v p w hv (omega arith) place-within.0 room in
        let list : take (p - get_or s v 0) N ++ w ∷ drop (p - get_or s v 0) N ≡ insert w N = ap (λ z. take z N ++ w ∷ drop z N) back ∙ sym (placed N w n) in
        rw (es, el) (subst (λ z. Relisted s l v z (tabulate (raised_at s v) (length s)) (tabulate (put_at l p w) (length l))) list new)

    -- the link is taken out
    module _ (asc : T (ascending N)) (i : In w N) where
      pub place_inside : p < get_or s (v + 1) 0
      place_inside = omega (arith, (found N w asc i).0, own, P.framed.step v hv)

      pub starts-positive : (j : ℕ) → v < j → j < length s → 0 < get_or s j 0
      starts-positive j h b = omega (arith, place_inside, starts-le P.framed (v + 1) j (omega arith) (omega arith))

      pub taken_table : {s' l' : List ℕ} → s' ≡ tabulate (lowered_at s v) (length s) → l' ≡ tabulate (taken_at l p) (length l) → Relisted s l v (remove w N) s' l'
      taken_table es el =
          let new = taken_relisted P v p hv (omega arith) place_inside in
          let list : take (p - get_or s v 0) N ++ drop (suc (p - get_or s v 0)) N ≡ remove w N = ap (λ z. take z N ++ drop (suc z) N) back ∙ sym (removed N w asc i) in
          rw (es, el) (subst (λ z. Relisted s l v z (tabulate (lowered_at s v) (length s)) (tabulate (taken_at l p) (length l))) list new)
