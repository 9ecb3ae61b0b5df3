-- Starts and links as they are stored: one link more or less behind a vertex, one put in at a place or taken out, zeros at the end. Assumes nothing.
use mathlib.Core.Path.{◌≡◌, sym, ap, ◌∙◌}
use mathlib.Core.Bool.{cond}
use mathlib.Core.List.{List}
use Prim.Native.Nat.{ℕ, ◌+◌, ◌-◌, ◌≤◌, ◌<◌}
use native.Mathlib.Omega.{arith}
use lib.ListN.{length, get_or, set, replicate, length-set, length-append, length-drop, length-replicate}
use lib.Seq.{ext_get_or, length-take-le}
use borrow.Rule.Slice.PartMut.{put_mid}
use borrow.Author.Rules.{rules}
use Rattle.std.proofs.lemmas.List.{places}
use lib.Dec.{ltb, eqb, ltb→lt, nltb→le, eqb→eq}
use borrow.Author.Tests.{lt-ltb, le-ltb, eq-eqb, ne_eqb}
use Rattle.std.specs.List.{SameBelow, SameFrom, CopiedTo}
use Rattle.finite.specs.Count.{bit, tabulate}
use Rattle.finite.proofs.Tests.{split, true_of, false_of, neqb}
use Rattle.finite.proofs.Count.{length-tabulate, tabulate-at, set_reads, zeros-at}
use Rattle.edit.specs.Edit.{raised_at, lowered_at, put_at, taken_at}
use Rattle.edit.specs.Lent.{zeroed_at}

-- a list that holds f at each of its places is the table of f
pub stored : (f : ℕ → ℕ) (e : List ℕ) (n : ℕ) → length e ≡ n → ((i : ℕ) → i < n → get_or e i 0 ≡ f i) → e ≡ tabulate f n
stored f e n long reads =
    let all = length-tabulate f n in
    ext_get_or 0 e (tabulate f n) (omega arith) (λ i h. let b : i < n = omega arith in reads i b ∙ sym (tabulate-at f n i b))

-- the same list with x stored at place p
stored_at : (f : ℕ → ℕ) (m : List ℕ) (p x n : ℕ) → length m ≡ n → p < n → x ≡ f p → ((i : ℕ) → (p ≡ i → ⊥) → i < n → get_or m i 0 ≡ f i) → set m p x ≡ tabulate f n
stored_at f m p x n long h e reads = stored f (set m p x) n (omega (arith, length-set m p x)) (λ i b. set_reads m p x i (λ q. omega arith) ∙ split (eqb p i)
    (λ t. rw (true_of (eqb p i) t) (e ∙ ap f (eqb→eq p i t)))
    (λ t. rw (false_of (eqb p i) t) (reads i (neqb p i t) b)))

-- ---- starts

module _ (s e : List ℕ) (v : ℕ) (long : length e ≡ length s) (before : (i : ℕ) → i ≤ v → get_or e i 0 ≡ get_or s i 0) where
  pub raised : ((i : ℕ) → v < i → i < length s → get_or e i 0 ≡ get_or s i 0 + 1) → e ≡ tabulate (raised_at s v) (length s)
  raised behind = stored (raised_at s v) e (length s) long (λ i b. split (ltb v i)
      (λ t. omega (arith, behind i (ltb→lt v i t) b, ap bit (true_of (ltb v i) t)))
      (λ t. omega (arith, before i (nltb→le v i t), ap bit (false_of (ltb v i) t))))

  pub lowered : ((i : ℕ) → v < i → i < length s → get_or e i 0 ≡ get_or s i 0 - 1) → e ≡ tabulate (lowered_at s v) (length s)
  lowered behind = stored (lowered_at s v) e (length s) long (λ i b. split (ltb v i)
      (λ t. omega (arith, behind i (ltb→lt v i t) b, ap bit (true_of (ltb v i) t)))
      (λ t. omega (arith, before i (nltb→le v i t), ap bit (false_of (ltb v i) t))))

-- ---- links

module _ (l : List ℕ) (p w : ℕ) where
  put_before : (j : ℕ) → j < p → put_at l p w j ≡ get_or l j 0
  put_before j h = ap (λ t. cond t (get_or l j 0) (cond (eqb j p) w (get_or l (j - 1) 0))) (lt-ltb j p h)

  put_here : put_at l p w p ≡ w
  put_here =
      ap (λ t. cond t (get_or l p 0) (cond (eqb p p) w (get_or l (p - 1) 0))) (le-ltb p p (omega arith))
      ∙ ap (λ t. cond t w (get_or l (p - 1) 0)) (eq-eqb p p (omega arith))

  put_behind : (j : ℕ) → p < j → put_at l p w j ≡ get_or l (j - 1) 0
  put_behind j h =
      ap (λ t. cond t (get_or l j 0) (cond (eqb j p) w (get_or l (j - 1) 0))) (le-ltb j p (omega arith))
      ∙ ap (λ t. cond t w (get_or l (j - 1) 0)) (ne_eqb j p (λ e. absurd (omega arith)))

  -- the links from p on are moved up by one, and w is stored there; behind the last link all are zeros, moved or not
  pub opened : (m : List ℕ) (last : ℕ) → p ≤ last → last < length l → ((i : ℕ) → last ≤ i → get_or l i 0 ≡ 0) → length m ≡ length l
      → CopiedTo l m p (p + 1) (last - p) × SameBelow l m (p + 1) × SameFrom l m (p + 1 + (last - p)) → set m p w ≡ tabulate (put_at l p w) (length l)
  opened m last h b zeros long moves = stored_at (put_at l p w) m p w (length l) long (omega arith) (sym put_here) (λ i other k. split (ltb i p)
      (λ t. let before = ltb→lt i p t in moves.1 i 0 (omega arith) ∙ sym (put_before i before))
      (λ t. let behind : p < i = omega (arith, nltb→le i p t) in split (ltb last i)
      (λ u. let far = ltb→lt last i u in moves.2 i 0 (omega arith) ∙ zeros i (omega arith) ∙ sym (put_behind i behind ∙ zeros (i - 1) (omega arith)))
      (λ u.
      let near = nltb→le last i u in
      let back : p + (i - (p + 1)) ≡ i - 1 = omega arith in
      moves.0 i 0 (omega arith) (omega arith) ∙ ap (λ z. get_or l z 0) back ∙ sym (put_behind i behind))))

module _ (l : List ℕ) (p : ℕ) where
  taken_before : (j : ℕ) → j < p → taken_at l p j ≡ get_or l j 0
  taken_before j h = ap (λ t. cond t (get_or l j 0) (get_or l (j + 1) 0)) (lt-ltb j p h)

  taken_from : (j : ℕ) → p ≤ j → taken_at l p j ≡ get_or l (j + 1) 0
  taken_from j h = ap (λ t. cond t (get_or l j 0) (get_or l (j + 1) 0)) (le-ltb j p h)

  -- the links behind p are moved down by one, and the last one gets a zero; behind it all are zeros
  pub closed : (m : List ℕ) (last : ℕ) → p < last → last ≤ length l → ((i : ℕ) → last ≤ i → get_or l i 0 ≡ 0) → length m ≡ length l
      → CopiedTo l m (p + 1) p (last - (p + 1)) × SameBelow l m p × SameFrom l m (p + (last - (p + 1))) → set m (last - 1) 0 ≡ tabulate (taken_at l p) (length l)
  closed m last h b zeros long moves = stored_at (taken_at l p) m (last - 1) 0 (length l) long (omega arith) (sym (taken_from (last - 1) (omega arith) ∙ zeros (last - 1 + 1) (omega arith)))
      (λ i other k. split (ltb i p)
      (λ t. let before = ltb→lt i p t in moves.1 i 0 before ∙ sym (taken_before i before))
      (λ t. let behind = nltb→le i p t in split (ltb i last)
      (λ u.
      let near = ltb→lt i last u in
      let back : p + 1 + (i - p) ≡ i + 1 = omega arith in
      moves.0 i 0 behind (omega arith) ∙ ap (λ z. get_or l z 0) back ∙ sym (taken_from i behind))
      (λ u. let far = nltb→le i last u in moves.2 i 0 (omega arith) ∙ zeros i far ∙ sym (taken_from i behind ∙ zeros (i + 1) (omega arith)))))

-- ---- zeros

-- the part from `last` on is overwritten with zeros
pub zeroed : (l part : List ℕ) (last : ℕ) → last ≤ length l → part ≡ replicate (length l - last) 0 → put_mid last (length l - last) l part ≡ tabulate (zeroed_at l last) (length l)
zeroed l part last h e =
    let many : length part ≡ length l - last = ap length e ∙ length-replicate {A = ℕ} (length l - last) 0 in
    let long : length (put_mid last (length l - last) l part) ≡ length l = simp (length-append, length-drop) (omega (arith, length-take-le last l h)) in
    stored (zeroed_at l last) (put_mid last (length l - last) l part) (length l) long (λ i b. split (ltb i last)
    (λ t.
    let before = ltb→lt i last t in
    let same : get_or (put_mid last (length l - last) l part) i 0 ≡ get_or l i 0 = search (rules, places) in
    same ∙ sym (ap (λ z. cond z (get_or l i 0) 0) (lt-ltb i last before)))
    (λ t.
    let from = nltb→le i last t in
    let here : get_or (put_mid last (length l - last) l part) i 0 ≡ get_or part (i - last) 0 = search (rules, places) in
    here ∙ ap (λ z. get_or z (i - last) 0) e ∙ zeros-at (length l - last) (i - last) ∙ sym (ap (λ z. cond z (get_or l i 0) 0) (le-ltb i last from))))
