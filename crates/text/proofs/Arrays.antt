-- What the arrays hold of a text that was read whole: for the caller that lends them. Assumes nothing.
use mathlib.Core.Path.{◌≡◌, refl, sym, ap, ◌∙◌, subst}
use mathlib.Core.Logic.{inl, inr}
use mathlib.Core.Bool.{Bool, true, false, cond, ◌||◌}
use mathlib.Core.List.{List, [], ◌∷◌, ◌++◌, flatten}
use Prim.Native.Nat.{ℕ, zero, suc, ◌+◌, ◌-◌, ◌≤◌, ◌<◌}
use native.Mathlib.Numerals.{add-one}
use native.Mathlib.Omega.{arith}
use lib.ListN.{length, get_or, take, drop, set, replicate, length-append, length-set, length-replicate, take-append-drop}
use lib.Seq.{sets, take_all, take-suc, drop-cons, take-append_seam, drop-append_seam}
use lib.Dec.{T, leb, eqb, leb→le}
use borrow.Author.Tests.{leb-true, leb-false}
use Rattle.std.specs.Prelude.{None, Some, Ok}
use Rattle.finite.specs.Count.{bit, tabulate, In}
use Rattle.finite.specs.Search.{any, member, ascending}
use Rattle.finite.proofs.Count.{flatten_append, tabulate-take, zeros-at, set_reads}
use Rattle.finite.proofs.Search.{scans, ascending_scan}
use Rattle.finite.proofs.Stores.{sets-front}
use Rattle.finite.proofs.Tests.{and_l, and_r, eqb_sym}
use Rattle.lines.specs.List.{first_beyond, anchor}
use Rattle.text.specs.Text.{Lists, starts_from, reading_of, rider_lines_read, starts_read, links_read}
use Rattle.text.specs.declared.read.Summary.{Summary}
use Rattle.text.proofs.Texts.{length-starts, riders-read, whole_parts}
use Rattle.text.proofs.Accepted.{accepted}

-- ---- the starts of some lists, the last being the number of links

abbrev ends : ℕ → List (List ℕ) → List ℕ
ends k ls = starts_from k ls ++ (k + length (flatten ls)) ∷ []

-- a start is the number of links before it
starts-at : (k : ℕ) (ls : List (List ℕ)) (v : ℕ) → v ≤ length ls → get_or (ends k ls) v 0 ≡ k + length (flatten (take v ls))
unfolding starts_from flatten
starts-at k [] zero h = refl
starts-at k [] (suc v) h = absurd (omega arith)
starts-at k (l ∷ ls) zero h = omega arith
starts-at k (l ∷ ls) (suc v) h =
    let all : k + length (l ++ flatten ls) ≡ k + length l + length (flatten ls) = omega (arith, length-append l (flatten ls)) in
    ap (λ (x : ℕ). get_or (starts_from (k + length l) ls ++ x ∷ []) v 0) all ∙ starts-at (k + length l) ls v (omega arith) ∙ omega (arith, length-append l (flatten (take v ls)))

-- the links, parted at list v
parted : (ls : List (List ℕ)) (v : ℕ) → v < length ls → (flatten ls ≡ flatten (take v ls) ++ (get_or ls v [] ++ flatten (drop (suc v) ls))) × (length (flatten (take (v + 1) ls)) ≡ length (flatten (take v ls)) + length (get_or ls v []))
unfolding flatten
parted ls v h = (
  ap flatten (sym (take-append-drop v ls)) ∙ flatten_append (take v ls) (drop v ls) ∙ ap (λ (r : List (List ℕ)). flatten (take v ls) ++ flatten r) (drop-cons ls v [] h),
  let more = ap flatten (ap (λ (j : ℕ). take j ls) (add-one v) ∙ take-suc ls v [] h) ∙ flatten_append (take v ls) (get_or ls v [] ∷ []) in
      ap length more ∙ length-append (flatten (take v ls)) (get_or ls v [] ++ []) ∙ omega (arith, length-append (get_or ls v []) []),
)

-- ---- starts and links of a text that was read whole

-- a table of lists: one start more than lists, from 0 on, none below the one before, the last the number of links, and list v from start v up to start v + 1
pub record Laid (starts links : List ℕ) (lists : List (List ℕ)) : Type 0 where
  pub count : length starts ≡ length lists + 1
  pub first : get_or starts 0 0 ≡ 0
  pub step : (v : ℕ) → v < length lists → get_or starts v 0 ≤ get_or starts (v + 1) 0
  pub last : get_or starts (length lists) 0 ≡ length links
  pub part : (v : ℕ) → v < length lists → take (get_or starts (v + 1) 0 - get_or starts v 0) (drop (get_or starts v 0) links) ≡ get_or lists v []

laid : (ls : List (List ℕ)) → Laid (ends 0 ls) (flatten ls) ls
unfolding flatten
laid ls =
    record {
      count = length-append (starts_from 0 ls) ((0 + length (flatten ls)) ∷ []) ∙ omega (arith, length-starts 0 ls);
      first = starts-at 0 ls 0 (omega arith);
      step = λ v h. omega (arith, starts-at 0 ls v (omega arith), starts-at 0 ls (v + 1) (omega arith), (parted ls v h).1);
      last = starts-at 0 ls (length ls) (omega arith) ∙ omega (arith, ap (λ (r : List (List ℕ)). length (flatten r)) (take_all (length ls) ls (omega arith)));
      part = λ v h.
          let a = flatten (take v ls) in
          let b = get_or ls v [] in
          let p = parted ls v h in
          let here : get_or (ends 0 ls) v 0 ≡ length a = starts-at 0 ls v (omega arith) ∙ omega arith in
          let size : get_or (ends 0 ls) (v + 1) 0 - get_or (ends 0 ls) v 0 ≡ length b = omega (arith, starts-at 0 ls (v + 1) (omega arith), here, p.1) in
          rw (size, here, p.0, drop-append_seam a (b ++ flatten (drop (suc v) ls)), take-append_seam b (flatten (drop (suc v) ls)));
    }

-- all the riders' lines were read
lines-read : (t : List ℕ) (s : Summary) → reading_of t ≡ Ok s → (rest : ℕ) × ((rider_lines_read t).next ≡ Some rest)
lines-read t s e = let w = whole_parts t s e in (w.rest, ap (λ (r : Lists). r.next) (riders-read t w.n w.first w.opened) ∙ w.lines)

module _ (t : List ℕ) (s : Summary) (e : reading_of t ≡ Ok s) where
  -- the numbers answered are those of the lists
  pub riders-count : s.riders ≡ length (rider_lines_read t).lists
  riders-count = ap (λ (x : Summary). x.riders) (accepted t s e).summary

  pub links-count : s.links ≡ length (links_read t)
  links-count = ap (λ (x : Summary). x.links) (accepted t s e).summary

  -- starts and links are the table of the lists: refusal 4 cannot occur
  pub table-read : Laid (starts_read t) (links_read t) (rider_lines_read t).lists
  table-read =
      let ls = (rider_lines_read t).lists in
      let starts : starts_read t ≡ ends 0 (rider_lines_read t).lists = rw (lines-read t s e).1 (ap (λ (x : ℕ). starts_from 0 ls ++ x ∷ []) (omega arith)) in
      rw starts (laid ls)

  -- the lent arrays begin with the starts and the links, where they have room for them
  pub starts-lent : (starts : List ℕ) → s.riders < length starts → take (s.riders + 1) (sets starts 0 (starts_read t)) ≡ starts_read t
  starts-lent starts h =
      let count : s.riders + 1 ≡ length (starts_read t) = omega (arith, riders-count, table-read.count) in
      ap (λ (k : ℕ). take k (sets starts 0 (starts_read t))) count ∙ sets-front starts (starts_read t) (omega arith)

  pub links-lent : (links : List ℕ) → s.links ≤ length links → take s.links (sets links 0 (links_read t)) ≡ links_read t
  links-lent links h = ap (λ (k : ℕ). take k (sets links 0 (links_read t))) links-count ∙ sets-front links (links_read t) (omega (arith, links-count))

-- ---- the anchored bytes

-- as many as before
pub length-anchor : (bytes vs : List ℕ) → length (anchor bytes vs) ≡ length bytes
length-anchor bytes [] = refl
length-anchor bytes (v ∷ vs) = length-anchor (set bytes v 1) vs ∙ length-set bytes v 1

-- a byte is 1 where its number stands in the list, and else as it was
anchor-at : (bytes vs : List ℕ) (v : ℕ) → v < length bytes → get_or (anchor bytes vs) v 0 ≡ cond (member v vs) 1 (get_or bytes v 0)
unfolding any
anchor-at bytes [] v h = refl
anchor-at bytes (x ∷ xs) v h =
    anchor-at (set bytes x 1) xs v (omega (arith, length-set bytes x 1)) ∙ rw (set_reads bytes x 1 v (λ e. omega arith), eqb_sym x v) (by_case (eqb v x) (any (eqb v) xs) (get_or bytes v 0))
  where
    by_case : (a b : Bool) (byte : ℕ) → cond b 1 (cond a 1 byte) ≡ cond (a || b) 1 byte
    by_case true true byte = refl
    by_case true false byte = refl
    by_case false true byte = refl
    by_case false false byte = refl

-- bytes that were 0: those of the first n numbers say which of them stand in the list
pub anchored-lent : (room n : ℕ) (vs : List ℕ) → n ≤ room → take n (anchor (replicate room 0) vs) ≡ tabulate (λ v. bit (member v vs)) n
anchored-lent room n vs h =
    let zeros = length-replicate {A = ℕ} room 0 in
    tabulate-take (λ v. bit (member v vs)) (anchor (replicate room 0) vs) n (omega (arith, length-anchor (replicate room 0) vs, zeros))
    (λ v b. anchor-at (replicate room 0) vs v (omega (arith, zeros)) ∙ rw (zeros-at room v) (by_case (member v vs)))
  where
    by_case : (b : Bool) → cond b 1 0 ≡ bit b
    by_case true = refl
    by_case false = refl

-- ---- the first retained number of n or more

-- where there is none, every number is below n
pub beyond-none : (n : ℕ) (vs : List ℕ) → first_beyond n vs ≡ None → (w : ℕ) → In w vs → w < n
beyond-none n [] h w i = absurd i
beyond-none n (v ∷ vs) h w i = go (leb n v) refl h i (beyond-none n vs)
  where
    go : (b : Bool) → leb n v ≡ b → cond b (Some v) (first_beyond n vs) ≡ None → In w (v ∷ vs) → (first_beyond n vs ≡ None → (x : ℕ) → In x vs → x < n) → w < n
    go true e h i ih = absurd cc
    go false e h (inl q) ih = omega (arith, leb-false n v e)
    go false e h (inr m) ih = ih h w m

-- where there is one, it is a number of n or more in the list
pub beyond-some : (n : ℕ) (vs : List ℕ) (b : ℕ) → first_beyond n vs ≡ Some b → In b vs × (n ≤ b)
beyond-some n [] b h = absurd cc
beyond-some n (v ∷ vs) b h = go (leb n v) refl h (beyond-some n vs b)
  where
    go : (c : Bool) → leb n v ≡ c → cond c (Some v) (first_beyond n vs) ≡ Some b → (first_beyond n vs ≡ Some b → In b vs × (n ≤ b)) → In b (v ∷ vs) × (n ≤ b)
    go true e h ih = let q : b ≡ v = cc in (inl q, omega (arith, leb-true n v e))
    go false e h ih = let r = ih h in (inr r.0, r.1)

scans-le : (least : ℕ) (vs : List ℕ) → T (scans least vs) → (w : ℕ) → In w vs → least ≤ w
scans-le least [] s w i = absurd i
scans-le least (v ∷ vs) s w (inl e) = omega (arith, leb→le least v (and_l (leb least v) _ s))
scans-le least (v ∷ vs) s w (inr m) = omega (arith, leb→le least v (and_l (leb least v) _ s), scans-le (v + 1) vs (and_r (leb least v) _ s) w m)

scans-least : (n least : ℕ) (vs : List ℕ) → T (scans least vs) → (w : ℕ) → In w vs → n ≤ w → (b : ℕ) × (first_beyond n vs ≡ Some b) × (b ≤ w)
scans-least n least [] s w i h = absurd i
scans-least n least (v ∷ vs) s w i h = go (leb n v) refl i (λ m. scans-least n (v + 1) vs (and_r (leb least v) _ s) w m h)
  where
    go : (c : Bool) → leb n v ≡ c → In w (v ∷ vs) → (In w vs → (b : ℕ) × (first_beyond n vs ≡ Some b) × (b ≤ w)) → (b : ℕ) × (cond c (Some v) (first_beyond n vs) ≡ Some b) × (b ≤ w)
    go true e (inl q) ih = (v, refl, omega arith)
    go true e (inr m) ih = (v, refl, omega (arith, scans-le (v + 1) vs (and_r (leb least v) _ s) w m))
    go false e (inl q) ih = absurd (omega (arith, leb-false n v e))
    go false e (inr m) ih = ih m

-- and the lowest such, as the list ascends
pub beyond-least : (n : ℕ) (vs : List ℕ) → T (ascending vs) → (w : ℕ) → In w vs → n ≤ w → (b : ℕ) × (first_beyond n vs ≡ Some b) × (b ≤ w)
beyond-least n vs a = scans-least n 0 vs (subst T (ascending_scan vs) a)
