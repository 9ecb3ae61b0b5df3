-- Laws of the whole text: the loop over the riders' lines, and the ways that a reading goes. Assumes nothing.
use mathlib.Core.Path.{◌≡◌, refl, sym, ap, ◌∙◌}
use mathlib.Core.Bool.{Bool, true, false}
use mathlib.Core.List.{List, [], ◌∷◌, flatten, append-nil}
use Prim.Native.Nat.{ℕ, suc, ◌+◌, ◌*◌, ◌-◌, ◌≤◌, ◌<◌}
use native.Mathlib.Omega.{arith}
use native.Mathlib.Numerals.{add-one}
use lib.ListN.{length, set, length-append, length-set}
use lib.Seq.{sets, length-sets}
use lib.Dec.{eqb}
use borrow.Author.Tests.{eqb-true, eqb-false}
use Rattle.std.specs.Prelude.{Option, Some, None, Result, Ok, Err}
use Rattle.finite.proofs.Stores.{sets-append}
use Rattle.lines.specs.List.{first_beyond}
use Rattle.lines.specs.Line.{riders_at, rider_at, retained_at, rounds_at, kept_list}
use Rattle.text.specs.Text.{Lists, more_lists, rider_lines_from, rider_lines_at, starts_from, starts_of, rider_lines_of, rest_of, reading_of, rider_lines_read, retained_line_read}
use Rattle.lines.specs.declared.line.Form.{Form}
use Rattle.lines.specs.declared.line.Line.{Line}
use Rattle.text.specs.declared.read.Summary.{Summary}
use Rattle.lines.proofs.Lines.{list-kept, list_line_departs, rider_long}

-- ---- one rider's line more

module _ (n v : ℕ) (t : List ℕ) (p : ℕ) where
  pub riders-more : (next : ℕ) → v < n → (rider_at t v p).next ≡ Some next → rider_lines_from (n - v) v t p ≡ more_lists (rider_at t v p).values (rider_lines_from (n - (v + 1)) (v + 1) t next)
  unfolding rider_lines_from
  riders-more next h e = let m : n - v ≡ suc (n - (v + 1)) = omega arith in ap (λ (j : ℕ). rider_lines_from j v t p) m ∙ rw e

  riders_departs : v < n → (rider_at t v p).next ≡ None → rider_lines_from (n - v) v t p ≡ record { lists = (rider_at t v p).values ∷ []; next = None }
  unfolding rider_lines_from
  riders_departs h e = let m : n - v ≡ suc (n - (v + 1)) = omega arith in ap (λ (j : ℕ). rider_lines_from j v t p) m ∙ rw e

  riders-end : n ≤ v → rider_lines_from (n - v) v t p ≡ record { lists = []; next = Some p }
  unfolding rider_lines_from
  riders-end h = let m : n - v ≡ 0 = omega arith in ap (λ (j : ℕ). rider_lines_from j v t p) m

pub length-starts : (k : ℕ) (ls : List (List ℕ)) → length (starts_from k ls) ≡ length ls
unfolding starts_from
length-starts k [] = refl
length-starts k (l ∷ ls) = ap suc (length-starts (k + length l) ls)

-- ---- the loop: the lines of riders 0 to v - 1 are read, up to place p, with count links; the next line has the number

-- what the function for all of them owes
abbrev pub RidersDone : List ℕ → ℕ → ℕ → List ℕ → List ℕ → List ℕ → List ℕ → Result (ℕ × ℕ) ℕ → Type 0
RidersDone t n at starts links starts' links' r =
    let lines = rider_lines_at n t at in
    (r ≡ rider_lines_of lines) × ((starts' ≡ sets starts 0 (starts_of lines)) × (links' ≡ sets links 0 (flatten lines.lists)))

pub record Riding (t : List ℕ) (n at : ℕ) (starts₀ links₀ starts links : List ℕ) (p count number v : ℕ) : Type 0 where
  pub below : v ≤ n
  pub numbered : number ≡ v + 2
  pub next : (rider_lines_at n t at).next ≡ (rider_lines_from (n - v) v t p).next
  pub stored : sets links₀ 0 (flatten (rider_lines_at n t at).lists) ≡ sets links count (flatten (rider_lines_from (n - v) v t p).lists)
  pub begun : sets starts₀ 0 (starts_from 0 (rider_lines_at n t at).lists) ≡ sets starts v (starts_from count (rider_lines_from (n - v) v t p).lists)
  pub total : length (flatten (rider_lines_at n t at).lists) ≡ count + length (flatten (rider_lines_from (n - v) v t p).lists)
  pub lines : length (rider_lines_at n t at).lists ≡ v + length (rider_lines_from (n - v) v t p).lists
  pub low : 2 * count ≤ p
  pub inside : p ≤ length t
  pub long_starts : length starts ≡ length starts₀
  pub long_links : length links ≡ length links₀

module _ (t : List ℕ) (n at : ℕ) (starts₀ links₀ starts links : List ℕ) (p count number v : ℕ) (r : Riding t n at starts₀ links₀ starts links p count number v) where
  pub riding_more :
      (starts' links' : List ℕ) (l : Line) (more next : ℕ) → v < n → starts' ≡ set starts v count → links' ≡ sets links count (rider_at t v p).values
      → Some ((l, more), next) ≡ kept_list number (Form.Rider v) (count + length (rider_at t v p).values) (rider_at t v p)
      → Riding t n at starts₀ links₀ starts' links' next more (l.number + 1) (v + 1)
  unfolding flatten starts_from
  riding_more starts' links' l more next h es el ea =
      let vs = (rider_at t v p).values in
      let rest = rider_lines_from (n - (v + 1)) (v + 1) t next in
      let kept = list-kept number (Form.Rider v) (count + length vs) (rider_at t v p) l more next (sym ea) in
      let m : rider_lines_from (n - v) v t p ≡ more_lists (rider_at t v p).values (rider_lines_from (n - (v + 1)) (v + 1) t next) = riders-more n v t p next h kept.0 in
      let far = rider_long t v p next kept.0 in
      record {
        below = omega arith;
        numbered = omega (arith, kept.2, r.numbered);
        next = r.next ∙ ap (λ (x : Lists). x.next) m;
        stored = r.stored ∙ ap (λ (x : Lists). sets links count (flatten x.lists)) m ∙ sym (sets-append links count vs (flatten rest.lists)) ∙ rw (el, kept.1);
        begun = r.begun ∙ ap (λ (x : Lists). sets starts v (starts_from count x.lists)) m ∙ rw (es, kept.1, add-one v);
        total = let q = r.total ∙ ap (λ (x : Lists). count + length (flatten x.lists)) m in omega (arith, q, kept.1, length-append vs (flatten rest.lists));
        lines = let q = r.lines ∙ ap (λ (x : Lists). v + length x.lists) m in omega (arith, q);
        low = omega (arith, r.low, far.0, kept.1);
        inside = far.1;
        long_starts = ap length es ∙ length-set starts v count ∙ r.long_starts;
        long_links = ap length el ∙ length-sets links count vs ∙ r.long_links;
      }

  pub riding_departs :
      (starts' links' : List ℕ) → v < n → starts' ≡ set starts v count → links' ≡ sets links count (rider_at t v p).values
      → None ≡ kept_list number (Form.Rider v) (count + length (rider_at t v p).values) (rider_at t v p)
      → RidersDone t n at starts₀ links₀ starts' links' (Err number)
  unfolding flatten starts_from
  riding_departs starts' links' h es el ea =
      let off = list_line_departs number (Form.Rider v) (count + length (rider_at t v p).values) (rider_at t v p) (sym ea) in
      let m = riders_departs n v t p h off in
      let next : (rider_lines_at n t at).next ≡ None = r.next ∙ ap (λ (y : Lists). y.next) m in
      let lines : 1 + length (rider_lines_at n t at).lists ≡ number = let q = r.lines ∙ ap (λ (y : Lists). v + length y.lists) m in omega (arith, q, r.numbered) in (
        rw (next, lines),
        (
          rw (next, append-nil) (es ∙ sym (r.begun ∙ ap (λ (y : Lists). sets starts v (starts_from count y.lists)) m)),
          el ∙ rw (← append-nil (rider_at t v p).values) (sym (r.stored ∙ ap (λ (y : Lists). sets links count (flatten y.lists)) m)),
        ),
      )

  pub riding_done : (starts' : List ℕ) → n ≤ v → starts' ≡ set starts n count → RidersDone t n at starts₀ links₀ starts' links (Ok (count, p))
  unfolding flatten starts_from
  riding_done starts' h es =
      let all = (rider_lines_at n t at).lists in
      let m = riders-end n v t p h in
      let next : (rider_lines_at n t at).next ≡ Some p = r.next ∙ ap (λ (y : Lists). y.next) m in
      let total : length (flatten (rider_lines_at n t at).lists) ≡ count = let q = r.total ∙ ap (λ (y : Lists). count + length (flatten y.lists)) m in omega (arith, q) in
      let lines : length (rider_lines_at n t at).lists ≡ n = let q = r.lines ∙ ap (λ (y : Lists). v + length y.lists) m in omega (arith, q, r.below) in
      let begun : sets starts₀ 0 (starts_from 0 (rider_lines_at n t at).lists) ≡ starts = r.begun ∙ ap (λ (y : Lists). sets starts v (starts_from count y.lists)) m in
      let last : n ≡ 0 + length (starts_from 0 all) = omega (arith, lines, length-starts 0 all) in (
        rw (next, total),
        (
          rw (next, total) (es ∙ sym (ap (λ (x : List ℕ). set x n count) begun) ∙ ap (λ (j : ℕ). set (sets starts₀ 0 (starts_from 0 all)) j count) last ∙ sets-append starts₀ 0 (starts_from 0 all) (count ∷ [])),
          sym (r.stored ∙ ap (λ (y : Lists). sets links count (flatten y.lists)) m),
        ),
      )

-- ---- the parts read

module _ (t : List ℕ) where
  pub riders-read : (n first : ℕ) → riders_at t 0 ≡ Some (n, first) → rider_lines_read t ≡ rider_lines_at n t first
  unfolding rider_lines_read
  riders-read n first e = rw e

  pub retained-read : (rest : ℕ) → (rider_lines_read t).next ≡ Some rest → retained_line_read t ≡ retained_at t rest
  unfolding retained_line_read
  retained-read rest e = rw e

-- ---- the ways that a reading goes

-- the summary of what was read, by the places of its parts
abbrev pub summed : List ℕ → ℕ → ℕ → ℕ → ℕ → Summary
summed t n first rest rounds = record { riders = n; links = length (flatten (rider_lines_at n t first).lists); beyond = first_beyond n (retained_at t rest).values; rounds = rounds }

pub data Outcome (t : List ℕ) (r : Result Summary ℕ) : Type 0 where
  no_riders : riders_at t 0 ≡ None → r ≡ Err 1 → Outcome t r
  no_rider :
      (n first : ℕ) → riders_at t 0 ≡ Some (n, first) → (rider_lines_at n t first).next ≡ None
      → r ≡ Err (1 + length (rider_lines_at n t first).lists) → Outcome t r
  no_retained :
      (n first rest : ℕ) → riders_at t 0 ≡ Some (n, first) → (rider_lines_at n t first).next ≡ Some rest → (retained_at t rest).next ≡ None
      → r ≡ Err (n + 2) → Outcome t r
  no_rounds :
      (n first rest last : ℕ) → riders_at t 0 ≡ Some (n, first) → (rider_lines_at n t first).next ≡ Some rest → (retained_at t rest).next ≡ Some last
      → rounds_at t last ≡ None → r ≡ Err (n + 3) → Outcome t r
  extra :
      (n first rest last rounds end : ℕ) → riders_at t 0 ≡ Some (n, first) → (rider_lines_at n t first).next ≡ Some rest → (retained_at t rest).next ≡ Some last
      → rounds_at t last ≡ Some (rounds, end) → (end ≡ length t → ⊥) → r ≡ Err (n + 4) → Outcome t r
  whole :
      (n first rest last rounds end : ℕ) → riders_at t 0 ≡ Some (n, first) → (rider_lines_at n t first).next ≡ Some rest → (retained_at t rest).next ≡ Some last
      → rounds_at t last ≡ Some (rounds, end) → end ≡ length t
      → r ≡ Ok (summed t n first rest rounds) → Outcome t r

pub outcome : (t : List ℕ) → Outcome t (reading_of t)
unfolding reading_of rest_of
outcome t = opening (riders_at t 0) refl
  where
    ending : (n first rest last rounds end : ℕ) → riders_at t 0 ≡ Some (n, first) → (rider_lines_at n t first).next ≡ Some rest → (retained_at t rest).next ≡ Some last
        → rounds_at t last ≡ Some (rounds, end) → (b : Bool) → eqb end (length t) ≡ b → Outcome t (reading_of t)
    ending n first rest last rounds end h k l q true e = whole n first rest last rounds end h k l q (eqb-true end (length t) e) (rw (h, k, l, q, e))
    ending n first rest last rounds end h k l q false e = extra n first rest last rounds end h k l q (eqb-false end (length t) e) (rw (h, k, l, q, e))

    rounding : (n first rest last : ℕ) → riders_at t 0 ≡ Some (n, first) → (rider_lines_at n t first).next ≡ Some rest → (retained_at t rest).next ≡ Some last
        → (m : Option (ℕ × ℕ)) → rounds_at t last ≡ m → Outcome t (reading_of t)
    rounding n first rest last h k l None q = no_rounds n first rest last h k l q (rw (h, k, l, q))
    rounding n first rest last h k l (Some (rounds, end)) q = ending n first rest last rounds end h k l q (eqb end (length t)) refl

    retaining : (n first rest : ℕ) → riders_at t 0 ≡ Some (n, first) → (rider_lines_at n t first).next ≡ Some rest → (s : Option ℕ) → (retained_at t rest).next ≡ s → Outcome t (reading_of t)
    retaining n first rest h k None l = no_retained n first rest h k l (rw (h, k, l))
    retaining n first rest h k (Some last) l = rounding n first rest last h k l (rounds_at t last) refl

    riding : (n first : ℕ) → riders_at t 0 ≡ Some (n, first) → (s : Option ℕ) → (rider_lines_at n t first).next ≡ s → Outcome t (reading_of t)
    riding n first h None k = no_rider n first h k (rw (h, k))
    riding n first h (Some rest) k = retaining n first rest h k (retained_at t rest).next refl

    opening : (m : Option (ℕ × ℕ)) → riders_at t 0 ≡ m → Outcome t (reading_of t)
    opening None h = no_riders h (rw h)
    opening (Some (n, first)) h = riding n first h (rider_lines_at n t first).next refl

-- a text that is read whole, by its parts
pub record Whole (t : List ℕ) (s : Summary) : Type 0 where
  pub n : ℕ
  pub first : ℕ
  pub rest : ℕ
  pub last : ℕ
  pub end : ℕ
  pub opened : riders_at t 0 ≡ Some (n, first)
  pub lines : (rider_lines_at n t first).next ≡ Some rest
  pub retained : (retained_at t rest).next ≡ Some last
  pub ended : rounds_at t last ≡ Some (s.rounds, end)
  pub over : end ≡ length t
  pub summary : summed t n first rest s.rounds ≡ s

pub whole_parts : (t : List ℕ) (s : Summary) → reading_of t ≡ Ok s → Whole t s
whole_parts t s e = go (outcome t)
  where
    go : Outcome t (reading_of t) → Whole t s
    go (no_riders h r) = absurd cc
    go (no_rider n first h k r) = absurd cc
    go (no_retained n first rest h k l r) = absurd cc
    go (no_rounds n first rest last h k l q r) = absurd cc
    go (extra n first rest last rounds end h k l q x r) = absurd cc
    go (whole n first rest last rounds end h k l q x r) =
        let read : summed t n first rest rounds ≡ s = cc in
        let same : rounds ≡ s.rounds = ap (λ (x : Summary). x.rounds) read in
        record {
          n = n;
          first = first;
          rest = rest;
          last = last;
          end = end;
          opened = h;
          lines = k;
          retained = l;
          ended = rw same at q;
          over = x;
          summary = rw same at read;
        }
