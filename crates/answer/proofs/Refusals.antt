-- A text is refused with the numbers that document 01 lists for texts, and with no other; with 12 only where there is less room
-- than the longest sheet needs. Assumes nothing.
use mathlib.Core.Path.{◌≡◌, refl, sym, ap, ◌∙◌, subst}
use mathlib.Core.Bool.{Bool, true, false, not, cond, ◌&&◌, ◌||◌}
use mathlib.Core.List.{List, [], ◌∷◌}
use Prim.Native.Nat.{ℕ, ◌+◌, ◌-◌, ◌≤◌, ◌<◌}
use native.Mathlib.Nat.{mul-le-mul_right}
use native.Mathlib.Omega.{arith}
use lib.ListN.{length, get_or}
use lib.Dec.{T, ltb, eqb, ltb→lt, lt→ltb, nltb→le, eqb→eq}
use borrow.Author.Tests.{le-ltb, ne_eqb, eq-eqb}
use Rattle.finite.specs.Search.{any, member, first, NoneBelow}
use Rattle.finite.proofs.Tests.{and_l, and_r, or-e, split, true_of, false_of, neqb}
use Rattle.table.specs.Table.{vertices, bad_start, wrong_end, wrong_step, beyond, looped, unsorted, unreturned, check_of}
use Rattle.table.specs.Guard.{Guard, clear, refused, refused_at, refuse, answer, past}
use Rattle.table.specs.Rule.{Refusal}
use Rattle.table.proofs.Laws.{pass}
use Rattle.text.specs.Text.{reading_of, starts_read, links_read, rider_lines_read}
use Rattle.text.specs.declared.read.Summary.{Summary}
use Rattle.std.specs.Prelude.{Option, Some, None, Result, Ok, Err}
use Rattle.text.proofs.Arrays.{table-read}
use Rattle.answer.specs.Answer.{room_of, size_of, asked_of, text_of, answer_of}
use Rattle.answer.proofs.Answers.{refused-answer}

-- 17, 18, then 2, 3, 5, 6, 7, 8, 11, 12, 15
abbrev pub of_texts : ℕ → Bool
of_texts k = member k (17 ∷ 18 ∷ 2 ∷ 3 ∷ 5 ∷ 6 ∷ 7 ∷ 8 ∷ 11 ∷ 12 ∷ 15 ∷ [])

-- the starts that were read pass test 4
starts_good : (t : List ℕ) {asked : Summary} → reading_of t ≡ Ok asked → NoneBelow (bad_start (starts_read t) (links_read t)) (length (starts_read t))
unfolding bad_start
starts_good t {asked} e i h =
    let laid = table-read t asked e in
    let s = starts_read t in
    let l = links_read t in
    let end : wrong_end s l i ≡ false = split (eqb (i + 1) (length s))
    (λ p.
    let q : i ≡ length (rider_lines_read t).lists = omega (arith, eqb→eq (i + 1) (length s) p, laid.count) in
    rw (true_of (eqb (i + 1) (length s)) p, eq-eqb (get_or s i 0) (length l) (ap (λ j. get_or s j 0) q ∙ laid.last)))
    (λ p. rw (false_of (eqb (i + 1) (length s)) p)) in
    let step : wrong_step s i ≡ false = split (eqb i 0)
    (λ p.
    let q : get_or s i 0 ≡ 0 = ap (λ j. get_or s j 0) (eqb→eq i 0 p) ∙ laid.first in
    rw (true_of (eqb i 0) p, eq-eqb (get_or s i 0) 0 q))
    (λ p.
    let some = neqb i 0 p in
    let q : i - 1 + 1 ≡ i = omega arith in
    let up : get_or s (i - 1) 0 ≤ get_or s i 0 = subst (λ j. get_or s (i - 1) 0 ≤ get_or s j 0) q (laid.step (i - 1) (omega (arith, laid.count))) in
    rw (false_of (eqb i 0) p, le-ltb (get_or s i 0) (get_or s (i - 1) 0) up)) in
    rw (end, step)

-- a number listed, and 12 only where there is room for fewer than 64,320 bytes
abbrev with_room : ℕ → ℕ → Bool
with_room room k = of_texts k && (not (eqb k 12) || ltb room 64320)

module _ (x : Refusal) (room : ℕ) where
  abbrev Listed : Type 0
  Listed = T (with_room room x.number)

  -- a refusal is this one, or comes later
  told : (k p : ℕ) → T (with_room room k) → refused k p ≡ Err x → Listed
  told k p h e = let q : k ≡ x.number = cc in subst (λ j. T (with_room room j)) q h

  next : (b : Bool) (k p : ℕ) (rest : Guard) → (T b → T (with_room room k)) → cond b (refused k p) rest ≡ Err x → (T (not b) → rest ≡ Err x → Listed) → Listed
  next true k p rest h e later = told k p (h tt) e
  next false k p rest h e later = later tt e

  -- the same for a search
  next-found : (k : ℕ) (p : ℕ → Bool) (n : ℕ) (rest : Guard) → T (with_room room k) → refuse k p n rest ≡ Err x → (rest ≡ Err x → Listed) → Listed
  next-found k p n rest h e later = next (ltb (first p n) n) k (first p n) rest (λ t. h) e (λ t. later)

  passed-not : clear ≡ Err x → Listed
  passed-not e = let z : ◌≡◌ {A = ℕ} 0 1 = cc in absurd (omega arith)

  -- a table with a start and no bad one is refused 2, 3, 5, 6, 7 or 8
  table-listed : (s l : List ℕ) → 0 < length s → NoneBelow (bad_start s l) (length s) → check_of s l ≡ Err x → Listed
  unfolding check_of any
  table-listed s l some none e =
      let n = vertices s in
      let eight = refuse 8 (unreturned s l) n clear in
      let seven = refuse 7 (unsorted s l) n eight in
      let six = refuse 6 (looped s l) n seven in
      let five = refuse 5 (beyond s l) n six in
      let four = refuse 4 (bad_start s l) (length s) five in
      let three = cond (ltb 16384 (length l)) (refused 3 0) four in
      next (ltb 1024 n) 2 0 three (λ t. tt) (rw (ne_eqb (length s) 0 (λ q. absurd (omega arith))) at e) (λ t e₂.
      next (ltb 16384 (length l)) 3 0 four (λ t. tt) e₂ (λ t e₃.
      next-found 5 (beyond s l) n six tt (sym (pass 4 (bad_start s l) (length s) five none) ∙ e₃) (λ e₅.
      next-found 6 (looped s l) n seven tt e₅ (λ e₆.
      next-found 7 (unsorted s l) n eight tt e₆ (λ e₇.
      next-found 8 (unreturned s l) n clear tt e₇ passed-not)))))

  -- of at most 1,024 riders and 60 rounds no sheet needs more than 64,320 bytes
  room-listed : (asked : Summary) → asked.riders ≤ 1024 → room_of asked room ≡ Err x → Listed
  unfolding any
  room-listed asked small e =
      next (ltb 60 asked.rounds) 11 0 _ (λ t. tt) e (λ few e₁.
      next (ltb room (size_of asked)) 12 0 _
      (λ t. lt→ltb room 64320 (omega (arith, ltb→lt room (size_of asked) t, mul-le-mul_right (48 + asked.riders) (nltb→le 60 asked.rounds few))))
      e₁ (λ t e₂.
      late asked.beyond e₂))
    where
      late : (b : Option ℕ) → refused_at 15 b ≡ Err x → Listed
      late (Some beyond) e = told 15 beyond tt e
      late None e = passed-not e

  -- of two guards the first refuses, or the second
  either : (first next : Guard) → past first next ≡ Err x → (first ≡ Err x → Listed) → (next ≡ Err x → Listed) → Listed
  unfolding answer
  either (Ok tt) next e f g = g e
  either (Err y) next e f g = f e

  asked-listed : (asked : Summary) (s l : List ℕ) → 0 < length s → NoneBelow (bad_start s l) (length s) → asked_of asked s l room ≡ Err x → Listed
  unfolding asked_of any
  asked-listed asked s l some none e =
      next (ltb 1024 asked.riders) 2 0 _ (λ t. tt) e (λ small e₁.
      next (ltb 16384 asked.links) 3 0 _ (λ t. tt) e₁ (λ t e₂.
      either (check_of s l) (room_of asked room) e₂ (table-listed s l some none) (room-listed asked (nltb→le 1024 asked.riders small))))

  text_listed : (t : List ℕ) → text_of t room ≡ Err x → Listed
  unfolding text_of any
  text_listed t e = next (ltb 65536 (length t)) 17 0 _ (λ s. tt) e (λ s. go (reading_of t) refl)
    where
      go : (c : Result Summary ℕ) → reading_of t ≡ c → ◌≡◌ {A = Guard} (elim c [ Ok asked ↦ asked_of asked (starts_read t) (links_read t) room | Err line ↦ refused 18 line ]) (Err x) → Listed
      go (Ok asked) q e = asked-listed asked (starts_read t) (links_read t) (omega (arith, (table-read t asked q).count)) (starts_good t q) e
      go (Err line) q e = told 18 line tt e

module _ {x : Refusal} (t : List ℕ) (room : ℕ) where
  -- no other number: never 1, 4, 9, 10, 13, 14, 16, 19, 20 or 21
  pub refused-listed : answer_of t room ≡ Err x → T (of_texts x.number)
  refused-listed e = and_l (of_texts x.number) _ (text_listed x room t (refused-answer t room e))

  -- with room for 64,320 bytes no text is refused with 12
  pub room-enough : 64320 ≤ room → answer_of t room ≡ Err x → x.number ≡ 12 → ⊥
  room-enough h e q = or-e (not (eqb x.number 12)) _ (and_r (of_texts x.number) _ (text_listed x room t (refused-answer t room e)))
      (λ s. neqb x.number 12 s q)
      (λ s. absurd (omega (arith, ltb→lt room 64320 s)))
