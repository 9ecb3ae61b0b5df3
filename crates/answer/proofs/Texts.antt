-- What was read of a text into arrays is what the text says. Assumes nothing.
use mathlib.Core.Path.{◌≡◌, sym, ap, ◌∙◌, fun_ext}
use mathlib.Core.List.{List}
use Prim.Native.Nat.{ℕ, ◌+◌, ◌≤◌, ◌<◌}
use native.Mathlib.Omega.{arith}
use lib.ListN.{length, get_or, take, replicate, length-replicate, get_or-eq_default}
use lib.Seq.{sets, length-sets, get_or-take}
use lib.Dec.{ltb, eqb, ltb→lt, nltb→le, not_T}
use borrow.Author.Tests.{lt-ltb, le-ltb}
use Rattle.finite.specs.Count.{bit, tabulate, In}
use Rattle.finite.specs.Search.{member}
use Rattle.finite.proofs.Tests.{split, true_of, false_of}
use Rattle.finite.proofs.Count.{length-tabulate, tabulate-at, bit-one, bit_le}
use Rattle.finite.proofs.Search.{member-e}
use Rattle.table.specs.Guard.{refused, answer}
use Rattle.table.specs.Rule.{Refusal}
use Rattle.pool.specs.Input.{anchored_by}
use Rattle.lines.specs.List.{anchor, first_beyond}
use Rattle.text.specs.Text.{reading_of, rider_lines_read, starts_read, links_read, retained_read}
use Rattle.text.specs.declared.read.Summary.{Summary}
use Rattle.std.specs.Prelude.{None, Ok, Err}
use Rattle.text.proofs.Accepted.{accepted}
use Rattle.text.proofs.Arrays.{riders-count, starts-lent, links-lent, length-anchor, anchored-lent, beyond-none}
use Rattle.table.proofs.Guards.{accepted-as}
use Rattle.answer.specs.Answer.{asked_of, text_of, rounds_asked, rounds_sheet, sheet_of_text}
use Rattle.answer.proofs.Answers.{Granted, granted}

-- an array is as long as it was
pub length-read : (room : ℕ) (xs : List ℕ) {new : List ℕ} → new ≡ sets (replicate room 0) 0 xs → length new ≡ room
length-read room xs e = ap length e ∙ length-sets (replicate room 0) 0 xs ∙ length-replicate {A = ℕ} room 0

pub length-bytes : (vs : List ℕ) {new : List ℕ} → new ≡ anchor (replicate 1024 0) vs → length new ≡ 1024
length-bytes vs e = ap length e ∙ length-anchor (replicate 1024 0) vs ∙ length-replicate {A = ℕ} 1024 0

-- each byte read is 0 or 1
pub byte_read : (vs : List ℕ) {new : List ℕ} → new ≡ anchor (replicate 1024 0) vs → (v : ℕ) → v < 1024 → get_or new v 0 ≤ 1
byte_read vs q v h =
    let e = ap (λ xs. get_or xs v 0) q ∙ sym (get_or-take 1024 (anchor (replicate 1024 0) vs) v 0 h) ∙ ap (λ xs. get_or xs v 0) (anchored-lent 1024 1024 vs (omega arith)) ∙ tabulate-at (λ w. bit (member w vs)) 1024 v h in
    omega (arith, bit_le (member v vs))

module _ (t : List ℕ) (room : ℕ) where
  -- a text that is too long, and one that departs from the form
  pub text_long : 65536 < length t → text_of t room ≡ refused 17 0
  unfolding text_of
  text_long h = rw (text_of, lt-ltb 65536 (length t) h)

  pub text_departs : {line : ℕ} → length t ≤ 65536 → reading_of t ≡ Err line → text_of t room ≡ refused 18 line
  unfolding text_of
  text_departs h e = rw (text_of, le-ltb 65536 (length t) h, e)

module _ (t : List ℕ) {asked : Summary} (e : reading_of t ≡ Ok asked) where
  pub text_read : (room : ℕ) → length t ≤ 65536 → text_of t room ≡ asked_of asked (starts_read t) (links_read t) room
  unfolding text_of
  text_read room h = rw (text_of, le-ltb 65536 (length t) h, e)

  pub rounds-read : rounds_asked t ≡ asked.rounds
  unfolding rounds_asked
  rounds-read = rw (rounds_asked, e)

  -- the numbers retained, where none is beyond n, as anchored bytes
  anchors-lent : asked.riders ≤ 1024 → asked.beyond ≡ None → anchored_by (take asked.riders (anchor (replicate 1024 0) (retained_read t))) ≡ (λ v. member v (retained_read t))
  anchors-lent small within =
      let n = asked.riders in
      let vs = retained_read t in
      let bytes = tabulate (λ v. bit (member v vs)) n in
      let sum = (accepted t asked e).summary in
      let count : asked.riders ≡ length (rider_lines_read t).lists = riders-count t asked e in
      let first : asked.beyond ≡ first_beyond n vs = ap (λ (x : Summary). x.beyond) sum ∙ ap (λ (k : ℕ). first_beyond k vs) (sym count) in
      let all : (w : ℕ) → In w vs → w < n = beyond-none n vs (sym first ∙ within) in
      ap anchored_by (anchored-lent 1024 n vs small) ∙ fun_ext (λ v. split (ltb v n)
      (λ p. ap (λ z. eqb z 1) (tabulate-at (λ w. bit (member w vs)) n v (ltb→lt v n p)) ∙ bit-one (member v vs))
      (λ p.
      let far = nltb→le v n p in
      ap (λ z. eqb z 1) (get_or-eq_default bytes 0 (omega (arith, length-tabulate (λ w. bit (member w vs)) n)))
      ∙ sym (false_of (member v vs) (not_T (member v vs) (λ q. absurd (omega (arith, all v (member-e v vs q))))))))

  -- the arrays that were empty and that the text was read into
  module _ {starts links bytes : List ℕ} (hs : starts ≡ sets (replicate 1025 0) 0 (starts_read t)) (hl : links ≡ sets (replicate 16384 0) 0 (links_read t))
      (hb : bytes ≡ anchor (replicate 1024 0) (retained_read t)) where
    abbrev s : List ℕ
    s = take (asked.riders + 1) starts

    abbrev l : List ℕ
    l = take asked.links links

    abbrev written : List ℕ
    written = rounds_sheet s l (anchored_by (take asked.riders bytes)) asked.rounds

    -- the table stands at the front of arrays that have room for it
    starts-front : asked.riders ≤ 1024 → s ≡ starts_read t
    starts-front small = ap (take (asked.riders + 1)) hs ∙ starts-lent t asked e (replicate 1025 0) (omega (arith, length-replicate {A = ℕ} 1025 0))

    links-front : asked.links ≤ 16384 → l ≡ links_read t
    links-front few = ap (take asked.links) hl ∙ links-lent t asked e (replicate 16384 0) (omega (arith, length-replicate {A = ℕ} 16384 0))

    -- so the guard is the text's
    guard_read : (room : ℕ) → length t ≤ 65536 → asked_of asked s l room ≡ text_of t room
    unfolding asked_of
    guard_read room short = split (ltb 1024 asked.riders)
        (λ p. rw (text_read room short, true_of (ltb 1024 asked.riders) p))
        (λ p. split (ltb 16384 asked.links)
        (λ q. rw (text_read room short, false_of (ltb 1024 asked.riders) p, true_of (ltb 16384 asked.links) q))
        (λ q. rw (text_read room short, starts-front (nltb→le 1024 asked.riders p), links-front (nltb→le 16384 asked.links q))))

    -- and so is the sheet
    sheet_read : {room : ℕ} → Granted asked s l room → written ≡ sheet_of_text t
    unfolding sheet_of_text
    sheet_read g = rw (sheet_of_text, starts-front g.small, links-front g.few, hb, anchors-lent g.small g.within, rounds-read)

    -- what follows on the guard for the arrays follows for the text
    pub as_read : {X : Type 0} (room : ℕ) → length t ≤ 65536 → (f : List ℕ → X) (hand : Refusal → X) → answer (asked_of asked s l room) (f written) hand ≡ answer (text_of t room) (f (sheet_of_text t)) hand
    as_read room short f hand =
        accepted-as (asked_of asked s l room) hand (λ passed. ap f (sheet_read (granted asked s l room passed)))
        ∙ ap (λ guard. answer guard (f (sheet_of_text t)) hand) (guard_read room short)
