-- The call by its guard: what the answer says of it, what it promises where it is passed, and what the rounds then leave. Assumes nothing.
use mathlib.Core.Path.{◌≡◌, refl, ap}
use mathlib.Core.List.{List}
use Prim.Native.Nat.{ℕ, ◌+◌, ◌*◌, ◌≤◌, ◌<◌}
use native.Mathlib.Nat.{mul-le-mul_right}
use native.Mathlib.Omega.{arith}
use lib.ListN.{length, get_or, take}
use lib.Seq.{length-take-le, get_or-take}
use borrow.Author.Tests.{le-ltb, ltb-false}
use Rattle.table.specs.Table.{vertices, check_of}
use Rattle.table.specs.Guard.{Guard, clear, refused_at, answer, past, front}
use Rattle.table.specs.Rule.{Refusal}
use Rattle.table.proofs.Guards.{both-passed}
use Rattle.table.proofs.Laws.{went_on, sound}
use Rattle.pool.specs.Input.{graph_of, anchored_by, Admitted}
use Rattle.text.specs.declared.read.Summary.{Summary}
use Rattle.sheet.specs.Written.{Written}
use Rattle.sheet.proofs.Lines.{sheet_length}
use Rattle.sheet.proofs.Written.{written-front}
use Rattle.rounds.specs.Rounds.{rounds_of}
use Rattle.rounds.proofs.Playing.{rounds-length}
use Rattle.std.specs.Prelude.{Option, Some, None, Ok, Err}
use Rattle.answer.specs.Answer.{size_of, room_of, asked_of, text_of, rounds_sheet, sheet_of_text, answer_of}

module _ (t : List ℕ) (room : ℕ) where
  -- the answer is a refusal only where the guard is
  pub refused-answer : {x : Refusal} → answer_of t room ≡ Err x → text_of t room ≡ Err x
  unfolding answer_of answer
  refused-answer {x} e = by_guard (text_of t room) e
    where
      by_guard : (guard : Guard) → answer guard (Ok (length (sheet_of_text t))) Err ≡ Err x → guard ≡ Err x
      by_guard (Ok tt) e = let z : ◌≡◌ {A = ℕ} 0 1 = cc in absurd (omega arith)
      by_guard (Err y) e = let same : y ≡ x = cc in ap Err same

  -- a sheet is answered only where nothing is refused, and with its length
  pub sheet_answer : {size : ℕ} → answer_of t room ≡ Ok size → (text_of t room ≡ clear) × (length (sheet_of_text t) ≡ size)
  unfolding answer_of answer
  sheet_answer {size} e = by_guard (text_of t room) e
    where
      by_guard : (guard : Guard) → answer guard (Ok (length (sheet_of_text t))) Err ≡ Ok size → (guard ≡ clear) × (length (sheet_of_text t) ≡ size)
      by_guard (Ok tt) e = (refl, cc)
      by_guard (Err y) e = let z : ◌≡◌ {A = ℕ} 0 1 = cc in absurd (omega arith)

-- the size of a sheet of at most 60 rounds is no great number
pub size_small : (rounds n : ℕ) → rounds ≤ 60 → n < 65536 → rounds * (48 + n) < 4000000
size_small rounds n few small = omega (arith, mul-le-mul_right (48 + n) few)

-- past 2 and 3 the table decides, and then the room
pub asked_tabled : (asked : Summary) (s l : List ℕ) (room : ℕ) → asked.riders ≤ 1024 → asked.links ≤ 16384 → asked_of asked s l room ≡ past (check_of s l) (room_of asked room)
unfolding asked_of
asked_tabled asked s l room small few = rw (le-ltb 1024 asked.riders small, le-ltb 16384 asked.links few)

-- what a guard that is passed promises
pub record Granted (asked : Summary) (s l : List ℕ) (room : ℕ) : Type 0 where
  pub small : asked.riders ≤ 1024
  pub few : asked.links ≤ 16384
  pub table : check_of s l ≡ clear
  pub rounds : asked.rounds ≤ 60
  pub enough : size_of asked ≤ room
  pub within : asked.beyond ≡ None

pub granted : (asked : Summary) (s l : List ℕ) (room : ℕ) → asked_of asked s l room ≡ clear → Granted asked s l room
unfolding asked_of
granted asked s l room e =
    let large = went_on _ _ _ _ e in
    let many = went_on _ _ _ _ large.1 in
    let table = both-passed (check_of s l) _ many.1 in
    let rounds = went_on _ _ _ _ table.1 in
    let short = went_on _ _ _ _ rounds.1 in
    record {
      small = ltb-false _ _ large.0;
      few = ltb-false _ _ many.0;
      table = table.0;
      rounds = ltb-false _ _ rounds.0;
      enough = ltb-false _ _ short.0;
      within = none_beyond asked.beyond short.1;
    }
  where
    none_beyond : (b : Option ℕ) → refused_at 15 b ≡ clear → b ≡ None
    none_beyond (Some w) e = absurd (let z : ◌≡◌ {A = ℕ} 0 1 = cc in omega arith)
    none_beyond None e = refl

-- ---- the call on arrays that the table stands at the front of

module _ {asked : Summary} (starts links bytes : List ℕ) {room : ℕ} (roomy : 1025 ≤ length starts) (short : 1024 ≤ length bytes)
    (ones : (v : ℕ) → v < 1024 → get_or bytes v 0 ≤ 1)
    (grant : Granted asked (take (asked.riders + 1) starts) (take asked.links links) room) where
  abbrev s : List ℕ
  s = take (asked.riders + 1) starts

  abbrev l : List ℕ
  l = take asked.links links

  abbrev a : List ℕ
  a = take asked.riders bytes

  vertices-read : vertices s ≡ asked.riders
  vertices-read = omega (arith, length-take-le (asked.riders + 1) starts (omega (arith, grant.small)))

  bytes_read : length a ≡ vertices s
  bytes_read = omega (arith, vertices-read, length-take-le asked.riders bytes (omega (arith, grant.small)))

  -- the rounds may be played
  pub ready : Admitted s l a × (length a ≡ vertices s) × (asked.rounds * (48 + vertices s) ≤ room)
  ready = (
    record {
      table = sound s l grant.table;
      long = omega (arith, bytes_read);
      bytes = λ v h. rw (get_or-take asked.riders bytes v 0 (omega (arith, vertices-read))) (ones v (omega (arith, vertices-read, grant.small)));
    },
    bytes_read,
    rw vertices-read grant.enough,
  )

  -- and leave the sheet with what stood behind it
  pub sheet_written : {old new : List ℕ} {end : ℕ} → length old ≡ room → Written old 0 (rounds_sheet s l (anchored_by a) asked.rounds) new end
      → (end ≡ length (rounds_sheet s l (anchored_by a) asked.rounds)) × (new ≡ front (rounds_sheet s l (anchored_by a) asked.rounds) old)
  sheet_written e p =
      let rounds = rounds_of (graph_of s l) (anchored_by a) asked.rounds in
      let count = rounds-length (graph_of s l) (anchored_by a) asked.rounds in
      written-front p (rw (sheet_length (vertices s) 1 rounds, count, e) ready.2)
