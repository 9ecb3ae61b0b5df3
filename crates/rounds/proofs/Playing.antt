-- A round on a right record, and round after round: what the code holds is what the lines that houses share leave. Assumes nothing.
use Rattle.std.proofs.Common.{Option, Some, None, true, false, IfSome, unwrap_or, option_and_then}
use mathlib.Core.Path.{◌≡◌, refl, sym, ap, ap₂, ◌∙◌, subst}
use mathlib.Core.Bool.{Bool, cond}
use mathlib.Core.List.{List, [], ◌∷◌, ◌++◌}
use Prim.Native.Nat.{ℕ, suc, ◌+◌, ◌*◌, ◌≤◌, ◌<◌}
use native.Mathlib.Nat.{mul-le-mul_right, suc-mul}
use native.Mathlib.Numerals.{add-one}
use native.Mathlib.Omega.{arith}
use lib.ListN.{length, take, get_or, replicate, length-replicate}
use Rattle.std.proofs.lemmas.List.{get_or-take, length-take}
use lib.Dec.{ltb, eqb, ltb→lt, nltb→le}
use Rattle.finite.specs.Count.{tabulate}
use Rattle.finite.proofs.Tests.{and_r, split, neqb}
use Rattle.finite.proofs.Count.{length-tabulate, zeros-at}
use Rattle.table.specs.Table.{vertices}
use Rattle.anchored.specs.Graph.{Graph}
use Rattle.anchored.specs.Followers.{mark}
use Rattle.anchored.specs.Yield.{choice_of}
use Rattle.anchored.specs.Session.{Plain, turn, row_of, after}
use Rattle.anchored.specs.Houses.{Houses, Sharing, free_in, served, after_turn, served_on, after_line, named, after_lines, house_choice}
use Rattle.anchored.proofs.Choice.{choice_of-le, choice_of_passes}
use Rattle.anchored.proofs.Houses.{named_some, named_none, served-le, served_open, open_left, next-lt, lines_more}
use Rattle.pool.specs.Input.{graph_of, anchored_by}
use Rattle.pool.specs.Arrays.{Holds}
use Rattle.records.specs.Record.{Right, plain_of, Stands, Keeps, session_of}
use Rattle.records.specs.Yield.{yield_at}
use Rattle.step.specs.Turn.{Turned}
use Rattle.records.specs.declared.Record.{Record}
use Rattle.step.specs.declared.Stepped.{Stepped}
use Rattle.step.proofs.Steps.{stands-turn, refused-vertex}
use Rattle.sheet.specs.Written.{Written}
use Rattle.sheet.specs.Line.{Round, lifted_by, line_of, sheet_from, sheet_of}
use Rattle.sheet.proofs.Written.{written_as, written-length}
use Rattle.sheet.proofs.Lines.{sheet_length, sheet_turn}
use Rattle.turns.specs.Found.{found_below}
use Rattle.turns.specs.Choice.{choice_by, yield_in}
use Rattle.turns.specs.Turns.{houses_by, quota_by, turns_by}
use Rattle.turns.specs.declared.next.Turns.{Turns as TurnsHeld}
use Rattle.turns.proofs.Found.{found_none, found_value, found_meets}
use Rattle.turns.proofs.Choices.{choice-by}
use Rattle.rounds.specs.Rounds.{round_for, rounds_of, shown}
use Rattle.rounds.specs.Shared.{name_on, shared_after, shared_rounds, sharing_by}
use Rattle.rounds.proofs.Lines.{line_some, line_none}

-- ---- one round

module _ {s l : List ℕ} {kept : Record} (right : Right s l kept) (x number : ℕ) where
  abbrev G : Graph
  G = graph_of s l

  module _ {o : List ℕ} {at : ℕ} {o_now : List ℕ} {end : ℕ} where
    -- the line written is that of the round, for a vertex and for nobody: by the first marks, one a vertex
    pub written-some : (marks : List ℕ) {left : Stepped} → x < vertices s → vertices s ≤ length marks → Holds marks (vertices s) (mark G (anchored_by kept.anchored) x)
        → Turned s l number x kept left
        → Written o at (line_of number (Some x) (lifted_by (take (vertices s) marks)) (length (take (vertices s) marks)) left.row.redone) o_now end
        → Written o at (shown (vertices s) number (round_for G (plain_of kept) x)) o_now end
    written-some marks {left} h long holds turned w =
        let n : length (take (vertices s) marks) ≡ vertices s = omega (arith, length-take (vertices s) marks) in
        let held : Holds (take (vertices s) marks) (vertices s) (mark G (anchored_by kept.anchored) x) = λ v b. get_or-take (vertices s) marks v 0 b ∙ holds v b in
        written_as (line_some G (plain_of kept) x number left.row.redone (take (vertices s) marks) h held (ap (λ z. z.redone) turned.row)) (rw n at w)

    pub written_none : (m : ℕ) → x ≡ vertices s → vertices s ≤ m
        → Written o at (line_of number None (lifted_by (take (vertices s) (replicate m 0))) (length {A = ℕ} (take (vertices s) (replicate m 0))) 0) o_now end
        → Written o at (shown (vertices s) number (round_for G (plain_of kept) x)) o_now end
    written_none m z long w =
        let zeros : List ℕ = replicate m 0 in
        let n : length (take (vertices s) zeros) ≡ vertices s = omega (arith, length-take (vertices s) zeros, length-replicate {A = ℕ} m 0) in
        written_as (line_none G (plain_of kept) x number (take (vertices s) zeros) z (λ v b. get_or-take (vertices s) zeros v 0 b ∙ zeros-at m v)) (rw n at w)

  -- the record after it stands for the turn of x
  pub keeps_some : {left : Stepped} → Turned s l number x kept left → Keeps s l left.kept (turn G number x (plain_of kept))
  keeps_some turned = record { right = turned.right; stands = turned.stands }

  -- a turn of nobody leaves the record as it was
  pub keeps_none : x ≡ vertices s → Keeps s l kept (turn G number x (plain_of kept))
  keeps_none z = keeps_some (refused-vertex right number x (omega arith))

-- ---- the house whose turn it is, and whom it names

module _ {s l : List ℕ} {kept : Record} (right : Right s l kept) (hs : List ℕ) (houses : ℕ) (turns : TurnsHeld) where
  abbrev H : Houses
  H = houses_by hs houses

  abbrev A : ℕ → Bool
  A = anchored_by kept.anchored

  abbrev S : Sharing
  S = sharing_by kept turns

  module _ {c : Option ℕ} (found : c ≡ found_below houses (served H (vertices s) A (turns_by turns))) where
    -- the house found has something left of its quota
    pub turn-left : IfSome c (λ e. (e < houses) × (0 < get_or turns.left e 0))
    turn-left = rw found (found_meets houses (served H (vertices s) A (turns_by turns)) (λ e. (e < houses) × (0 < get_or turns.left e 0))
        (λ h. (h, open_left H (vertices s) A (turns_by turns) (served H (vertices s) A (turns_by turns)) (served_open H (vertices s) A (turns_by turns) h))))

    -- as a number it is the house served
    pub turn-served : turns.next < houses → unwrap_or c houses ≡ served H (vertices s) A (turns_by turns)
    turn-served h = rw found (found_value houses (served H (vertices s) A (turns_by turns)) (served-le H (vertices s) A (turns_by turns) h))

    -- the vertex found is the one that the line names
    pub name_found : {x : Option ℕ} → x ≡ option_and_then (λ e. found_below (vertices s) (choice_by (vertices s) (yield_in hs e (yield_at kept)))) c
        → x ≡ found_below (vertices s) (name_on (graph_of s l) H S)
    unfolding named house_choice
    name_found e = e ∙ ap (option_and_then choice) found ∙ by_house (ltb house houses)
      where
        house : ℕ
        house = served H (vertices s) A (turns_by turns)

        choice : ℕ → Option ℕ
        choice e = found_below (vertices s) (choice_by (vertices s) (yield_in hs e (yield_at kept)))

        by_house : (b : Bool) → option_and_then choice (cond b (Some house) None) ≡ found_below (vertices s) (cond b (choice_of (graph_of s l) A (free_in H A house)) (vertices s))
        by_house true = ap (found_below (vertices s)) (choice-by right hs house)
        by_house false = found_none (vertices s) (omega arith)

  -- it names a vertex that is not anchored, or n
  name_cases : (C : ℕ → Type 0) → C (vertices s) → ((c : ℕ) → C (choice_of (graph_of s l) A (free_in H A c))) → C (name_on (graph_of s l) H S)
  unfolding house_choice
  name_cases C none some = split (ltb (served_on (graph_of s l) H S) houses)
      (λ t. rw (named_some (graph_of s l) H (house_choice (graph_of s l) H) 0 S (ltb→lt (served_on (graph_of s l) H S) houses t)) (some (served_on (graph_of s l) H S)))
      (λ t. rw (named_none (graph_of s l) H (house_choice (graph_of s l) H) 0 S (nltb→le (served_on (graph_of s l) H S) houses t)) none)

  pub name_le : name_on (graph_of s l) H S ≤ vertices s
  name_le = name_cases (λ x. x ≤ vertices s) (omega arith) (λ c. choice_of-le (graph_of s l) A (free_in H A c))

  pub name_free : name_on (graph_of s l) H S < vertices s → get_or kept.anchored (name_on (graph_of s l) H S) 0 ≡ 0
  name_free = name_cases (λ x. x < vertices s → get_or kept.anchored x 0 ≡ 0) (λ h. absurd (omega arith)) (λ c h.
      let x = choice_of (graph_of s l) A (free_in H A c) in
      let other = neqb (get_or kept.anchored x 0) 1 (and_r (eqb-house c x) _ (choice_of_passes (graph_of s l) A (free_in H A c) h)) in
      omega (arith, right.admitted.bytes x h))
    where
      eqb-house : ℕ → ℕ → Bool
      eqb-house c x = eqb (get_or hs x 0) c

  -- so the vertex found is that, and may be anchored
  module _ {x : Option ℕ} (named_x : x ≡ found_below (vertices s) (name_on (graph_of s l) H S)) where
    pub name_value : unwrap_or x (vertices s) ≡ name_on (graph_of s l) H S
    name_value = rw named_x (found_value (vertices s) (name_on (graph_of s l) H S) name_le)

    pub name_open : IfSome x (λ v. (v < vertices s) × (get_or kept.anchored v 0 ≡ 0))
    name_open = rw named_x (found_meets (vertices s) (name_on (graph_of s l) H S) (λ v. (v < vertices s) × (get_or kept.anchored v 0 ≡ 0)) (λ h. (h, name_free h)))

-- ---- round after round

-- there are as many rounds as asked for
pub rounds-length : (G : Graph) (A : ℕ → Bool) (r : ℕ) → length (rounds_of G A r) ≡ r
unfolding rounds_of
rounds-length G A r = length-tabulate _ r

module _ (G : Graph) (H : Houses) (quota : ℕ → ℕ) (A : ℕ → Bool) where
  pub shared_length : (m : ℕ) → length (shared_rounds G H quota A m) ≡ m
  unfolding shared_rounds
  shared_length m = length-tabulate _ m

  -- one round more
  shared_more : (i : ℕ) → let S = shared_after G H quota A i in shared_rounds G H quota A (i + 1) ≡ shared_rounds G H quota A i ++ round_for G S.session (name_on G H S) ∷ []
  unfolding shared_rounds tabulate
  shared_more i = rw add-one

  after_more : (i : ℕ) → let S = shared_after G H quota A i in
      shared_after G H quota A (i + 1) ≡ record { session = turn G (i + 1) (name_on G H S) S.session; turns = after_turn H.count (served_on G H S) S.turns }
  unfolding after_line named house_choice
  after_more i = lines_more G H (house_choice G H) quota A i

-- a line is known by the anchors and the turns
name_same : (G : Graph) (H : Houses) (S P : Sharing) → S.session.anchors ≡ P.session.anchors → S.turns ≡ P.turns → name_on G H S ≡ name_on G H P
unfolding named
name_same G H S P e f = ap₂ (λ A t. name_on G H (record { session = record { anchors = A; stamps = P.session.stamps }; turns = t })) e f

round_same : (G : Graph) (S P : Plain) → S.anchors ≡ P.anchors → (x : ℕ) → round_for G S x ≡ round_for G P x
unfolding round_for row_of
round_same G S P e x = ap (λ A. round_for G (record { anchors = A; stamps = P.stamps }) x) e

module _ (s l given hs quotas : List ℕ) where
  abbrev many : Houses
  many = houses_by hs (length quotas)

  abbrev before : ℕ → Sharing
  before i = shared_after (graph_of s l) many (quota_by quotas) (anchored_by given) i

  abbrev lines : ℕ → List Round
  lines i = shared_rounds (graph_of s l) many (quota_by quotas) (anchored_by given) i

  -- the record and the turns are what the first i lines leave, and these are written
  pub record Playing (out₀ out : List ℕ) (kept : Record) (turns : TurnsHeld) (at i : ℕ) : Type 0 where
    pub keeps : Keeps s l kept (before i).session
    pub turns_held : turns_by turns ≡ (before i).turns
    pub sheet : Written out₀ 0 (sheet_of (vertices s) (lines i)) out at

pub playing_none : {s l given hs quotas out : List ℕ} {kept : Record} {turns : TurnsHeld} → Keeps s l kept (session_of s l given [] 0)
    → turns_by turns ≡ record { next = 0; left = quota_by quotas } → Playing s l given hs quotas out out kept turns 0 0
unfolding after after_lines shared_rounds tabulate sheet_from
playing_none keeps held = record { keeps = keeps; turns_held = held; sheet = record { stored = refl; ends = refl } }

module _ {s l given hs quotas out₀ out : List ℕ} {kept : Record} {turns : TurnsHeld} {at i : ℕ} (now : Playing s l given hs quotas out₀ out kept turns at i) where
  pub playing_length : length out ≡ length out₀
  playing_length = written-length now.sheet

  -- a house is next
  pub playing_next : 0 < length quotas → turns.next < length quotas
  playing_next some = subst (λ t. t.next < length quotas) (sym now.turns_held)
      (next-lt (graph_of s l) (many s l given hs quotas) (house_choice (graph_of s l) (many s l given hs quotas)) (quota_by quotas) (anchored_by given) some i)

  -- there is room for the next line
  pub playing_room : (rounds : ℕ) → i < rounds → rounds * (48 + vertices s) ≤ length out₀ → at + (48 + vertices s) ≤ length out
  playing_room rounds h room =
      let each = 48 + vertices s in
      let up : suc i * each ≤ rounds * each = mul-le-mul_right each (omega arith) in
      let size : length (sheet_of (vertices s) (lines s l given hs quotas i)) ≡ i * each = sheet_length (vertices s) 1 (lines s l given hs quotas i)
      ∙ ap (λ k. k * each) (shared_length (graph_of s l) (many s l given hs quotas) (quota_by quotas) (anchored_by given) i) in
      omega (arith, suc-mul i each, now.sheet.ends, playing_length)

  -- one round more
  pub playing_more : {out_now : List ℕ} {next : Record} {next_turns : TurnsHeld} {at_now : ℕ}
      → let G = graph_of s l in let H = houses_by hs (length quotas) in let x = name_on G H (sharing_by kept turns) in
      Keeps s l next (turn G (i + 1) x (plain_of kept))
      → turns_by next_turns ≡ after_turn (length quotas) (served H (vertices s) (anchored_by kept.anchored) (turns_by turns)) (turns_by turns)
      → Written out at (shown (vertices s) (i + 1) (round_for G (plain_of kept) x)) out_now at_now
      → Playing s l given hs quotas out₀ out_now next next_turns at_now (i + 1)
  playing_more {out_now} {next} {next_turns} {at_now} keeps held line =
      let n = vertices s in
      let G = graph_of s l in
      let H = many s l given hs quotas in
      let S = before s l given hs quotas i in
      let more = after_more G H (quota_by quotas) (anchored_by given) i in
      let anchors = now.keeps.stands.anchors in
      let name = name_same G H (sharing_by kept turns) S anchors now.turns_held in
      record {
        keeps = record {
          right = keeps.right;
          stands = subst (λ P. Stands n next P.session) (sym more) (stands-turn s l now.keeps.stands (i + 1) (name_on G H S)
              (subst (λ x. Stands n next (turn G (i + 1) x (plain_of kept))) name keeps.stands));
        };
        turns_held = held ∙ ap₂ (λ B t. after_turn (length quotas) (served H n B t) t) anchors now.turns_held ∙ ap (λ P. P.turns) (sym more);
        sheet = written_as (ap (sheet_of n) (sym (shared_more G H (quota_by quotas) (anchored_by given) i)))
            (sheet_turn n (lines s l given hs quotas i) now.sheet (round_for G S.session (name_on G H S)) (omega (arith, shared_length G H (quota_by quotas) (anchored_by given) i))
            (written_as (ap (shown n (i + 1)) (round_same G (plain_of kept) S.session anchors (name_on G H (sharing_by kept turns)) ∙ ap (round_for G S.session) name)) line));
      }
