-- The texts that are read whole are exactly those that document 01's form spells for a well-formed content. Assumes nothing.
use mathlib.Core.Path.{◌≡◌, refl, sym, ap, ◌∙◌, subst}
use mathlib.Core.Logic.{◌↔◌, inl, inr, ⊎_elim}
use mathlib.Core.List.{List, [], ◌∷◌, ◌++◌, flatten, append_assoc, append-nil}
use Prim.Native.Nat.{ℕ, zero, suc, ◌+◌, ◌≤◌}
use native.Mathlib.Nat.{zero-add, add-zero, suc-add}
use native.Mathlib.Omega.{arith}
use lib.ListN.{length, drop, length-drop}
use lib.Seq.{drop-length}
use lib.Dec.{T}
use borrow.Author.Tests.{eq-eqb}
use Rattle.std.specs.Prelude.{Option, Some, None, Ok}
use Rattle.finite.specs.Bytes.{bytes, decimal}
use Rattle.finite.specs.Count.{In}
use Rattle.finite.specs.Search.{ascending}
use Rattle.finite.proofs.Tests.{true_of, of_true}
use Rattle.finite.proofs.Count.{in_append, flatten_append}
use Rattle.reader.specs.Form.{on_next, form_at}
use Rattle.lines.specs.List.{Numbers, list_at}
use Rattle.lines.specs.Line.{riders_at, rider_at, retained_at, rounds_at}
use Rattle.text.specs.Text.{Lists, more_lists, rider_lines_from, rider_lines_at, rest_of, reading_of, links_read, retained_read}
use Rattle.text.specs.Spelling.{spelled_list, riders_line, rider_line, retained_line, rounds_line, rider_lines, Content, lines_of, spell, WellFormed, summary_of, content_of}
use Rattle.text.specs.declared.read.Summary.{Summary}
use Rattle.reader.proofs.Numbers.{number_small}
use Rattle.reader.proofs.Forms.{form_parts, form_in}
use Rattle.lines.proofs.Lines.{rider_head, rider_with, rider_tail, retained_head, line_tail, rider_parts, retained_parts}
use Rattle.text.proofs.Texts.{riders-read, retained-read, whole_parts}
use Rattle.text.proofs.Spelling.{skip_text, form_text, list_text, list-small, past, skip_spelled, form_spelled, list_spelled}

-- every number of a list is at most 65,535
abbrev pub Small : List ℕ → Type 0
Small l = (w : ℕ) → In w l → w ≤ 65535

-- ---- each line that is read is spelled

-- a number that a form has is at most 65,535
form_small : (t : List ℕ) (p : ℕ) (head tail : List ℕ) (v c : ℕ) → form_at t p head tail ≡ Some (v, c) → v ≤ 65535
form_small t p head tail v c e = let f = form_parts t p head tail v c e in number_small t f.first v f.last f.number

-- three parts and five parts with a rest behind them
pub regroup_three : (a b c rest : List ℕ) → a ++ (b ++ (c ++ rest)) ≡ (a ++ (b ++ c)) ++ rest
regroup_three a b c rest = simp append_assoc

pub regroup_five : (a b c d e rest : List ℕ) → a ++ (b ++ (c ++ (d ++ (e ++ rest)))) ≡ (a ++ (b ++ (c ++ (d ++ e)))) ++ rest
regroup_five a b c d e rest = simp append_assoc

-- (riders n)
pub riders_text : (t : List ℕ) (p n c : ℕ) → riders_at t p ≡ Some (n, c) → (drop p t ≡ riders_line n ++ drop c t) × (n ≤ 65535)
unfolding riders_line
riders_text t p n c e =
    let head = bytes "(riders " in
    (form_text t p head line_tail n c e ∙ regroup_three head (decimal n) line_tail (drop c t), form_small t p head line_tail n c e)

-- (rounds r)
pub rounds_text : (t : List ℕ) (p r c : ℕ) → rounds_at t p ≡ Some (r, c) → (drop p t ≡ rounds_line r ++ drop c t) × (r ≤ 65535)
unfolding rounds_line
rounds_text t p r c e =
    let head = bytes "(rounds " in
    (form_text t p head line_tail r c e ∙ regroup_three head (decimal r) line_tail (drop c t), form_small t p head line_tail r c e)

-- (rider v (with ..))
pub rider_text : (t : List ℕ) (v p c : ℕ) → (rider_at t v p).next ≡ Some c → (drop p t ≡ rider_line v (rider_at t v p).values ++ drop c t) × Small (rider_at t v p).values
unfolding rider_line
rider_text t v p c e =
    let r = rider_parts t v p c e in
    let vs = (list_at t r.first).values in (
      form_text t p rider_head rider_with v r.first r.opened
          ∙ rw (list_text t r.first r.last r.list, skip_text t r.last rider_tail c r.shut, r.values) (regroup_five rider_head (decimal v) rider_with (spelled_list vs) rider_tail (drop c t)),
      λ w i. list-small t r.first w (subst (In w) r.values i),
    )

-- (retained ..), ascending
pub retained_text : (t : List ℕ) (p c : ℕ) → (retained_at t p).next ≡ Some c
    → (drop p t ≡ retained_line (retained_at t p).values ++ drop c t) × Small (retained_at t p).values × T (ascending (retained_at t p).values)
unfolding retained_line
retained_text t p c e =
    let r = retained_parts t p c e in
    let vs = (list_at t r.first).values in (
      skip_text t p retained_head r.first r.opened
          ∙ rw (list_text t r.first r.last r.list, skip_text t r.last line_tail c r.shut, r.values) (regroup_three retained_head (spelled_list vs) line_tail (drop c t)),
      λ w i. list-small t r.first w (subst (In w) r.values i),
      of_true (ascending (retained_at t p).values) (ap ascending r.values ∙ r.sorted),
    )

-- the lines of m riders
pub record RidersText (m v : ℕ) (t : List ℕ) (p : ℕ) (ls : List (List ℕ)) (c : ℕ) : Type 0 where
  pub text : drop p t ≡ flatten (rider_lines v ls) ++ drop c t
  pub lines : length ls ≡ m
  pub small : Small (flatten ls)

pub rider_lines_text : (m v : ℕ) (t : List ℕ) (p c : ℕ) → (rider_lines_from m v t p).next ≡ Some c → RidersText m v t p (rider_lines_from m v t p).lists c
unfolding rider_lines_from rider_lines flatten
rider_lines_text zero v t p c e = let z : p ≡ c = cc in record { text = ap (λ (q : ℕ). drop q t) z; lines = refl; small = λ w i. absurd i }
rider_lines_text (suc m) v t p c e = go (rider_at t v p).next refl (λ d k. rider_lines_text m (v + 1) t d c k) e
  where
    go : (s : Option ℕ) → (rider_at t v p).next ≡ s → ((d : ℕ) → (rider_lines_from m (v + 1) t d).next ≡ Some c → RidersText m (v + 1) t d (rider_lines_from m (v + 1) t d).lists c)
        → (on_next s (λ q. more_lists (rider_at t v p).values (rider_lines_from m (v + 1) t q)) (record { lists = (rider_at t v p).values ∷ []; next = None })).next ≡ Some c
        → RidersText (suc m) v t p (on_next s (λ q. more_lists (rider_at t v p).values (rider_lines_from m (v + 1) t q)) (record { lists = (rider_at t v p).values ∷ []; next = None })).lists c
    go None k ih e = absurd cc
    go (Some d) k ih e =
        let vs = (rider_at t v p).values in
        let ls = (rider_lines_from m (v + 1) t d).lists in
        let first = rider_text t v p d k in
        let rest = ih d e in
        record {
          text = first.0 ∙ rw rest.text (sym (append_assoc (rider_line v vs) (flatten (rider_lines (v + 1) ls)) (drop c t)));
          lines = ap suc rest.lines;
          small = λ w i. ⊎_elim (first.1 w) (rest.small w) ((in_append vs (flatten ls) w).0 i);
        }

-- ---- the theorem, one way: a text that is read whole is the one that its content spells

-- the text by its parts
pub spell_parts : (c : Content) → spell c ≡ riders_line (length c.lists) ++ (flatten (rider_lines 0 c.lists) ++ (retained_line c.retained ++ rounds_line c.rounds))
unfolding spell lines_of flatten
spell_parts c =
    ap (λ (l : List ℕ). riders_line (length c.lists) ++ l)
    (flatten_append (rider_lines 0 c.lists) (retained_line c.retained ∷ rounds_line c.rounds ∷ []) ∙ rw (append-nil (rounds_line c.rounds)))

-- a text is the spelling of a well-formed content, which has the summary
pub record Spells (c : Content) (t : List ℕ) (s : Summary) : Type 0 where
  pub well_formed : WellFormed c
  pub text : t ≡ spell c
  pub summary : s ≡ summary_of c

-- what was read is the content of the text
content_read : (t : List ℕ) (n first rest : ℕ) (s : Summary) → riders_at t 0 ≡ Some (n, first) → (rider_lines_at n t first).next ≡ Some rest
    → record { lists = (rider_lines_at n t first).lists; retained = (retained_at t rest).values; rounds = s.rounds } ≡ content_of t s
content_read t n first rest s h k =
    let lines = riders-read t n first h in
    let kept = retained-read t rest (ap (λ (r : Lists). r.next) lines ∙ k) in
    sym (
    ap (λ (r : Lists). record { lists = r.lists; retained = retained_read t; rounds = s.rounds }) lines
    ∙ ap (λ (r : Numbers). record { lists = (rider_lines_at n t first).lists; retained = r.values; rounds = s.rounds }) kept
    )

-- a text that is read whole is the spelling of its content, which is well-formed and has the summary answered
pub accepted : (t : List ℕ) (s : Summary) → reading_of t ≡ Ok s → Spells (content_of t s) t s
accepted t s e =
    let w = whole_parts t s e in
    let ls = (rider_lines_at w.n t w.first).lists in
    let vs = (retained_at t w.rest).values in
    let c : Content = record { lists = ls; retained = vs; rounds = s.rounds } in
    let opened = riders_text t 0 w.n w.first w.opened in
    let lines = rider_lines_text w.n 0 t w.first w.rest w.lines in
    let kept = retained_text t w.rest w.last w.retained in
    let ended = rounds_text t w.last s.rounds w.end w.ended in
    let over : drop w.end t ≡ [] = ap (λ (p : ℕ). drop p t) w.over ∙ drop-length t in
    let text : t ≡ riders_line w.n ++ (flatten (rider_lines 0 ls) ++ (retained_line vs ++ rounds_line s.rounds)) = opened.0 ∙ rw (lines.text, kept.0, ended.0, over, append-nil (rounds_line s.rounds)) in
    subst (λ (c : Content). Spells c t s) (content_read t w.n w.first w.rest s w.opened w.lines)
    (record {
      well_formed = record { riders = omega (arith, lines.lines, opened.1); links = lines.small; retained = kept.1; rounds = ended.1; ascending = kept.2 };
      text = text ∙ ap (λ (m : ℕ). riders_line m ++ (flatten (rider_lines 0 ls) ++ (retained_line vs ++ rounds_line s.rounds))) (sym lines.lines) ∙ sym (spell_parts c);
      summary = sym w.summary ∙ rw lines.lines;
    })

-- ---- each line that is spelled is read

-- (riders n)
pub riders_spelled : (t : List ℕ) (p n : ℕ) (rest : List ℕ) → drop p t ≡ riders_line n ++ rest → n ≤ 65535 → (c : ℕ) × (riders_at t p ≡ Some (n, c)) × (drop c t ≡ rest)
unfolding riders_line
riders_spelled t p n rest e h = let head = bytes "(riders " in form_spelled t p head n 41 (bytes "\n") rest (e ∙ sym (regroup_three head (decimal n) line_tail rest)) h (omega arith)

-- (rounds r)
pub rounds_spelled : (t : List ℕ) (p r : ℕ) (rest : List ℕ) → drop p t ≡ rounds_line r ++ rest → r ≤ 65535 → (c : ℕ) × (rounds_at t p ≡ Some (r, c)) × (drop c t ≡ rest)
unfolding rounds_line
rounds_spelled t p r rest e h = let head = bytes "(rounds " in form_spelled t p head r 41 (bytes "\n") rest (e ∙ sym (regroup_three head (decimal r) line_tail rest)) h (omega arith)

-- (rider v (with ..))
pub rider_spelled :
    (t : List ℕ) (v p : ℕ) (l rest : List ℕ) → drop p t ≡ rider_line v l ++ rest → v ≤ 65535 → Small l
    → (c : ℕ) × (rider_at t v p ≡ record { values = l; next = Some c }) × (drop c t ≡ rest)
unfolding rider_at rider_line
rider_spelled t v p l rest e h k =
    let f = form_spelled t p rider_head v 32 (bytes "(with") (spelled_list l ++ (rider_tail ++ rest)) (e ∙ sym (regroup_five rider_head (decimal v) rider_with (spelled_list l) rider_tail rest)) h (omega arith) in
    let i = list_spelled t l f.0 (bytes ")\n" ++ rest) f.2 k in
    let s = skip_spelled t i.0 rider_tail rest i.2 in
    ((i.0 + 3), rw (f.1, eq-eqb v v refl, i.1, s), past t i.0 rider_tail rest i.2)

-- (retained ..), ascending
pub retained_spelled :
    (t : List ℕ) (p : ℕ) (l rest : List ℕ) → drop p t ≡ retained_line l ++ rest → Small l → T (ascending l)
    → (c : ℕ) × (retained_at t p ≡ record { values = l; next = Some c }) × (drop c t ≡ rest)
unfolding retained_at retained_line
retained_spelled t p l rest e h k =
    let q = e ∙ sym (regroup_three retained_head (spelled_list l) line_tail rest) in
    let s = skip_spelled t p retained_head (spelled_list l ++ (line_tail ++ rest)) q in
    let i = list_spelled t l (p + length retained_head) (bytes "\n" ++ rest) (past t p retained_head (spelled_list l ++ (line_tail ++ rest)) q) h in
    let z = skip_spelled t i.0 line_tail rest i.2 in
    ((i.0 + 2), rw (s, i.1, true_of (ascending l) k, z), past t i.0 line_tail rest i.2)

-- some lists before others
abbrev pub before : List (List ℕ) → Lists → Lists
before ls r = record { lists = ls ++ r.lists; next = r.next }

-- the lines of some riders are read, and then those of m more
pub rider_lines_spelled :
    (t : List ℕ) (ls : List (List ℕ)) (m v p : ℕ) (rest : List ℕ) → drop p t ≡ flatten (rider_lines v ls) ++ rest → v + length ls ≤ 65536 → Small (flatten ls)
    → (c : ℕ) × (rider_lines_from (length ls + m) v t p ≡ before ls (rider_lines_from m (v + length ls) t c)) × (drop c t ≡ rest)
unfolding rider_lines_from rider_lines flatten
rider_lines_spelled t [] m v p rest e h k = (p, rw (zero-add m, add-zero v), e)
rider_lines_spelled t (l ∷ ls) m v p rest e h k =
    let i = rider_spelled t v p l (flatten (rider_lines (v + 1) ls) ++ rest) (e ∙ append_assoc (rider_line v l) (flatten (rider_lines (v + 1) ls)) rest) (omega arith) (λ w q. k w ((in_append l (flatten ls) w).1 (inl q))) in
    let j = rider_lines_spelled t ls m (v + 1) i.0 rest i.2 (omega arith) (λ w q. k w ((in_append l (flatten ls) w).1 (inr q))) in
    let last : v + 1 + length ls ≡ v + suc (length ls) = omega arith in
    (j.0, rw (suc-add (length ls) m, i.1, ← last) (ap (more_lists l) j.1), j.2)

-- ---- the theorem, the other way: the spelling of a well-formed content is read whole, as that content

module _ (c : Content) (w : WellFormed c) (t : List ℕ) (e : t ≡ spell c) where
  abbrev n : ℕ
  n = length c.lists

  abbrev lines_on : List ℕ
  lines_on = flatten (rider_lines 0 c.lists) ++ (retained_line c.retained ++ rounds_line c.rounds)

  read_first : (first : ℕ) × (riders_at t 0 ≡ Some (n, first)) × (drop first t ≡ lines_on)
  read_first = riders_spelled t 0 n lines_on (e ∙ spell_parts c) w.riders

  read-lines : (rest : ℕ) × (rider_lines_at n t read_first.0 ≡ record { lists = c.lists; next = Some rest }) × (drop rest t ≡ retained_line c.retained ++ rounds_line c.rounds)
  unfolding rider_lines_from
  read-lines =
      let i = rider_lines_spelled t c.lists 0 0 read_first.0 (retained_line c.retained ++ rounds_line c.rounds) read_first.2 (omega (arith, w.riders)) w.links in
      (i.0, ap (λ (m : ℕ). rider_lines_from m 0 t read_first.0) (sym (add-zero n)) ∙ i.1 ∙ ap (λ (ls : List (List ℕ)). record { lists = ls; next = Some i.0 }) (append-nil c.lists), i.2)

  read-retained : (last : ℕ) × (retained_at t read-lines.0 ≡ record { values = c.retained; next = Some last }) × (drop last t ≡ rounds_line c.rounds)
  read-retained = retained_spelled t read-lines.0 c.retained (rounds_line c.rounds) read-lines.2 w.retained w.ascending

  read-rounds : (end : ℕ) × (rounds_at t read-retained.0 ≡ Some (c.rounds, end)) × (end ≡ length t)
  read-rounds =
      let i = rounds_spelled t read-retained.0 c.rounds [] (read-retained.2 ∙ sym (append-nil (rounds_line c.rounds))) w.rounds in
      let inside = form_in t read-retained.0 40 (bytes "rounds ") 41 (bytes "\n") c.rounds i.0 i.1 in
      let over = sym (length-drop i.0 t) ∙ ap length i.2 in
      (i.0, i.1, omega (arith, inside.1, over))

  read_whole : reading_of t ≡ Ok (summary_of c)
  unfolding reading_of rest_of
  read_whole = rw (read_first.1, read-lines.1, read-retained.1, read-rounds.1, eq-eqb read-rounds.0 (length t) read-rounds.2)

  read_content : content_of t (summary_of c) ≡ c
  read_content =
      sym (content_read t n read_first.0 read-lines.0 (summary_of c) read_first.1 (ap (λ (r : Lists). r.next) read-lines.1))
      ∙ rw (read-lines.1, read-retained.1)

-- the spelling of a well-formed content is read whole: the answer is its summary, and what is read is that content
pub read_back : (c : Content) → WellFormed c → (reading_of (spell c) ≡ Ok (summary_of c)) × (content_of (spell c) (summary_of c) ≡ c)
read_back c w = (read_whole c w (spell c) refl, read_content c w (spell c) refl)

-- exactly the spellings of well-formed contents are read whole
pub accepted_iff : (t : List ℕ) (s : Summary) → (reading_of t ≡ Ok s) ↔ ((c : Content) × Spells c t s)
accepted_iff t s = (λ e. (content_of t s, accepted t s e), λ b. rw (b.1.text, b.1.summary) (read_back b.0 b.1.well_formed).0)

-- all numbers of a text that is read whole are at most 65,535
pub numbers-small : (t : List ℕ) (s : Summary) → reading_of t ≡ Ok s → (s.riders ≤ 65535) × Small (links_read t) × Small (retained_read t) × (s.rounds ≤ 65535)
numbers-small t s e =
    let a = accepted t s e in
    let f = a.well_formed in
    let riders = ap (λ (x : Summary). x.riders) a.summary in
    (omega (arith, f.riders, riders), f.links, f.retained, f.rounds)
