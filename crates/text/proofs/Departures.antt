-- A text that departs at line k begins with k - 1 lines of a well-formed text, and with no more. Assumes nothing.
use mathlib.Core.Path.{◌≡◌, refl, sym, ap, ◌∙◌, subst}
use mathlib.Core.Logic.{inl, ⊎_elim}
use mathlib.Core.Bool.{Bool, true, false}
use mathlib.Core.List.{List, [], ◌∷◌, ◌++◌, flatten, append_assoc, append-nil}
use Prim.Native.Nat.{ℕ, zero, suc, ◌+◌, ◌-◌, ◌≤◌, ◌<◌}
use native.Mathlib.Nat.{add-zero, eq-or-lt_of_le}
use native.Mathlib.Omega.{arith}
use lib.ListN.{length, take, drop, replicate, length-append, length-replicate, take-append-drop}
use lib.Seq.{take-append-le, take-append-add, take-append_seam, length-take-le}
use lib.Dec.{T, leb}
use borrow.Author.Tests.{leb-true, leb-false}
use Rattle.std.specs.Prelude.{Option, Some, None, Err}
use Rattle.std.proofs.lemmas.Option.{some_pair_parts}
use Rattle.finite.specs.Count.{In}
use Rattle.finite.specs.Search.{ascending}
use Rattle.finite.proofs.Tests.{of_true}
use Rattle.finite.proofs.Count.{in_append, flatten_append}
use Rattle.finite.proofs.Search.{ascending_scan}
use Rattle.reader.specs.Form.{on_next}
use Rattle.lines.specs.List.{Numbers}
use Rattle.lines.specs.Line.{riders_at, rider_at, retained_at, rounds_at}
use Rattle.text.specs.Text.{Lists, more_lists, rider_lines_from, rider_lines_at, reading_of}
use Rattle.text.specs.Spelling.{riders_line, rider_line, retained_line, rounds_line, rider_lines, Content, lines_of, WellFormed}
use Rattle.text.proofs.Texts.{Outcome, no_riders, no_rider, no_retained, no_rounds, extra, whole, outcome}
use Rattle.text.proofs.Accepted.{Small, riders_text, rider_text, rider_lines_text, retained_text, rounds_text, before, riders_spelled, rider_lines_spelled, retained_spelled, rounds_spelled}

-- the text begins with the first j lines of a well-formed text
pub record Begins (t : List ℕ) (j : ℕ) : Type 0 where
  pub content : Content
  pub well_formed : WellFormed content
  pub lines : j ≤ length (lines_of content)
  pub rest : List ℕ
  pub text : t ≡ flatten (take j (lines_of content)) ++ rest

-- ---- the first lines of a text

length-rider_lines : (v : ℕ) (ls : List (List ℕ)) → length (rider_lines v ls) ≡ length ls
unfolding rider_lines
length-rider_lines v [] = refl
length-rider_lines v (l ∷ ls) = ap suc (length-rider_lines (v + 1) ls)

take-rider_lines : (i v : ℕ) (ls : List (List ℕ)) → take i (rider_lines v ls) ≡ rider_lines v (take i ls)
unfolding rider_lines
take-rider_lines zero v ls = refl
take-rider_lines (suc i) v [] = refl
take-rider_lines (suc i) v (l ∷ ls) = ap (λ (r : List (List ℕ)). rider_line v l ∷ r) (take-rider_lines i (v + 1) ls)

-- a line for each rider, and three more
pub length-lines : (c : Content) → length (lines_of c) ≡ length c.lists + 3
unfolding lines_of
length-lines c = omega (arith, length-append (rider_lines 0 c.lists) (retained_line c.retained ∷ rounds_line c.rounds ∷ []), length-rider_lines 0 c.lists)

module _ (c : Content) where
  -- up to a rider's line
  front : (i : ℕ) → i ≤ length c.lists → flatten (take (suc i) (lines_of c)) ≡ riders_line (length c.lists) ++ flatten (rider_lines 0 (take i c.lists))
  unfolding lines_of flatten
  front i h =
      let fits : i ≤ length (rider_lines 0 c.lists) = omega (arith, length-rider_lines 0 c.lists) in
      rw (take-append-le i (rider_lines 0 c.lists) (retained_line c.retained ∷ rounds_line c.rounds ∷ []) fits, take-rider_lines i 0 c.lists)

  -- past the riders' lines
  behind : (m : ℕ) → flatten (take (suc (length c.lists + m)) (lines_of c))
      ≡ riders_line (length c.lists) ++ (flatten (rider_lines 0 c.lists) ++ flatten (take m (retained_line c.retained ∷ rounds_line c.rounds ∷ [])))
  unfolding lines_of flatten
  behind m =
      let ls = rider_lines 0 c.lists in
      let ends = retained_line c.retained ∷ rounds_line c.rounds ∷ [] in
      ap (λ (k : ℕ). flatten (riders_line (length c.lists) ∷ take (k + m) (ls ++ ends))) (sym (length-rider_lines 0 c.lists))
      ∙ rw (take-append-add ls ends m, flatten_append ls (take m ends))

-- ---- a text that departs begins with the lines before

-- the riders' lines before one that departs
record Departed (m v : ℕ) (t : List ℕ) (p : ℕ) (all : List (List ℕ)) : Type 0 where
  good : List (List ℕ)
  place : ℕ
  text : drop p t ≡ flatten (rider_lines v good) ++ drop place t
  one_more : length all ≡ suc (length good)
  some_left : length good < m
  small : Small (flatten good)

departed : (m v : ℕ) (t : List ℕ) (p : ℕ) → (rider_lines_from m v t p).next ≡ None → Departed m v t p (rider_lines_from m v t p).lists
unfolding rider_lines_from rider_lines flatten
departed zero v t p e = absurd cc
departed (suc m) v t p e = go (rider_at t v p).next refl (λ d k. departed m (v + 1) t d k) e
  where
    go : (s : Option ℕ) → (rider_at t v p).next ≡ s → ((d : ℕ) → (rider_lines_from m (v + 1) t d).next ≡ None → Departed m (v + 1) t d (rider_lines_from m (v + 1) t d).lists)
        → (on_next s (λ q. more_lists (rider_at t v p).values (rider_lines_from m (v + 1) t q)) (record { lists = (rider_at t v p).values ∷ []; next = None })).next ≡ None
        → Departed (suc m) v t p (on_next s (λ q. more_lists (rider_at t v p).values (rider_lines_from m (v + 1) t q)) (record { lists = (rider_at t v p).values ∷ []; next = None })).lists
    go None k ih e = record { good = []; place = p; text = refl; one_more = refl; some_left = omega arith; small = λ w i. absurd i }
    go (Some d) k ih e =
        let first = rider_text t v p d k in
        let rest = ih d e in
        let vs = (rider_at t v p).values in
        record {
          good = vs ∷ rest.good;
          place = rest.place;
          text = first.0 ∙ rw rest.text (sym (append_assoc (rider_line v vs) (flatten (rider_lines (v + 1) rest.good)) (drop rest.place t)));
          one_more = ap suc rest.one_more;
          some_left = omega (arith, rest.some_left);
          small = λ w i. ⊎_elim (first.1 w) (rest.small w) ((in_append vs (flatten rest.good) w).0 i);
        }

none_ascend : T (ascending [])
none_ascend = of_true (ascending []) (ascending_scan [])

flatten_nils : (k : ℕ) → flatten (replicate {A = List ℕ} k []) ≡ []
unfolding flatten
flatten_nils zero = refl
flatten_nils (suc k) = flatten_nils k

none-small : Small []
none-small w i = absurd i

begins_nothing : (t : List ℕ) → Begins t 0
unfolding flatten
begins_nothing t =
    record {
      content = record { lists = []; retained = []; rounds = 0 };
      well_formed = record { riders = omega arith; links = none-small; retained = none-small; rounds = omega arith; ascending = none_ascend };
      lines = omega arith;
      rest = t;
      text = refl;
    }

-- past the riders' lines
begins_behind :
    (t : List ℕ) (c : Content) → WellFormed c → (m : ℕ) → m ≤ 2 → (rest : List ℕ)
    → t ≡ riders_line (length c.lists) ++ (flatten (rider_lines 0 c.lists) ++ (flatten (take m (retained_line c.retained ∷ rounds_line c.rounds ∷ [])) ++ rest)) → Begins t (suc (length c.lists + m))
begins_behind t c w m h rest e =
    let a = riders_line (length c.lists) in
    let b = flatten (rider_lines 0 c.lists) in
    let d = flatten (take m (retained_line c.retained ∷ rounds_line c.rounds ∷ [])) in
    record {
      content = c;
      well_formed = w;
      lines = omega (arith, length-lines c);
      rest = rest;
      text = e ∙ sym (ap (λ (l : List ℕ). l ++ rest) (behind c m) ∙ append_assoc a (b ++ d) rest ∙ ap (λ (l : List ℕ). a ++ l) (append_assoc b d rest));
    }

module _ (t : List ℕ) (n first : ℕ) (h : riders_at t 0 ≡ Some (n, first)) where
  begins-riders : (rider_lines_at n t first).next ≡ None → Begins t (length (rider_lines_at n t first).lists)
  begins-riders q =
      let opened = riders_text t 0 n first h in
      let d = departed n 0 t first q in
      let ls = d.good ++ replicate (n - length d.good) [] in
      let long : length (d.good ++ replicate (n - length d.good) []) ≡ n = length-append d.good (replicate (n - length d.good) []) ∙ omega (arith, length-replicate {A = List ℕ} (n - length d.good) [], d.some_left) in
      let c : Content = record { lists = ls; retained = []; rounds = 0 } in
      let links : flatten (d.good ++ replicate (n - length d.good) []) ≡ flatten d.good = flatten_append d.good (replicate (n - length d.good) []) ∙ rw (flatten_nils (n - length d.good), append-nil (flatten d.good)) in
      let lines : flatten (take (suc (length d.good)) (lines_of c)) ≡ riders_line n ++ flatten (rider_lines 0 d.good) = front c (length d.good) (omega (arith, long, d.some_left)) ∙ rw (long, take-append_seam d.good (replicate (n - length d.good) [])) in
      record {
        content = c;
        well_formed = record { riders = omega (arith, long, opened.1); links = λ w i. d.small w (subst (In w) links i); retained = none-small; rounds = omega arith; ascending = none_ascend };
        lines = omega (arith, length-lines c, long, d.one_more, d.some_left);
        rest = drop d.place t;
        text =
            opened.0
            ∙ ap (λ (l : List ℕ). riders_line n ++ l) d.text
            ∙ sym (ap (λ (k : ℕ). flatten (take k (lines_of c)) ++ drop d.place t) d.one_more ∙ ap (λ (l : List ℕ). l ++ drop d.place t) lines ∙ append_assoc (riders_line n) (flatten (rider_lines 0 d.good)) (drop d.place t));
      }

  module _ (rest : ℕ) (k : (rider_lines_at n t first).next ≡ Some rest) where
    abbrev ls : List (List ℕ)
    ls = (rider_lines_at n t first).lists

    abbrev vs : List ℕ
    vs = (retained_at t rest).values

    -- the text up to the place behind the riders' lines
    opened : t ≡ riders_line (length ls) ++ (flatten (rider_lines 0 ls) ++ drop rest t)
    opened =
        let lines = rider_lines_text n 0 t first rest k in
        (riders_text t 0 n first h).0 ∙ ap (λ (l : List ℕ). riders_line n ++ l) lines.text ∙ ap (λ (m : ℕ). riders_line m ++ (flatten (rider_lines 0 ls) ++ drop rest t)) (sym lines.lines)

    riders : length ls ≡ n
    riders = (rider_lines_text n 0 t first rest k).lines

    small : (length ls ≤ 65535) × Small (flatten ls)
    small = (omega (arith, riders, (riders_text t 0 n first h).1), (rider_lines_text n 0 t first rest k).small)

    begins-lines : Begins t (suc (n + 0))
    unfolding flatten
    begins-lines =
        subst (λ (m : ℕ). Begins t (suc (m + 0))) riders
        (begins_behind t (record { lists = ls; retained = []; rounds = 0 }) (record { riders = small.0; links = small.1; retained = none-small; rounds = omega arith; ascending = none_ascend }) 0 (omega arith) (drop rest t) opened)

    module _ (last : ℕ) (l : (retained_at t rest).next ≡ Some last) where
      begins-retained : Begins t (suc (n + 1))
      unfolding flatten
      begins-retained =
          let kept = retained_text t rest last l in
          subst (λ (m : ℕ). Begins t (suc (m + 1))) riders
          (begins_behind t (record { lists = ls; retained = vs; rounds = 0 }) (record { riders = small.0; links = small.1; retained = kept.1; rounds = omega arith; ascending = kept.2 }) 1 (omega arith) (drop last t)
          (opened ∙ ap (λ (r : List ℕ). riders_line (length ls) ++ (flatten (rider_lines 0 ls) ++ r)) (kept.0 ∙ ap (λ (r : List ℕ). r ++ drop last t) (sym (append-nil (retained_line vs))))))

      begins-rounds : (rounds end : ℕ) → rounds_at t last ≡ Some (rounds, end) → Begins t (suc (n + 2))
      unfolding flatten
      begins-rounds rounds end q =
          let kept = retained_text t rest last l in
          let ended = rounds_text t last rounds end q in
          let both : drop rest t ≡ (retained_line vs ++ (rounds_line rounds ++ [])) ++ drop end t = kept.0 ∙ rw (ended.0, append-nil (rounds_line rounds)) (sym (append_assoc (retained_line vs) (rounds_line rounds) (drop end t))) in
          subst (λ (m : ℕ). Begins t (suc (m + 2))) riders
          (begins_behind t (record { lists = ls; retained = vs; rounds = rounds }) (record { riders = small.0; links = small.1; retained = kept.1; rounds = ended.1; ascending = kept.2 }) 2 (omega arith) (drop end t)
          (opened ∙ ap (λ (r : List ℕ). riders_line (length ls) ++ (flatten (rider_lines 0 ls) ++ r)) both))

-- a text that departs at line k begins with k - 1 lines of a well-formed text
pub departs_begins : (t : List ℕ) (k : ℕ) → reading_of t ≡ Err k → (0 < k) × Begins t (k - 1)
departs_begins t k e = go (outcome t)
  where
    at : (j : ℕ) → reading_of t ≡ Err (suc j) → Begins t j → (0 < k) × Begins t (k - 1)
    at j r b =
        let q : k ≡ suc j = cc in
        let z : j ≡ k - 1 = omega arith in
        (omega arith, subst (Begins t) z b)

    go : Outcome t (reading_of t) → (0 < k) × Begins t (k - 1)
    go (no_riders h r) = at 0 r (begins_nothing t)
    go (no_rider n first h q r) = at (length (rider_lines_at n t first).lists) (r ∙ ap Err (omega arith)) (begins-riders t n first h q)
    go (no_retained n first rest h q l r) = at (suc (n + 0)) (r ∙ ap Err (omega arith)) (begins-lines t n first h rest q)
    go (no_rounds n first rest last h q l x r) = at (suc (n + 1)) (r ∙ ap Err (omega arith)) (begins-retained t n first h rest q last l)
    go (extra n first rest last rounds end h q l x y r) = at (suc (n + 2)) (r ∙ ap Err (omega arith)) (begins-rounds t n first h rest q last l rounds end x)
    go (whole n first rest last rounds end h q l x y r) = absurd cc

-- ---- and with no more

-- the line that departs is among the lists read
departs_some : (m v : ℕ) (t : List ℕ) (p : ℕ) → (rider_lines_from m v t p).next ≡ None → 0 < length (rider_lines_from m v t p).lists
departs_some m v t p e = omega (arith, (departed m v t p e).one_more)

module _ (t : List ℕ) (c : Content) (w : WellFormed c) where
  abbrev n : ℕ
  n = length c.lists

  -- a text that begins with i riders' lines departs at none of them
  record Reads (i : ℕ) : Type 0 where
    first : ℕ
    opened : riders_at t 0 ≡ Some (n, first)
    further : (rider_lines_at n t first).next ≡ None → i < length (rider_lines_at n t first).lists

  reads : (i : ℕ) (rest : List ℕ) → i ≤ n → t ≡ flatten (take (suc i) (lines_of c)) ++ rest → Reads i
  reads i rest h e =
      let some = take i c.lists in
      let long : length (take i c.lists) ≡ i = length-take-le i c.lists h in
      let links : Small (flatten (take i c.lists)) = λ x m. w.links x (subst (λ (l : List ℕ). In x l) (sym (flatten_append (take i c.lists) (drop i c.lists)) ∙ ap flatten (take-append-drop i c.lists)) ((in_append (flatten (take i c.lists)) (flatten (drop i c.lists)) x).1 (inl m))) in
      let f = riders_spelled t 0 n (flatten (rider_lines 0 some) ++ rest) (e ∙ ap (λ (l : List ℕ). l ++ rest) (front c i h) ∙ append_assoc (riders_line n) (flatten (rider_lines 0 some)) rest) w.riders in
      let r = rider_lines_spelled t some (n - i) 0 f.0 rest f.2 (omega (arith, long, w.riders)) links in
      let all : rider_lines_at n t f.0 ≡ before some (rider_lines_from (n - i) (0 + length some) t r.0) = ap (λ (m : ℕ). rider_lines_from m 0 t f.0) (omega (arith, long)) ∙ r.1 in
      record {
        first = f.0;
        opened = f.1;
        further = λ q.
            let more = departs_some (n - i) (0 + length some) t r.0 (sym (ap (λ (x : Lists). x.next) all) ∙ q) in
            let count = ap (λ (x : Lists). length x.lists) all ∙ length-append some (rider_lines_from (n - i) (0 + length some) t r.0).lists in
            omega (arith, count, long);
      }

  -- one that begins with all of them and the line of the retained departs behind it
  record ReadsRetained (m : ℕ) (rest : List ℕ) : Type 0 where
    first : ℕ
    lines : ℕ
    last : ℕ
    opened : riders_at t 0 ≡ Some (n, first)
    riders : (rider_lines_at n t first).next ≡ Some lines
    retained : (retained_at t lines).next ≡ Some last
    text : drop last t ≡ flatten (take m (rounds_line c.rounds ∷ [])) ++ rest

  reads_retained : (m : ℕ) (rest : List ℕ) → t ≡ flatten (take (suc (n + suc m)) (lines_of c)) ++ rest → ReadsRetained m rest
  unfolding flatten rider_lines_from
  reads_retained m rest e =
      let a = flatten (rider_lines 0 c.lists) in
      let b = flatten (take m (rounds_line c.rounds ∷ [])) in
      let z = retained_line c.retained in
      let parts = e ∙ ap (λ (l : List ℕ). l ++ rest) (behind c (suc m)) ∙ append_assoc (riders_line n) (a ++ (z ++ b)) rest ∙ ap (λ (l : List ℕ). riders_line n ++ l) (append_assoc a (z ++ b) rest ∙ ap (λ (l : List ℕ). a ++ l) (append_assoc z b rest)) in
      let f = riders_spelled t 0 n (a ++ (z ++ (b ++ rest))) parts w.riders in
      let r = rider_lines_spelled t c.lists 0 0 f.0 (z ++ (b ++ rest)) f.2 (omega (arith, w.riders)) w.links in
      let k = retained_spelled t r.0 c.retained (b ++ rest) r.2 w.retained w.ascending in
      record {
        first = f.0;
        lines = r.0;
        last = k.0;
        opened = f.1;
        riders = ap (λ (j : ℕ). (rider_lines_from j 0 t f.0).next) (sym (add-zero n)) ∙ ap (λ (x : Lists). x.next) r.1;
        retained = ap (λ (x : Numbers). x.next) k.1;
        text = k.2;
      }

  -- with the line of the rounds behind it too, that line is there
  reads_rounds : (m : ℕ) (rest : List ℕ) (r : ReadsRetained m rest) → m ≡ 1 → rounds_at t r.last ≡ None → ⊥
  unfolding flatten
  reads_rounds m rest r u y =
      let line = r.text ∙ ap (λ (j : ℕ). flatten (take j (rounds_line c.rounds ∷ [])) ++ rest) u ∙ ap (λ (l : List ℕ). l ++ rest) (append-nil (rounds_line c.rounds)) in
      let s = rounds_spelled t r.last c.rounds rest line w.rounds in
      let z : ◌≡◌ {A = ℕ} 0 1 = cc s.1 in
      omega arith

  -- where a text departs, by the lines that it begins with
  module _ (k : ℕ) (e : reading_of t ≡ Err k) where
    past-riders : (i : ℕ) → i ≤ n → Reads i → suc i < k
    past-riders i b r = go (outcome t)
      where
        go : Outcome t (reading_of t) → suc i < k
        go (no_riders h q) = absurd (cc r.opened)
        go (no_rider m first h l q) =
            let z : k ≡ 1 + length (rider_lines_at m t first).lists = cc in
            let s : m ≡ n = (some_pair_parts m n first r.first (sym h ∙ r.opened)).0 in
            let f : first ≡ r.first = (some_pair_parts m n first r.first (sym h ∙ r.opened)).1 in
            let same : rider_lines_at m t first ≡ rider_lines_at n t r.first = ap (λ (j : ℕ). rider_lines_at j t first) s ∙ ap (λ (x : ℕ). rider_lines_at n t x) f in
            omega (arith, r.further (sym (ap (λ (x : Lists). x.next) same) ∙ l), ap (λ (x : Lists). length x.lists) same)
        go (no_retained m first lines h l x q) = let s : m ≡ n = (some_pair_parts m n first r.first (sym h ∙ r.opened)).0 in let z : k ≡ m + 2 = cc in omega arith
        go (no_rounds m first lines last h l x y q) = let s : m ≡ n = (some_pair_parts m n first r.first (sym h ∙ r.opened)).0 in let z : k ≡ m + 3 = cc in omega arith
        go (extra m first lines last rounds end h l x y o q) = let s : m ≡ n = (some_pair_parts m n first r.first (sym h ∙ r.opened)).0 in let z : k ≡ m + 4 = cc in omega arith
        go (whole m first lines last rounds end h l x y o q) = absurd cc

    past-retained : (i : ℕ) → i ≤ 1 → (rest : List ℕ) → ReadsRetained i rest → suc (n + suc i) < k
    past-retained i b rest r = go (outcome t)
      where
        -- the same places
        lines_same : (m first : ℕ) → riders_at t 0 ≡ Some (m, first) → (rider_lines_at m t first).next ≡ Some r.lines
        lines_same m first h =
            let s : m ≡ n = (some_pair_parts m n first r.first (sym h ∙ r.opened)).0 in
            let f : first ≡ r.first = (some_pair_parts m n first r.first (sym h ∙ r.opened)).1 in
            ap (λ (j : ℕ). (rider_lines_at j t first).next) s ∙ ap (λ (x : ℕ). (rider_lines_at n t x).next) f ∙ r.riders

        retained-same : (m first lines : ℕ) → riders_at t 0 ≡ Some (m, first) → (rider_lines_at m t first).next ≡ Some lines → (retained_at t lines).next ≡ Some r.last
        retained-same m first lines h l = let f : lines ≡ r.lines = cc (lines_same m first h) in ap (λ (x : ℕ). (retained_at t x).next) f ∙ r.retained

        go : Outcome t (reading_of t) → suc (n + suc i) < k
        go (no_riders h q) = absurd (cc r.opened)
        go (no_rider m first h l q) = absurd (cc (lines_same m first h))
        go (no_retained m first lines h l x q) = absurd (cc (retained-same m first lines h l))
        go (no_rounds m first lines last h l x y q) =
            let s : m ≡ n = (some_pair_parts m n first r.first (sym h ∙ r.opened)).0 in
            let z : k ≡ m + 3 = cc in
            let f : last ≡ r.last = cc (retained-same m first lines h l) in
            ⊎_elim (λ u. absurd (reads_rounds i rest r u (ap (λ (x : ℕ). rounds_at t x) (sym f) ∙ y))) (λ u. omega arith) (eq-or-lt_of_le b)
        go (extra m first lines last rounds end h l x y o q) = let s : m ≡ n = (some_pair_parts m n first r.first (sym h ∙ r.opened)).0 in let z : k ≡ m + 4 = cc in omega arith
        go (whole m first lines last rounds end h l x y o q) = absurd cc

-- a text that departs at line k begins with less than k lines of any well-formed text
pub departs_ends : (t : List ℕ) (j k : ℕ) → reading_of t ≡ Err k → Begins t j → j < k
departs_ends t zero k e b = (departs_begins t k e).0
departs_ends t (suc i) k e b = go (leb i n) refl
  where
    n : ℕ
    n = length b.content.lists

    go : (x : Bool) → leb i n ≡ x → suc i < k
    go true h = let fits = leb-true i n h in past-riders t b.content b.well_formed k e i fits (reads t b.content b.well_formed i b.rest fits b.text)
    go false h =
        let far = leb-false i n h in
        let few : i - (n + 1) ≤ 1 = omega (arith, b.lines, length-lines b.content) in
        let q : i ≡ n + suc (i - (n + 1)) = omega arith in
        let r = reads_retained t b.content b.well_formed (i - (n + 1)) b.rest (b.text ∙ ap (λ (m : ℕ). flatten (take (suc m) (lines_of b.content)) ++ b.rest) q) in
        omega (arith, past-retained t b.content b.well_formed k e (i - (n + 1)) few b.rest r)
