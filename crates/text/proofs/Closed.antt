-- Every line of a spelled text is closed by its only byte 10, so a line's number counts bytes 10. Assumes nothing.
use mathlib.Core.Path.{◌≡◌, refl, sym, ap, ◌∙◌, subst}
use mathlib.Core.Logic.{⊎_elim}
use mathlib.Core.Bool.{Bool, true, false, not, cond}
use mathlib.Core.List.{List, [], ◌∷◌, ◌++◌, flatten}
use Prim.Native.Nat.{ℕ, zero, suc, ◌+◌, ◌/◌, ◌≤◌}
use native.Mathlib.Omega.{arith}
use lib.ListN.{length, take}
use lib.Seq.{take-length}
use lib.Dec.{T, ltb, eqb, T_not, not_T, eqb→eq}
use Rattle.std.specs.Prelude.{Ok}
use Rattle.finite.specs.Bytes.{bytes, digit, decimal_from, decimal}
use Rattle.finite.specs.Count.{count, In}
use Rattle.finite.specs.Search.{any, member}
use Rattle.finite.proofs.Count.{in_append, count-append, count_none}
use Rattle.finite.proofs.Search.{member_i}
use Rattle.text.specs.Text.{reading_of}
use Rattle.text.specs.Spelling.{spelled_list, riders_line, rider_line, retained_line, rounds_line, rider_lines, Content, lines_of, spell, content_of}
use Rattle.text.specs.declared.read.Summary.{Summary}
use Rattle.text.proofs.Accepted.{regroup_three, regroup_five, accepted}
use Rattle.text.proofs.Departures.{length-lines}

-- no byte 10
abbrev Open : List ℕ → Type 0
Open l = In 10 l → ⊥

open_append : (l m : List ℕ) → Open l → Open m → Open (l ++ m)
open_append l m h k i = ⊎_elim h k ((in_append l m 10).0 i)

open_decimal_from : (more v : ℕ) → Open (decimal_from more v)
unfolding decimal_from
open_decimal_from zero v = ⊎_elim (λ e. omega arith) (λ i. i)
open_decimal_from (suc more) v = go (ltb v 10) (open_decimal_from more (v / 10))
  where
    go : (b : Bool) → Open (decimal_from more (v / 10)) → Open (cond b (digit v ∷ []) (decimal_from more (v / 10) ++ digit v ∷ []))
    go true h = ⊎_elim (λ e. omega arith) (λ i. i)
    go false h = open_append (decimal_from more (v / 10)) (digit v ∷ []) h (⊎_elim (λ e. omega arith) (λ i. i))

open_decimal : (v : ℕ) → Open (decimal v)
unfolding decimal
open_decimal v = open_decimal_from v v

open_list : (l : List ℕ) → Open (spelled_list l)
unfolding spelled_list
open_list [] = λ i. i
open_list (v ∷ vs) = ⊎_elim (λ e. omega arith) (open_append (decimal v) (spelled_list vs) (open_decimal v) (open_list vs))

-- bytes without 10, closed by byte 10
abbrev pub IsLine : List ℕ → Type 0
IsLine l = (body : List ℕ) × (l ≡ body ++ 10 ∷ []) × (In 10 body → ⊥)

abbrev pub AreLines : List (List ℕ) → Type 0
AreLines [] = Unit {0}
AreLines (l ∷ ls) = IsLine l × AreLines ls

-- constant bytes, by a test that computes
open_bytes : (l : List ℕ) → T (not (member 10 l)) → Open l
open_bytes l t i = T_not (member 10 l) t (member_i 10 l i)

-- constant bytes, a part without byte 10, and the bytes that close the line
shut : (head part : List ℕ) → T (not (member 10 head)) → Open part → IsLine (head ++ (part ++ bytes ")\n"))
unfolding any
shut head part h k = (
  head ++ (part ++ bytes ")"),
  regroup_three head part (bytes ")") (bytes "\n"),
  open_append head (part ++ bytes ")") (open_bytes head h) (open_append part (bytes ")") k (open_bytes (bytes ")") tt)),
)

riders-line : (n : ℕ) → IsLine (riders_line n)
unfolding riders_line any
riders-line n = shut (bytes "(riders ") (decimal n) tt (open_decimal n)

rounds-line : (r : ℕ) → IsLine (rounds_line r)
unfolding rounds_line any
rounds-line r = shut (bytes "(rounds ") (decimal r) tt (open_decimal r)

retained-line : (l : List ℕ) → IsLine (retained_line l)
unfolding retained_line any
retained-line l = shut (bytes "(retained") (spelled_list l) tt (open_list l)

rider-line : (v : ℕ) (l : List ℕ) → IsLine (rider_line v l)
unfolding rider_line any
rider-line v l =
    let head = bytes "(rider " in
    let mid = bytes " (with" in
    let tail = bytes "))" in (
      head ++ (decimal v ++ (mid ++ (spelled_list l ++ tail))),
      regroup_five head (decimal v) mid (spelled_list l) tail (bytes "\n"),
      open_append head (decimal v ++ (mid ++ (spelled_list l ++ tail))) (open_bytes head tt)
          (open_append (decimal v) (mid ++ (spelled_list l ++ tail)) (open_decimal v) (open_append mid (spelled_list l ++ tail) (open_bytes mid tt) (open_append (spelled_list l) tail (open_list l) (open_bytes tail tt)))),
    )

rider-lines : (v : ℕ) (ls : List (List ℕ)) (rest : List (List ℕ)) → AreLines rest → AreLines (rider_lines v ls ++ rest)
unfolding rider_lines
rider-lines v [] rest h = h
rider-lines v (l ∷ ls) rest h = (rider-line v l, rider-lines (v + 1) ls rest h)

-- every line is closed by its only byte 10
pub lines-closed : (c : Content) → AreLines (lines_of c)
unfolding lines_of
lines-closed c =
    (riders-line (length c.lists), rider-lines 0 c.lists (retained_line c.retained ∷ rounds_line c.rounds ∷ []) (retained-line c.retained, (rounds-line c.rounds, tt)))

line-count : (l : List ℕ) → IsLine l → count (eqb 10) l ≡ 1
unfolding count
line-count l (body, e, free) =
    let none = count_none (eqb 10) body (λ w i. not_T (eqb 10 w) (λ t. free (subst (λ (z : ℕ). In z body) (sym (eqb→eq 10 w t)) i))) in
    ap (count (eqb 10)) e ∙ count-append (eqb 10) body (10 ∷ []) ∙ omega (arith, none)

lines-count : (ls : List (List ℕ)) → AreLines ls → (j : ℕ) → j ≤ length ls → count (eqb 10) (flatten (take j ls)) ≡ j
unfolding flatten count
lines-count ls h zero k = refl
lines-count [] h (suc j) k = absurd (omega arith)
lines-count (l ∷ ls) h (suc j) k = count-append (eqb 10) l (flatten (take j ls)) ∙ omega (arith, line-count l h.0, lines-count ls h.1 j (omega arith))

-- the first j lines have j bytes 10
pub first-lines : (c : Content) (j : ℕ) → j ≤ length (lines_of c) → count (eqb 10) (flatten (take j (lines_of c))) ≡ j
first-lines c j h = lines-count (lines_of c) (lines-closed c) j h

-- a text that is read whole has a line for each rider and three more
pub accepted-lines : (t : List ℕ) (s : Summary) → reading_of t ≡ Ok s → count (eqb 10) t ≡ s.riders + 3
unfolding spell
accepted-lines t s e =
    let a = accepted t s e in
    let c = content_of t s in
    let riders = ap (λ (x : Summary). x.riders) a.summary in
    ap (count (eqb 10)) (a.text ∙ ap flatten (sym (take-length (lines_of c)))) ∙ first-lines c (length (lines_of c)) (omega arith) ∙ omega (arith, length-lines c, riders)
