-- What the check promises of a table that it finds sound. Assumes nothing.
use mathlib.Core.Path.{◌≡◌, refl, sym, ap, ◌∙◌, subst}
use mathlib.Core.Bool.{Bool, true, false, not, cond}
use mathlib.Core.List.{List}
use Prim.Native.Nat.{ℕ, zero, suc, ◌+◌, ◌-◌, ◌≤◌, ◌<◌}
use native.Mathlib.Omega.{arith}
use lib.ListN.{length, drop, get_or, length-take, length-drop}
use lib.Seq.{get_or-take, get_or-drop}
use lib.Dec.{T, leb, ltb, eqb, nltb→le}
use borrow.Author.Tests.{lt-ltb, le-ltb, lt-leb, eq-eqb, ne_eqb, ltb-false, leb-false, eqb-true, eqb-false, not-false}
use Rattle.finite.specs.Count.{In}
use Rattle.finite.specs.Search.{member, first, found, NoneBelow}
use Rattle.finite.specs.Search.{ascending as ascends}
use Rattle.finite.proofs.Count.{in_at, distinct-other}
use Rattle.finite.proofs.Tests.{split, of_true, true_of, false_of, of_false, not-or}
use Rattle.finite.proofs.Search.{not-any, member_i, member-e, none_any, first-none, first-le, none_of, ascending-distinct}
use Rattle.table.specs.Table.{vertices, neighbors, wrong_end, wrong_step, bad_start, beyond, looped, unsorted, unreturned, links_of, check_of, Framed, SoundTable}
use Rattle.table.specs.Rule.{Refusal}
use Rattle.table.specs.Guard.{refused, refused_at, refuse}
use Rattle.std.specs.Prelude.{Err}
use Rattle.table.specs.Guard.{Guard}
use Rattle.table.specs.Guard.{clear}

module _ (s l : List ℕ) (some : 0 < length s) (none : NoneBelow (bad_start s l) (length s)) where
  not_wrong : (i : ℕ) → i < length s → T (not (wrong_end s l i)) × T (not (wrong_step s i))
  unfolding bad_start
  not_wrong i h = not-or (wrong_end s l i) (wrong_step s i) (of_false (bad_start s l i) (none i h))

  start-step : (v : ℕ) → v < vertices s → get_or s v 0 ≤ get_or s (v + 1) 0
  start-step v h =
      let e = false_of (wrong_step s (v + 1)) (not_wrong (v + 1) (omega arith)).1 in
      let z : eqb (v + 1) 0 ≡ false = ne_eqb (v + 1) 0 (λ w. omega arith) in
      let q : v + 1 - 1 ≡ v = omega arith in
      ltb-false (get_or s (v + 1) 0) (get_or s v 0) (rw (z, q) at e)

  start-last : get_or s (vertices s) 0 ≡ length l
  start-last =
      let e = false_of (wrong_end s l (vertices s)) (not_wrong (vertices s) (omega arith)).0 in
      let z : eqb (vertices s + 1) (length s) ≡ true = eq-eqb (vertices s + 1) (length s) (omega arith) in
      eqb-true (get_or s (vertices s) 0) (length l) (not-false (eqb (get_or s (vertices s) 0) (length l)) (rw z at e))

  start_first : get_or s 0 0 ≡ 0
  start_first = eqb-true (get_or s 0 0) 0 (not-false (eqb (get_or s 0 0) 0) (false_of (wrong_step s 0) (not_wrong 0 some).1))

  start-within : (k v : ℕ) → v + k ≡ vertices s → get_or s v 0 ≤ length l
  start-within zero v e = let q : v ≡ vertices s = omega arith in rw q (omega (arith, start-last))
  start-within (suc k) v e = omega (arith, start-step v (omega arith), start-within k (v + 1) (omega arith))

  -- without a bad start the starts are in order and in range
  pub framed : Framed s l
  framed = record { some = some; step = start-step; within = λ v h. start-within (vertices s - v) v (omega arith) }

-- how many neighbors a vertex has
pub neighbors-length : (s l : List ℕ) → Framed s l → (v : ℕ) → v < vertices s → length (neighbors s l v) ≡ get_or s (v + 1) 0 - get_or s v 0
unfolding neighbors
neighbors-length s l f v h = simp (length-take, length-drop) (omega (arith, f.step v h, f.within (v + 1) (omega arith)))

-- fewer than there are vertices: v is not among them
pub neighbors-few : (s l : List ℕ) → SoundTable s l → (v : ℕ) → v < vertices s → length (neighbors s l v) < vertices s
neighbors-few s l t v h = distinct-other (neighbors s l v) (vertices s) (t.distinct v h) (λ w. t.range v w h) v h (t.loopless v h)

-- the link at a place of u's part stands in u's neighbors
pub link_in : (s l : List ℕ) → Framed s l → (u i : ℕ) → u < vertices s → get_or s u 0 ≤ i → i < get_or s (u + 1) 0 → In (get_or l i 0) (neighbors s l u)
unfolding neighbors
link_in s l f u i h low high =
    let a = get_or s u 0 in
    let b = get_or s (u + 1) 0 in
    let long = neighbors-length s l f u h in
    let listed = in_at (neighbors s l u) (i - a) 0 (omega arith) in
    let q : a + (i - a) ≡ i = omega arith in
    let e = get_or-take (b - a) (drop a l) (i - a) 0 (omega arith) ∙ get_or-drop a l (i - a) 0 ∙ ap (λ k. get_or l k 0) q in
    subst (λ w. In w (neighbors s l u)) e listed

module _ (s l : List ℕ) where
  -- without a link of n or more each neighbor is a vertex
  pub in_range : NoneBelow (beyond s l) (vertices s) → (v w : ℕ) → v < vertices s → In w (neighbors s l v) → w < vertices s
  unfolding beyond
  in_range none v w h i = leb-false (vertices s) w (not-any (leb (vertices s)) (neighbors s l v) (none v h) w i)

  -- without unsorted links the neighbors of each vertex ascend
  pub sorted : NoneBelow (unsorted s l) (vertices s) → (v : ℕ) → v < vertices s → T (ascends (neighbors s l v))
  unfolding unsorted
  sorted none v h = of_true (ascends (neighbors s l v)) (not-false (ascends (neighbors s l v)) (none v h))

-- so is one that a loop looks at
pub listed_vertex : (s l : List ℕ) → NoneBelow (beyond s l) (vertices s) → (v : ℕ) → v < vertices s → {part : List ℕ} → part ≡ neighbors s l v → (j : ℕ) → j < length part → get_or part j 0 < vertices s
listed_vertex s l none v h {part = part} e j less = in_range s l none v (get_or part j 0) h (subst (In (get_or part j 0)) e (in_at part j 0 less))

-- an answer that is sound went past each refusal, and past each search
pub went_on : (b : Bool) (k p : ℕ) (rest : Guard) → cond b (refused k p) rest ≡ clear → (b ≡ false) × (rest ≡ clear)
went_on true k p rest e = let z : ◌≡◌ {A = ℕ} 0 1 = cc in absurd (omega arith)
went_on false k p rest e = (refl, e)

pub went_past : (k : ℕ) (p : ℕ → Bool) (n : ℕ) (rest : Guard) → refuse k p n rest ≡ clear → NoneBelow p n × (rest ≡ clear)
went_past k p n rest e =
    let r = went_on (ltb (first p n) n) k (first p n) rest e in
    (none_of p n (omega (arith, first-le p n, ltb-false (first p n) n r.0)), r.1)

-- u does not list v
abbrev pub missing : List ℕ → List ℕ → ℕ → ℕ → Bool
missing s l v u = not (member v (neighbors s l u))

-- what the check promises
pub sound : (s l : List ℕ) → check_of s l ≡ clear → SoundTable s l
unfolding check_of looped unreturned
sound s l e =
    let some = went_on _ _ _ _ e in
    let small = went_on _ _ _ _ some.1 in
    let few = went_on _ _ _ _ small.1 in
    let starts = went_past _ _ _ _ few.1 in
    let range = went_past _ _ _ _ starts.1 in
    let loopless = went_past _ _ _ _ range.1 in
    let ascending = went_past _ _ _ _ loopless.1 in
    let symmetric = went_past _ _ _ _ ascending.1 in
    let ne = eqb-false (length s) 0 some.0 in
    record {
      framed = framed s l (omega arith) starts.0;
      small = ltb-false _ _ small.0;
      few = ltb-false _ _ few.0;
      range = in_range s l range.0;
      loopless = λ v h i. eqb-false v v (not-any (eqb v) (neighbors s l v) (loopless.0 v h) v i) refl;
      ascending = sorted s l ascending.0;
      distinct = λ v h. ascending-distinct (neighbors s l v) (sorted s l ascending.0 v h);
      symmetric = λ v w h i. member-e v (neighbors s l w) (of_true (member v (neighbors s l w)) (not-false (member v (neighbors s l w)) (not-any (λ u. not (member v (neighbors s l u))) (neighbors s l v) (symmetric.0 v h) w i)));
    }

-- the links of a sound table go from place 0 to its last start
pub ends : (s l : List ℕ) → check_of s l ≡ clear → (get_or s 0 0 ≡ 0) × (get_or s (vertices s) 0 ≡ length l)
unfolding check_of
ends s l e =
    let some = went_on (eqb (length s) 0) 1 0 _ e in
    let small = went_on (ltb 1024 (vertices s)) 2 0 _ some.1 in
    let few = went_on (ltb 16384 (length l)) 3 0 _ small.1 in
    let starts = (went_past 4 (bad_start s l) (length s) _ few.1).0 in
    let ne = eqb-false (length s) 0 some.0 in
    (start_first s l (omega arith) starts, start-last s l (omega arith) starts)

-- a search whose result is below the end refuses there
pub hit : (k : ℕ) (p : ℕ → Bool) (n : ℕ) (rest : Guard) {r : ℕ} → r ≡ first p n → r < n → refuse k p n rest ≡ refused k r
hit k p n rest found h = let t : ltb (first p n) n ≡ true = lt-ltb (first p n) n (omega arith) in rw (t, found)

-- one whose result is not below the end found nothing
pub nothing : (p : ℕ → Bool) (n : ℕ) {r : ℕ} → r ≡ first p n → n ≤ r → NoneBelow p n
nothing p n found h = none_of p n (omega (arith, first-le p n))

-- a search that finds nothing goes on to the next
pub pass : (k : ℕ) (p : ℕ → Bool) (n : ℕ) (rest : Guard) → NoneBelow p n → refuse k p n rest ≡ rest
pass k p n rest none = let t : ltb (first p n) n ≡ false = le-ltb (first p n) n (omega (arith, first-none p n none)) in rw t

-- the converse: a table without a bad start that keeps these promises is found sound
pub found-sound : (s l : List ℕ) → NoneBelow (bad_start s l) (length s) → SoundTable s l → check_of s l ≡ clear
unfolding check_of beyond looped unsorted unreturned
found-sound s l starts t =
    let some = ne_eqb (length s) 0 (λ e. omega (arith, t.framed.some)) in
    let small = le-ltb 1024 (vertices s) t.small in
    let few = le-ltb 16384 (length l) t.few in
    simp (some, small, few)
    (pass 4 _ _ _ starts
    ∙ pass 5 _ _ _ (λ v h. none_any (leb (vertices s)) (neighbors s l v) (λ w i. lt-leb (vertices s) w (t.range v w h i)))
    ∙ pass 6 _ _ _ (λ v h. none_any (eqb v) (neighbors s l v) (λ w i. ne_eqb v w (λ e. t.loopless v h (subst (λ u. In u (neighbors s l v)) (sym e) i))))
    ∙ pass 7 _ _ _ (λ v h. ap not (true_of (ascends (neighbors s l v)) (t.ascending v h)))
    ∙ pass 8 _ _ _ (λ v h. none_any (λ u. not (member v (neighbors s l u))) (neighbors s l v) (λ w i. ap not (true_of (member v (neighbors s l w)) (member_i v (neighbors s l w) (t.symmetric v w h i))))))

-- a place that is found is refused
pub refused-found : (k : ℕ) (p : ℕ → Bool) (n : ℕ) (rest : Guard) {r : Refusal} → refused_at k (found p n) ≡ Err r → refuse k p n rest ≡ Err r
refused-found k p n rest e =
    split (ltb (first p n) n)
    (λ t. let h = true_of (ltb (first p n) n) t in rw h (rw h at e))
    (λ f. let h = false_of (ltb (first p n) n) f in let z : clear ≡ Err _ = rw h at e in cc)

-- where none is found, none breaks the rule
pub none-found : (k : ℕ) (p : ℕ → Bool) (n : ℕ) → refused_at k (found p n) ≡ clear → NoneBelow p n
none-found k p n e =
    split (ltb (first p n) n)
    (λ t. let h = true_of (ltb (first p n) n) t in let z : refused k (first p n) ≡ clear = rw h at e in cc)
    (λ f. none_of p n (omega (arith, first-le p n, nltb→le (first p n) n f)))

-- the last test of several
pub refused-last : (k : ℕ) (p : ℕ → Bool) (n : ℕ) → refuse k p n clear ≡ refused_at k (found p n)
refused-last k p n =
    split (ltb (first p n) n)
    (λ t. let h = true_of (ltb (first p n) n) t in rw h)
    (λ f. let h = false_of (ltb (first p n) n) f in rw h)

-- a list that is not empty
pub some_start : (s : List ℕ) → eqb (length s) 0 ≡ false → 0 < length s
some_start s e = let ne = eqb-false (length s) 0 e in omega arith

-- the check of a table of so many vertices and links, test after test
module _ (s l : List ℕ) (some : 0 < length s) (small : vertices s ≤ 1024) (few : length l ≤ 16384) where
  begun : check_of s l ≡ refuse 4 (bad_start s l) (length s) (links_of s l)
  unfolding check_of
  begun = simp (ne_eqb (length s) 0 (λ e. omega arith), le-ltb 1024 (vertices s) small, le-ltb 16384 (length l) few)

  pub starts-refused : {r : Refusal} → refused_at 4 (found (bad_start s l) (length s)) ≡ Err r → check_of s l ≡ Err r
  starts-refused e = begun ∙ refused-found 4 (bad_start s l) (length s) (links_of s l) e

  pub started : refused_at 4 (found (bad_start s l) (length s)) ≡ clear → check_of s l ≡ links_of s l
  started e = begun ∙ pass 4 (bad_start s l) (length s) (links_of s l) (none-found 4 (bad_start s l) (length s) e)

-- without a bad start the starts are in order; and a sound table passes
pub started-framed : (s l : List ℕ) → 0 < length s → refused_at 4 (found (bad_start s l) (length s)) ≡ clear → Framed s l
started-framed s l some e = framed s l some (none-found 4 (bad_start s l) (length s) e)

pub started-sound : (s l : List ℕ) → refused_at 4 (found (bad_start s l) (length s)) ≡ clear → SoundTable s l → check_of s l ≡ clear
started-sound s l e = found-sound s l (none-found 4 (bad_start s l) (length s) e)
