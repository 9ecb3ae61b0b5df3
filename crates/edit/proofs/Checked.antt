-- What the check of the lent table promises, that a table in 16,384 places passes it, and what stands past the last start. Assumes nothing.
use mathlib.Core.Path.{◌≡◌, refl, sym, ap, ◌∙◌}
use mathlib.Core.Bool.{false, not, cond}
use mathlib.Core.List.{List}
use Prim.Native.Nat.{ℕ, ◌+◌, ◌-◌, ◌≤◌, ◌<◌}
use native.Mathlib.Omega.{arith}
use lib.ListN.{length, take, get_or, get_or-eq_default}
use lib.Seq.{length-take-le, get_or-take}
use lib.Dec.{ltb, eqb, ltb→lt, nltb→le, eqb→eq}
use borrow.Author.Tests.{lt-ltb, le-ltb, eq-eqb, ne_eqb, ltb-false, eqb-true, not-false}
use Rattle.finite.specs.Count.{tabulate}
use Rattle.finite.specs.Search.{NoneBelow}
use Rattle.finite.proofs.Tests.{split, true_of, false_of, neqb}
use Rattle.finite.proofs.Count.{length-tabulate, tabulate-at}
use Rattle.table.specs.Table.{vertices, neighbors, wrong_end, wrong_step, bad_start, check_of, Framed, SoundTable}
use Rattle.table.specs.Size.{size_of}
use Rattle.table.specs.Guard.{refused}
use Rattle.table.specs.Guard.{clear}
use Rattle.table.proofs.Laws.{neighbors-length, went_on, ends, sound, found-sound}
use Rattle.table.proofs.Edges.{degrees-below, handshake}
use Rattle.table.proofs.Numbers.{Between, between_next, between_check}
use Rattle.anchored.specs.Graph.{Graph}
use Rattle.pool.specs.Input.{graph_of}
use Rattle.pool.proofs.Laws.{simple}
use Rattle.edit.specs.Edit.{last_start, Tabled}
use Rattle.edit.specs.Lent.{check_lent, zeroed_at}
use Rattle.edit.proofs.Parts.{starts-le, neighbor_at, part_is}
use Rattle.edit.proofs.Edges.{none-beyond, graph_is, sound_of}

-- ---- tables with the same links up to the last start

module _ {s l : List ℕ} (f : Framed s l) (m : List ℕ) (enough : last_start s ≤ length m) (same : (i : ℕ) → i < last_start s → get_or m i 0 ≡ get_or l i 0) where
  -- the starts are in range of both
  other-framed : Framed s m
  other-framed = record {
    some = f.some;
    step = f.step;
    within = λ v h. omega (arith, starts-le f v (vertices s) h (omega arith));
  }

  -- they are tables of one graph
  other-graph : graph_of s m ≡ graph_of s l
  other-graph = graph_is s m (graph_of s l) refl
      (λ u h.
      let own = neighbors-length s l f u h in
      let top = starts-le f (u + 1) (vertices s) (omega arith) (omega arith) in
      let step = f.step u h in
      part_is other-framed u (neighbors s l u) h own (λ i b. same (get_or s u 0 + i) (omega arith) ∙ sym (neighbor_at f u i h (omega arith))))
      (none-beyond s l)

  -- one is sound if the other is
  other-sound : SoundTable s l → length m ≤ 16384 → SoundTable s m
  other-sound S few = sound_of other-framed few other-graph S.small (simple S) S.ascending

-- ---- what the check promises

-- past its own refusals the links up to the last start decide
pub links_decide : (s l : List ℕ) → (length s ≡ 0 → ⊥) → vertices s ≤ 1024 → length l ≡ 16384 → last_start s ≤ 16384 → check_lent s l ≡ check_of s (take (last_start s) l)
unfolding check_lent
links_decide s l some small places last = rw (ne_eqb (length s) 0 some, le-ltb 1024 (vertices s) small, eq-eqb (length l) 16384 places, le-ltb 16384 (last_start s) last)

-- what passes it went past each refusal
went : (s l : List ℕ) → check_lent s l ≡ clear → (length l ≡ 16384) × (last_start s ≤ 16384) × (check_of s (take (last_start s) l) ≡ clear)
unfolding check_lent
went s l e =
    let some = went_on (eqb (length s) 0) 1 0 _ e in
    let small = went_on (ltb 1024 (vertices s)) 2 0 _ some.1 in
    let places = went_on (not (eqb (length l) 16384)) 12 0 _ small.1 in
    let last = went_on (ltb 16384 (last_start s)) 3 0 _ places.1 in
    (eqb-true (length l) 16384 (not-false (eqb (length l) 16384) places.0), ltb-false 16384 (last_start s) last.0, last.1)

module _ (s l : List ℕ) (passed : check_lent s l ≡ clear) where
  abbrev links : List ℕ
  links = take (last_start s) l

  abbrev past : (length l ≡ 16384) × (last_start s ≤ 16384) × (check_of s links ≡ clear)
  past = went s l passed

  links-sound : SoundTable s links
  links-sound = sound s links past.2

  pub lent-places : length l ≡ 16384
  lent-places = past.0

  pub lent-within : last_start s ≤ length l
  lent-within = omega (arith, past.0, past.1)

  read : (i : ℕ) → i < last_start s → get_or l i 0 ≡ get_or links i 0
  read i h = sym (get_or-take (last_start s) l i 0 h)

  -- a table, with all its places as with the links alone
  pub lent-sound : SoundTable s l
  lent-sound = other-sound links-sound.framed l lent-within read links-sound (omega (arith, past.0))

  pub lent_cut : graph_of s (take (last_start s) l) ≡ graph_of s l
  lent_cut = sym (other-graph links-sound.framed l lent-within read)

  first-start : get_or s 0 0 ≡ 0
  first-start = (ends s links past.2).0

  -- what stands behind the last start is in nobody's list: twice the edges are the last start
  pub lent-twice : (size_of s l).edges + (size_of s l).edges ≡ last_start s
  unfolding size_of
  lent-twice = let t = lent-sound in omega (arith, handshake s l t, degrees-below s l t.framed (vertices s) (omega arith), first-start)

  abbrev zeroed : List ℕ
  zeroed = tabulate (zeroed_at l (last_start s)) (length l)

  zeroed_full : length zeroed ≡ 16384
  zeroed_full = length-tabulate (zeroed_at l (last_start s)) (length l) ∙ past.0

  zeroed-same : (i : ℕ) → i < last_start s → get_or zeroed i 0 ≡ get_or l i 0
  zeroed-same i h = let most = lent-within in
      tabulate-at (zeroed_at l (last_start s)) (length l) i (omega arith) ∙ ap (λ t. cond t (get_or l i 0) 0) (lt-ltb i (last_start s) h)

  zeroed-zeros : (i : ℕ) → last_start s ≤ i → get_or zeroed i 0 ≡ 0
  zeroed-zeros i h = split (ltb i (length l))
      (λ t. tabulate-at (zeroed_at l (last_start s)) (length l) i (ltb→lt i (length l) t) ∙ ap (λ b. cond b (get_or l i 0) 0) (le-ltb i (last_start s) h))
      (λ t. get_or-eq_default zeroed 0 (omega (arith, nltb→le i (length l) t, zeroed_full, past.0)))

  -- with zeros past the last start it is the table of its graph
  pub zeroed_tabled : Tabled s zeroed (graph_of s l)
  zeroed_tabled =
      let f = lent-sound.framed in
      let full = zeroed_full in
      let room : last_start s ≤ length zeroed = omega (arith, past.1) in
      record {
        padded = record { framed = other-framed f zeroed room zeroed-same; few = omega arith; origin = first-start; zeros = zeroed-zeros };
        sound = other-sound f zeroed room zeroed-same lent-sound (omega arith);
        places = full;
        graph = other-graph f zeroed room zeroed-same;
      }

-- ---- what passes it

module _ {s l : List ℕ} {G : Graph} (table : Tabled s l G) where
  abbrev f : Framed s l
  f = table.sound.framed

  abbrev cut : List ℕ
  cut = take (last_start s) l

  most : last_start s ≤ length l
  most = f.within (vertices s) (omega arith)

  cut-long : length cut ≡ last_start s
  cut-long = length-take-le (last_start s) l most

  -- the last start is the number of links
  right_end : (i : ℕ) → wrong_end s cut i ≡ false
  right_end i = split (eqb (i + 1) (length s))
      (λ t.
      let e : i ≡ vertices s = omega (arith, eqb→eq (i + 1) (length s) t) in
      let here : get_or s i 0 ≡ length cut = ap (λ z. get_or s z 0) e ∙ sym cut-long in
      rw (true_of (eqb (i + 1) (length s)) t, eq-eqb (get_or s i 0) (length cut) here))
      (λ t. rw (false_of (eqb (i + 1) (length s)) t))

  -- the first is 0, and none is below the one before
  right-step : (i : ℕ) → i < length s → wrong_step s i ≡ false
  right-step i h = split (eqb i 0)
      (λ t.
      let here : get_or s i 0 ≡ 0 = ap (λ z. get_or s z 0) (eqb→eq i 0 t) ∙ table.padded.origin in
      rw (true_of (eqb i 0) t, eq-eqb (get_or s i 0) 0 here))
      (λ t.
      let n = neqb i 0 t in
      let q : i - 1 + 1 ≡ i = omega arith in
      let rise = f.step (i - 1) (omega arith) in
      rw (false_of (eqb i 0) t) (le-ltb (get_or s i 0) (get_or s (i - 1) 0) (rw q at rise)))

  well_started : NoneBelow (bad_start s cut) (length s)
  unfolding bad_start
  well_started i h = rw (right_end i, right-step i h)

  -- the links alone are a table as document 01 has it
  pub tabled_check : check_of s (take (last_start s) l) ≡ clear
  tabled_check = found-sound s cut well_started
      (other-sound f cut (omega (arith, cut-long)) (λ i h. get_or-take (last_start s) l i 0 h) table.sound (omega (arith, cut-long, most, table.places)))

  -- and the table may be lent again
  pub tabled_passes : check_lent s l ≡ clear
  tabled_passes =
      links_decide s l (λ e. absurd (omega (arith, f.some))) table.sound.small table.places (omega (arith, most, table.places)) ∙ tabled_check

-- ---- its numbers

-- the refusals have the numbers 1 to 8, and 12
pub between_lent : (low high : ℕ) (s l : List ℕ) → low ≤ 1 → 12 ≤ high → Between low high (check_lent s l)
unfolding check_lent
between_lent low high s l from upto =
    let links = check_of s (take (last_start s) l) in
    let last = cond (ltb 16384 (last_start s)) (refused 3 0) links in
    let places = cond (not (eqb (length l) 16384)) (refused 12 0) last in
    let small = cond (ltb 1024 (vertices s)) (refused 2 0) places in
    between_next low high (eqb (length s) 0) 1 0 small (omega arith) (omega arith)
    (between_next low high (ltb 1024 (vertices s)) 2 0 places (omega arith) (omega arith)
    (between_next low high (not (eqb (length l) 16384)) 12 0 last (omega arith) (omega arith)
    (between_next low high (ltb 16384 (last_start s)) 3 0 links (omega arith) (omega arith) (between_check low high s (take (last_start s) l) from (omega arith)))))
