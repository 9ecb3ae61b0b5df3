-- What the answer of the sheet check tells: exactly the defined sheet is accepted, and a sheet accepted, or refused with 20 or 21,
-- overstates nobody's level. Assumes nothing.
use mathlib.Core.Path.{◌≡◌, refl, ap, ◌∙◌, subst}
use mathlib.Core.Logic.{◌↔◌}
use mathlib.Core.Bool.{Bool, true, false, not, cond, ◌||◌}
use mathlib.Core.List.{List}
use Prim.Native.Nat.{ℕ, ◌≤◌, ◌<◌}
use native.Mathlib.Omega.{arith}
use lib.ListN.{length, get_or}
use lib.Dec.{T, T_not, ltb, eqb, eqb→eq}
use borrow.Author.Tests.{eq-eqb, ne_eqb, eqb-true, ltb-false, not-false}
use Rattle.finite.specs.Search.{first, NoneBelow}
use Rattle.finite.proofs.Tests.{or-e, false_of, of_false}
use Rattle.table.specs.Table.{vertices, SoundTable}
use Rattle.table.specs.Guard.{refused, number_of, refuse, answer, past}
use Rattle.table.specs.Guard.{Guard}
use Rattle.table.specs.Guard.{clear}
use Rattle.std.specs.Prelude.{Ok, Err}
use Rattle.table.proofs.Guards.{both-passed, cleared}
use Rattle.table.proofs.Laws.{went_on, went_past, nothing, pass}
use Rattle.table.proofs.Numbers.{Between, between_sound, between_next, between_found, between_past, zero-sound}
use Rattle.anchored.specs.Core.{level}
use Rattle.anchored.specs.Sheet.{misplaced, too_high, too_low, too_late}
use Rattle.anchored.proofs.Sheet.{Local, local_agree, fits_each, fits_all, fits_local, local_fits, nowhere_overstated}
use Rattle.pool.specs.Input.{graph_of, anchored_by, admit_of}
use Rattle.pool.proofs.Laws.{simple, admitted, between_admit}
use Rattle.level_sheet.specs.SheetCheck.{sheet_of, check_sheet_of, Accepted, bounds, Tells}
use Rattle.level_sheet.specs.Faults.{fault_of, Lowest}
use Rattle.level_sheet.proofs.Faults.{answer_by, numbered-none, numbered_more}

-- past a refusal whose number bounds nothing
bounded-on : (b : Bool) (k p : ℕ) (rest : Guard) → T (not (bounds k)) → T (bounds (number_of (cond b (refused k p) rest))) → (b ≡ false) × T (bounds (number_of rest))
bounded-on true k p rest other t = absurd (T_not (bounds k) other t)
bounded-on false k p rest other t = (refl, t)

-- the same for a search
bounded-past : (k : ℕ) (p : ℕ → Bool) (n : ℕ) (rest : Guard) → T (not (bounds k)) → T (bounds (number_of (refuse k p n rest))) → NoneBelow p n × T (bounds (number_of rest))
bounded-past k p n rest other t =
    let r = bounded-on (ltb (first p n) n) k (first p n) rest other t in
    (nothing p n refl (ltb-false (first p n) n r.0), r.1)

module _ (s l a lev lay : List ℕ) where
  abbrev n : ℕ
  n = vertices s

  abbrev levels : ℕ → ℕ
  levels v = get_or lev v 0

  abbrev layers : ℕ → ℕ
  layers v = get_or lay v 0

  -- the four tests
  abbrev out : ℕ → Bool
  out = misplaced (graph_of s l) (anchored_by a) levels layers

  abbrev high : ℕ → Bool
  high = too_high (graph_of s l) (anchored_by a) levels layers

  abbrev low : ℕ → Bool
  low = too_low (graph_of s l) (anchored_by a) levels layers

  abbrev late : ℕ → Bool
  late = too_late (graph_of s l) (anchored_by a) levels layers

  -- the answer from each of them on
  abbrev from_late : Guard
  from_late = refuse 21 late n clear

  abbrev from_low : Guard
  from_low = refuse 20 low n from_late

  abbrev from_high : Guard
  from_high = refuse 19 high n from_low

  abbrev from_out : Guard
  from_out = refuse 14 out n from_high

  -- ---- the code's answers

  -- 13: either half not n long
  pub wrong_levels : (length lev ≡ n → ⊥) → sheet_of s l a lev lay ≡ refused 13 0
  unfolding sheet_of
  wrong_levels other = rw (sheet_of, ne_eqb (length lev) n other)

  pub wrong_layers : length lev ≡ n → (length lay ≡ n → ⊥) → sheet_of s l a lev lay ≡ refused 13 0
  unfolding sheet_of
  wrong_layers levels_long other = rw (sheet_of, eq-eqb (length lev) n levels_long, ne_eqb (length lay) n other)

  entries_decide : length lev ≡ n → length lay ≡ n → sheet_of s l a lev lay ≡ from_out
  unfolding sheet_of
  entries_decide levels_long layers_long = rw (sheet_of, eq-eqb (length lev) n levels_long, eq-eqb (length lay) n layers_long)

  -- else the lowest fault decides
  pub faults_decide : length lev ≡ n → length lay ≡ n → (number place : ℕ) → Lowest (fault_of s l a lev lay) n number place → sheet_of s l a lev lay ≡ answer_by number place
  faults_decide levels_long layers_long number place lowest =
      let late-numbered = numbered_more 21 65535 late _ n _ (omega arith) (numbered-none n) in
      let low-numbered = numbered_more 20 21 low _ n _ (omega arith) late-numbered in
      let high-numbered = numbered_more 19 20 high _ n _ (omega arith) low-numbered in
      let all-numbered = numbered_more 14 19 out _ n _ (omega arith) high-numbered in
      entries_decide levels_long layers_long ∙ all-numbered.decides number place lowest

  -- ---- acceptance

  -- a sheet that passes the four tests is exactly the defined one
  pub accepted : SoundTable s l → sheet_of s l a lev lay ≡ clear → Accepted s l a lev lay
  unfolding sheet_of
  accepted table e =
      let first-half = went_on _ _ _ _ e in
      let second-half = went_on _ _ _ _ first-half.1 in
      let past-out = went_past 14 out n from_high second-half.1 in
      let past-high = went_past 19 high n from_low past-out.1 in
      let past-low = went_past 20 low n from_late past-high.1 in
      let past-late = went_past 21 late n clear past-low.1 in
      let fitting : Local (graph_of s l) (anchored_by a) levels layers = fits_local (graph_of s l) (anchored_by a) levels layers (λ v h.
      fits_all (graph_of s l) (anchored_by a) levels layers v
      (of_false (out v) (past-out.0 v h)) (of_false (high v) (past-high.0 v h)) (of_false (low v) (past-low.0 v h)) (of_false (late v) (past-late.0 v h))) in
      let each = (local_agree (graph_of s l) (simple table) (anchored_by a) levels layers).0 fitting in
      record {
        levels_long = eqb-true (length lev) n (not-false (eqb (length lev) n) first-half.0);
        layers_long = eqb-true (length lay) n (not-false (eqb (length lay) n) second-half.0);
        levels_hold = λ v h. (each v h).0;
        layers_hold = λ v h. (each v h).1;
      }

  pub accepts : SoundTable s l → Accepted s l a lev lay → sheet_of s l a lev lay ≡ clear
  accepts table h =
      let agrees = (local_agree (graph_of s l) (simple table) (anchored_by a) levels layers).1 (λ v b. (h.levels_hold v b, h.layers_hold v b)) in
      let each : (v : ℕ) → v < n → T (not (out v)) × T (not (high v)) × T (not (low v)) × T (not (late v))
      = λ v b. fits_each (graph_of s l) (anchored_by a) levels layers v (local_fits (graph_of s l) (anchored_by a) levels layers agrees v b) in
      entries_decide h.levels_long h.layers_long
      ∙ pass 14 out n from_high (λ v b. false_of (out v) (each v b).0)
      ∙ pass 19 high n from_low (λ v b. false_of (high v) (each v b).1)
      ∙ pass 20 low n from_late (λ v b. false_of (low v) (each v b).2)
      ∙ pass 21 late n clear (λ v b. false_of (late v) (each v b).3)

  -- ---- the numbers

  between_sheet : Between 1 21 (sheet_of s l a lev lay)
  unfolding sheet_of
  between_sheet =
      between_next 1 21 (not (eqb (length lev) n)) 13 0 _ (omega arith) (omega arith)
      (between_next 1 21 (not (eqb (length lay) n)) 13 0 from_out (omega arith) (omega arith)
      (between_found 1 21 14 out n from_high (omega arith) (omega arith)
      (between_found 1 21 19 high n from_low (omega arith) (omega arith)
      (between_found 1 21 20 low n from_late (omega arith) (omega arith)
      (between_found 1 21 21 late n clear (omega arith) (omega arith) (between_sound 1 21))))))

  between_checked : Between 1 21 (check_sheet_of s l a lev lay)
  unfolding check_sheet_of
  between_checked = between_past 1 21 (admit_of s l a) (sheet_of s l a lev lay) (between_admit s l a 1 21 (omega arith) (omega arith)) between_sheet

  -- ---- what an answer tells

  -- exactly the defined sheet of an admitted input is accepted
  check_defined : (number_of (check_sheet_of s l a lev lay) ≡ 0) ↔ ((admit_of s l a ≡ clear) × Accepted s l a lev lay)
  unfolding check_sheet_of
  check_defined = (
    λ e.
        let r = both-passed (admit_of s l a) (sheet_of s l a lev lay) (zero-sound (check_sheet_of s l a lev lay) 21 between_checked e) in
        (r.0, accepted (admitted s l a r.0).table r.1),
    λ h.
        let e : check_sheet_of s l a lev lay ≡ clear = cleared _ _ h.0 ∙ accepts (admitted s l a h.0).table h.1 in
        ap number_of e,
  )

  -- a sheet accepted, or refused with 20 or 21, has no entry misplaced and no level too high
  past-high : T (bounds (number_of (sheet_of s l a lev lay))) → NoneBelow out n × NoneBelow high n
  unfolding sheet_of
  past-high t =
      let first-half = bounded-on (not (eqb (length lev) n)) 13 0 _ tt t in
      let second-half = bounded-on (not (eqb (length lay) n)) 13 0 from_out tt first-half.1 in
      let past-out = bounded-past 14 out n from_high tt second-half.1 in
      (past-out.0, (bounded-past 19 high n from_low tt past-out.1).0)

  -- so it overstates nobody's level
  overstates_nobody : T (bounds (number_of (check_sheet_of s l a lev lay))) → (v : ℕ) → v < n → get_or lev v 0 ≤ level (graph_of s l) (anchored_by a) v
  unfolding check_sheet_of answer
  overstates_nobody = go (admit_of s l a) refl
    where
      -- the numbers 1 to 10 bound nothing
      unbounded : (k : ℕ) → 1 ≤ k → k ≤ 10 → T (bounds k) → ⊥
      unbounded k from upto t = or-e (eqb k 0 || eqb k 20) (eqb k 21) t
          (λ u. or-e (eqb k 0) (eqb k 20) u (λ w. omega (arith, eqb→eq k 0 w)) (λ w. omega (arith, eqb→eq k 20 w)))
          (λ u. omega (arith, eqb→eq k 21 u))

      go : (c : Guard) → admit_of s l a ≡ c → T (bounds (number_of (past c (sheet_of s l a lev lay)))) → (v : ℕ) → v < n → get_or lev v 0 ≤ level (graph_of s l) (anchored_by a) v
      go (Ok tt) e t =
          let tests = past-high t in
          nowhere_overstated (graph_of s l) (simple (admitted s l a e).table) (anchored_by a) levels layers
          (λ v h. of_false (out v) (tests.0 v h)) (λ v h. of_false (high v) (tests.1 v h))
      go (Err r) e t = let range = between_admit s l a 1 10 (omega arith) (omega arith) r e in absurd (unbounded r.number range.0 range.1 t)

  pub check_tells : {guard : Guard} → check_sheet_of s l a lev lay ≡ guard → Tells s l a lev lay (number_of guard)
  check_tells e = subst (λ g. Tells s l a lev lay (number_of g)) e (record { defined = check_defined; bounded = overstates_nobody })
