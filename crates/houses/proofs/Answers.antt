-- What a call that is not refused is handed, how long its sheet is, and what is claimed of its lines. Assumes nothing.
use mathlib.Core.Path.{◌≡◌, refl, ap, ◌∙◌}
use mathlib.Core.Logic.{inl, inr}
use mathlib.Core.Bool.{Bool, ◌||◌}
use mathlib.Core.List.{List, [], ◌∷◌}
use Prim.Native.Nat.{ℕ, ◌+◌, ◌*◌, ◌≤◌, ◌<◌}
use native.Mathlib.Omega.{arith}
use lib.ListN.{length, get_or}
use lib.Dec.{ltb, eqb}
use borrow.Author.Tests.{ltb-false, leb-false}
use Rattle.finite.specs.Count.{sum, below, tabulate}
use Rattle.finite.specs.Search.{all}
use Rattle.finite.proofs.Tests.{not-or, neqb, false_of, of_false}
use Rattle.table.specs.Table.{vertices, check_of}
use Rattle.table.specs.Guard.{front}
use Rattle.table.specs.Guard.{clear}
use Rattle.table.proofs.Guards.{both-passed}
use Rattle.table.proofs.Laws.{went_on, went_past, sound}
use Rattle.anchored.specs.Houses.{Picks, Fair, house_choice}
use Rattle.anchored.proofs.Houses.{lines_fair, house_picks}
use Rattle.pool.specs.Input.{graph_of, anchored_by, Admitted}
use Rattle.pool.specs.Lengths.{outside}
use Rattle.pool.proofs.Lengths.{passed, each}
use Rattle.sheet.specs.Line.{sheet_of}
use Rattle.sheet.specs.Written.{Written}
use Rattle.sheet.proofs.Lines.{sheet_length}
use Rattle.sheet.proofs.Written.{written_as, written-front}
use Rattle.rounds.specs.Rounds.{rounds_of}
use Rattle.turns.specs.Turns.{houses_by, quota_by}
use Rattle.rounds.specs.Shared.{shared_rounds}
use Rattle.rounds.proofs.Playing.{shared_length}
use Rattle.rounds.proofs.One.{one-rounds}
use Rattle.houses.specs.Answers.{quota_sum, quotas_of, members_of, houses_of, shared_sheet}
-- the computed cases come before the laws, so that a wrong definition is refused at a figure
use Rattle.houses.specs.Cases.{refusals}

-- what a call that is not refused is handed
pub record Housed (s l a house quotas : List ℕ) (room : ℕ) : Type 0 where
  pub admitted : Admitted s l a
  pub bytes_long : length a ≡ vertices s
  pub houses_long : length house ≡ vertices s
  pub sum_small : quota_sum quotas ≤ 60
  pub some : 0 < length quotas
  pub few : length quotas ≤ 16
  pub within : (v : ℕ) → v < vertices s → get_or house v 0 < length quotas
  pub enough : quota_sum quotas * (48 + vertices s) ≤ room

module _ (s l a house quotas : List ℕ) (room : ℕ) (e : houses_of s l a house quotas room ≡ clear) where
  pub call_told : Housed s l a house quotas room
  unfolding houses_of members_of quotas_of
  call_told =
      let n = vertices s in
      let houses = length quotas in
      let lengths = length a ∷ length house ∷ [] in
      let through = both-passed (check_of s l) (members_of n a house quotas room) e in
      let alike = passed (all (eqb n) lengths) _ _ through.1 in
      let bytes = went_past 10 (λ v. ltb 1 (get_or a v 0)) (length a) (quotas_of n house quotas room) alike.1 in
      let lines = went_on (ltb 60 (quota_sum quotas)) 11 0 _ bytes.1 in
      let count = went_on (eqb houses 0 || ltb 16 houses) 26 0 _ lines.1 in
      let number = not-or (eqb houses 0) (ltb 16 houses) (of_false (eqb houses 0 || ltb 16 houses) count.0) in
      let other = neqb houses 0 number.0 in
      let within = went_past 27 (outside houses house) (length house) _ count.1 in
      let space = went_on (ltb room (quota_sum quotas * (48 + n))) 12 0 clear within.1 in
      let of : (k : ℕ) → _ → k ≡ n = each n lengths alike.0 in
      let bytes-n = of (length a) (inl refl) in
      let houses-n = of (length house) (inr (inl refl)) in
      record {
        admitted = record {
          table = sound s l through.0;
          long = omega arith;
          bytes = λ v h. ltb-false 1 (get_or a v 0) (bytes.0 v (omega arith));
        };
        bytes_long = bytes-n;
        houses_long = houses-n;
        sum_small = ltb-false 60 (quota_sum quotas) lines.0;
        some = omega arith;
        few = ltb-false 16 houses (false_of (ltb 16 houses) number.1);
        within = λ v h. leb-false houses (get_or house v 0) (within.0 v (omega arith));
        enough = ltb-false room (quota_sum quotas * (48 + n)) space.0;
      }

  -- card 9's claims of its lines, whatever each house chooses, and so of the real choice
  pub call_fair : (pick : ℕ → (ℕ → Bool) → ℕ → ℕ) → Picks (graph_of s l) (houses_by house (length quotas)) pick
      → Fair (graph_of s l) (houses_by house (length quotas)) pick (quota_by quotas) (anchored_by a)
  call_fair pick picks = lines_fair (graph_of s l) (houses_by house (length quotas)) pick (quota_by quotas) (anchored_by a) call_told.some picks

  pub call_choice_fair : let H = houses_by house (length quotas) in Fair (graph_of s l) H (house_choice (graph_of s l) H) (quota_by quotas) (anchored_by a)
  call_choice_fair = let H = houses_by house (length quotas) in call_fair (house_choice (graph_of s l) H) (house_picks (graph_of s l) H)

-- the sheet has 48 bytes a line, and one a vertex
pub shared_size : (s l a house quotas : List ℕ) → length (shared_sheet s l a house quotas) ≡ quota_sum quotas * (48 + vertices s)
unfolding shared_sheet
shared_size s l a house quotas =
    sheet_length (vertices s) 1 (shared_rounds (graph_of s l) (houses_by house (length quotas)) (quota_by quotas) (anchored_by a) (quota_sum quotas))
    ∙ ap (λ k. k * (48 + vertices s)) (shared_length (graph_of s l) (houses_by house (length quotas)) (quota_by quotas) (anchored_by a) (quota_sum quotas))

sum_alone : (r : ℕ) → quota_sum (r ∷ []) ≡ r
unfolding quota_sum sum below tabulate
sum_alone r = omega arith

-- one house with quota r gives the ordinary sheet of r rounds
pub one-house : (s l a house : List ℕ) (r room : ℕ) → houses_of s l a house (r ∷ []) room ≡ clear → shared_sheet s l a house (r ∷ []) ≡ sheet_of (vertices s) (rounds_of (graph_of s l) (anchored_by a) r)
unfolding shared_sheet
one-house s l a house r room e =
    let told = call_told s l a house (r ∷ []) room e in
    let alone = one-rounds (graph_of s l) (houses_by house 1) (quota_by (r ∷ [])) (anchored_by a) refl (λ v h. let low = told.within v h in omega arith) in
    ap (λ k. sheet_of (vertices s) (shared_rounds (graph_of s l) (houses_by house 1) (quota_by (r ∷ [])) (anchored_by a) k)) (sum_alone r)
    ∙ ap (sheet_of (vertices s)) (alone r (omega arith))

-- the lines written leave the sheet with what stood behind it
pub shared_written : (s l a house quotas : List ℕ) {old new : List ℕ} {lines end : ℕ} → lines ≡ quota_sum quotas → quota_sum quotas * (48 + vertices s) ≤ length old
    → Written old 0 (sheet_of (vertices s) (shared_rounds (graph_of s l) (houses_by house (length quotas)) (quota_by quotas) (anchored_by a) lines)) new end
    → (end ≡ length (shared_sheet s l a house quotas)) × (new ≡ front (shared_sheet s l a house quotas) old)
unfolding shared_sheet
shared_written s l a house quotas e h w =
    let rounds = shared_rounds (graph_of s l) (houses_by house (length quotas)) (quota_by quotas) (anchored_by a) in
    written-front (written_as (ap (λ k. sheet_of (vertices s) (rounds k)) e) w) (omega (arith, shared_size s l a house quotas))
