-- What the guard of a ceiling refuses and promises, and what an accepted ceiling says of the search from the same vertex. Assumes nothing.
use mathlib.Core.Path.{◌≡◌, refl, sym, ap, ◌∙◌}
use mathlib.Core.Bool.{cond}
use mathlib.Core.List.{List}
use Prim.Native.Nat.{ℕ, ◌≤◌, ◌<◌}
use native.Mathlib.Omega.{arith}
use lib.ListN.{get_or}
use borrow.Author.Tests.{eq-eqb}
use Rattle.table.specs.Table.{vertices}
use Rattle.table.specs.Size.{size_of}
use Rattle.table.specs.Guard.{refused, answer, past}
use Rattle.table.specs.Guard.{clear}
use Rattle.table.specs.Rule.{Refusal}
use Rattle.std.specs.Prelude.{Result, Ok, Err}
use Rattle.table.specs.declared.size.Size.{Size}
use Rattle.table.proofs.Guards.{both-passed, accepted_only, past-past, same-ok}
use Rattle.anchored.specs.Followers.{followers, reached}
use Rattle.anchored.specs.Ceiling.{ceiling}
use Rattle.anchored.proofs.Ceiling.{ceiling-reached, ceiling-followers}
use Rattle.pool.specs.Input.{graph_of, anchored_by, admit_of, Admitted}
use Rattle.pool.proofs.Laws.{admitted, simple}
use Rattle.level_sheet.specs.SheetCheck.{Accepted}
use Rattle.marking.specs.Marking.{vertex_of, guard_of_free, marking_of}
use Rattle.marking.proofs.Marking.{vertex-sound, free-sound}
use Rattle.search.specs.Answers.{search_of, followers_of}
use Rattle.search.specs.declared.find.Found.{Found}
use Rattle.ceiling.specs.Answers.{start_of, ceiling_of}
-- the computed cases come before the laws, so that a wrong definition is refused at a figure
use Rattle.ceiling.specs.Cases.{refusals}

module _ (s l a lev lay : List ℕ) (x : ℕ) where
  -- refused as the search is that is lent n bytes for its marks: with the same number, at the same place
  pub refuses_as_search : ceiling_of s l a lev lay x ≡ search_of s l a lev lay x (vertices s)
  unfolding ceiling_of start_of search_of marking_of
  refuses_as_search =
      let n = vertices s in
      let vertex = vertex_of s l a lev lay x in
      sym (past-past (admit_of s l a) vertex (guard_of_free a x)) ∙ ap (λ b. past (past (admit_of s l a) (cond b vertex (refused 12 0))) (guard_of_free a x)) (sym (eq-eqb n n refl))

  -- what is not refused is admitted, with the defined sheet and a vertex that is not anchored
  pub start-sound : Admitted s l a → start_of s l a lev lay x ≡ clear → Accepted s l a lev lay × (x < vertices s) × (get_or a x 0 ≡ 0)
  unfolding start_of
  start-sound given e =
      let through = both-passed (vertex_of s l a lev lay x) (guard_of_free a x) e in
      let vertex = vertex-sound s l a lev lay x given.table through.0 in
      (vertex.0, vertex.1, free-sound x given vertex.1 through.1)

  pub ceiling-sound : ceiling_of s l a lev lay x ≡ clear → Admitted s l a × Accepted s l a lev lay × (x < vertices s)
  unfolding ceiling_of
  ceiling-sound e =
      let through = both-passed (admit_of s l a) (start_of s l a lev lay x) e in
      let given = admitted s l a through.0 in
      let start = start-sound given through.1 in
      (given, start.0, start.1)

  -- card 11, of the two calls: a ceiling answered is below neither count that the search from x answers, whatever room it is lent for marks
  pub answers_bound : (m : ℕ) {c : ℕ} {found : Found} {size given : Size}
      → ◌≡◌ {A = Result (ℕ × Size) Refusal} (answer (ceiling_of s l a lev lay x) (Ok (ceiling (graph_of s l) (anchored_by a) x, size_of s l)) Err) (Ok (c, size))
      → followers_of s l a lev lay x m ≡ Ok (found, given) → (found.lifted ≤ c) × (found.reached ≤ c)
  unfolding followers_of
  answers_bound m {c} {found} e f =
      let G = graph_of s l in
      let A = anchored_by a in
      let told = accepted_only (ceiling_of s l a lev lay x) _ _ (λ r q. cc) e in
      let counted = accepted_only (search_of s l a lev lay x m) _ _ (λ r q. cc) f in
      let bound : ceiling G A x ≡ c = ap (λ (p : ℕ × Size). p.0) (same-ok told.1) in
      let lifts : followers G A x ≡ found.lifted = ap (λ (p : Found × Size). p.0.lifted) (same-ok counted.1) in
      let reaches : reached G A x ≡ found.reached = ap (λ (p : Found × Size). p.0.reached) (same-ok counted.1) in
      let table = (ceiling-sound told.0).0.table in
      let L = simple table in
      let small : vertices s ≤ 65535 = omega (arith, table.small) in
      (omega (arith, bound, lifts, ceiling-followers G L A small x), omega (arith, bound, reaches, ceiling-reached G L A small x))
