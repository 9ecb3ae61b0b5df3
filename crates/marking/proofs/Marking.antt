-- The guards of a sheet and a vertex, refusal by refusal, and what one that is passed promises. Assumes nothing.
use mathlib.Core.Path.{◌≡◌, ◌∙◌}
use mathlib.Core.Bool.{cond}
use mathlib.Core.List.{List}
use Prim.Native.Nat.{ℕ, ◌≤◌, ◌<◌}
use lib.ListN.{get_or}
use lib.Dec.{leb, eqb, eqb→eq}
use borrow.Author.Tests.{le-leb, lt-leb, eq-eqb, ne_eqb, leb-false}
use Rattle.finite.proofs.Tests.{of_false}
use Rattle.table.specs.Table.{vertices, SoundTable}
use Rattle.table.specs.Guard.{refused}
use Rattle.table.specs.Guard.{clear}
use Rattle.table.proofs.Guards.{both-passed, cleared}
use Rattle.table.proofs.Laws.{went_on}
use Rattle.pool.specs.Input.{anchored_by, admit_of, Admitted}
use Rattle.pool.proofs.Laws.{admitted, free_byte}
use Rattle.level_sheet.specs.SheetCheck.{sheet_of, Accepted}
use Rattle.marking.specs.Marking.{vertex_of, guard_of_free, marking_of}
use Rattle.level_sheet.proofs.Laws.{accepted}
use Rattle.pool.proofs.Lengths.{passed}

-- the byte of x decides
pub free_refuses : (a : List ℕ) (x : ℕ) → get_or a x 0 ≡ 1 → guard_of_free a x ≡ refused 16 x
free_refuses a x e = rw (eq-eqb (get_or a x 0) 1 e)

pub free_passes : (a : List ℕ) (x : ℕ) → (get_or a x 0 ≡ 1 → ⊥) → guard_of_free a x ≡ clear
free_passes a x f = rw (ne_eqb (get_or a x 0) 1 f)

-- a vertex that is not refused has byte 0
pub free-sound : {s l a : List ℕ} (x : ℕ) → Admitted s l a → x < vertices s → guard_of_free a x ≡ clear → get_or a x 0 ≡ 0
free-sound {a = a} x given b e = free_byte given x b (of_false (anchored_by a x) (went_on (anchored_by a x) 16 x clear e).0)

module _ (s l a lev lay : List ℕ) (x : ℕ) where
  -- with the defined sheet x decides
  module _ (sheet : sheet_of s l a lev lay ≡ clear) where
    pub vertex-beyond : vertices s ≤ x → vertex_of s l a lev lay x ≡ refused 15 x
    unfolding vertex_of
    vertex-beyond h = cleared _ _ sheet ∙ rw (le-leb (vertices s) x h)

    pub vertex-within : x < vertices s → vertex_of s l a lev lay x ≡ clear
    unfolding vertex_of
    vertex-within h = cleared _ _ sheet ∙ rw (lt-leb (vertices s) x h)

  -- what is not refused is the defined sheet and a vertex
  pub vertex-sound : SoundTable s l → vertex_of s l a lev lay x ≡ clear → Accepted s l a lev lay × (x < vertices s)
  unfolding vertex_of
  vertex-sound table e =
      let n = vertices s in
      let through = both-passed (sheet_of s l a lev lay) (cond (leb n x) (refused 15 x) clear) e in
      (accepted s l a lev lay table through.0, leb-false n x (went_on (leb n x) 15 x clear through.1).0)

  module _ (m : ℕ) where
    -- of what is admitted the room for marks decides, then sheet and x
    pub marking-room : admit_of s l a ≡ clear → (m ≡ vertices s → ⊥) → marking_of s l a lev lay x m ≡ refused 12 0
    unfolding marking_of
    marking-room e f = cleared _ _ e ∙ rw (ne_eqb m (vertices s) f)

    pub marking-vertex : admit_of s l a ≡ clear → m ≡ vertices s → marking_of s l a lev lay x m ≡ vertex_of s l a lev lay x
    unfolding marking_of
    marking-vertex e f = cleared _ _ e ∙ rw (eq-eqb m (vertices s) f)

    -- what is not refused is admitted, with the defined sheet, a vertex, and room for the marks
    pub marking-sound : marking_of s l a lev lay x m ≡ clear → Admitted s l a × Accepted s l a lev lay × (x < vertices s) × (m ≡ vertices s)
    unfolding marking_of
    marking-sound e =
        let n = vertices s in
        let through = both-passed (admit_of s l a) (cond (eqb m n) (vertex_of s l a lev lay x) (refused 12 0)) e in
        let given = admitted s l a through.0 in
        let room = passed (eqb m n) _ (vertex_of s l a lev lay x) through.1 in
        let vertex = vertex-sound given.table room.1 in
        (given, vertex.0, vertex.1, eqb→eq m n room.0)
