-- What a call that is not refused is handed, and what its answer says. Assumes nothing.
use mathlib.Core.Path.{◌≡◌, refl}
use mathlib.Core.Logic.{inl, inr}
use mathlib.Core.List.{List, [], ◌∷◌}
use Rattle.std.specs.Prelude.{None}
use Prim.Native.Nat.{ℕ, ◌≤◌, ◌<◌}
use native.Mathlib.Omega.{arith}
use lib.ListN.{length, get_or}
use lib.Dec.{leb, ltb, eqb}
use borrow.Author.Tests.{le-ltb, ltb-false, leb-false}
use Rattle.finite.specs.Search.{all, first}
use Rattle.finite.proofs.Search.{first-le, none_of}
use Rattle.table.specs.Table.{vertices, check_of, SoundTable}
use Rattle.table.specs.Guard.{clear}
use Rattle.table.specs.declared.size.Size.{Size}
use Rattle.table.proofs.Guards.{both-passed}
use Rattle.table.proofs.Laws.{went_on, sound}
use Rattle.anchored.specs.Terms.{Terms, terms, changes_on, first_under, first_under_on}
use Rattle.anchored.proofs.Terms.{changes_suffice, no_span}
use Rattle.pool.specs.Input.{graph_of}
use Rattle.pool.specs.Lengths.{outside}
use Rattle.pool.proofs.Laws.{simple}
use Rattle.pool.proofs.Lengths.{passed, each}
use Rattle.terms.specs.Days.{TermsBelow}
use Rattle.first_day.specs.Answers.{vertices_of, spans_of, lists_of, first_day_of, day_of}
-- the computed cases come before the laws, so that a wrong definition is refused at a figure
use Rattle.first_day.specs.Cases.{refusals}

-- lists that are not refused are of one length, of vertices, and x is one
pub lists-told : (n : ℕ) (vs fs es : List ℕ) (x : ℕ) → lists_of n vs fs es x ≡ clear → TermsBelow n (terms vs fs es) × (x < n)
unfolding lists_of
lists-told n vs fs es x e =
    let m = length vs in
    let lengths = length fs ∷ length es ∷ [] in
    let alike = passed (all (eqb m) lengths) _ (vertices_of n vs x (spans_of vs fs es)) e in
    let i = first (outside n vs) m in
    let known = went_on (ltb i m) 15 (get_or vs i 0) _ alike.1 in
    let asked = went_on (leb n x) 15 x (spans_of vs fs es) known.1 in
    let none = none_of (outside n vs) m (omega (arith, first-le (outside n vs) m, ltb-false i m known.0)) in (
      record {
        firsts = each m lengths alike.0 (length fs) (inl refl);
        ends = each m lengths alike.0 (length es) (inr (inl refl));
        within = λ j b. leb-false n (get_or vs j 0) (none j b);
      },
      leb-false n x asked.0,
    )

module _ (s l vs fs es : List ℕ) (x : ℕ) (e : first_day_of s l vs fs es x ≡ clear) where
  -- a call that is not refused is handed a sound table, terms of its vertices, and a vertex
  pub call_told : SoundTable s l × TermsBelow (vertices s) (terms vs fs es) × (x < vertices s)
  unfolding first_day_of
  call_told =
      let through = both-passed (check_of s l) (lists_of (vertices s) vs fs es x) e in
      let lists = lists-told (vertices s) vs fs es x through.1 in
      (sound s l through.0, lists.0, lists.1)

  -- card 8: the days on which some term starts or ends, and the span's first, give its answer
  pub call_changes : (k from until : ℕ) → k ≤ 65535
      → first_under_on (terms vs fs es) (graph_of s l) x k (changes_on (terms vs fs es)) from until ≡ first_under (terms vs fs es) (graph_of s l) x k from until
  call_changes k from until small = changes_suffice (terms vs fs es) (graph_of s l) (simple call_told.0) x k call_told.2 small from until

-- a span whose end is not after its first day answers none
pub span_never : (t : Terms) (s l : List ℕ) (x k from until : ℕ) (size : Size) → until ≤ from → day_of (first_under t (graph_of s l) x k from until) until size ≡ (None, size)
unfolding day_of
span_never t s l x k from until size h = rw (le-ltb (first_under t (graph_of s l) x k from until) until (no_span t (graph_of s l) x k from until h))
