-- Laws of the lines of the text: answers read back, and lines that were read, by their parts. Assumes nothing.
use mathlib.Core.Path.{◌≡◌, refl, sym, ap, ◌∙◌}
use mathlib.Core.Bool.{Bool, true, false, cond}
use mathlib.Core.List.{List}
use Prim.Native.Nat.{ℕ, ◌+◌, ◌*◌, ◌≤◌}
use native.Mathlib.Omega.{arith}
use lib.ListN.{length}
use lib.Dec.{eqb}
use borrow.Author.Tests.{eqb-true, eq-eqb}
use Rattle.finite.specs.Bytes.{bytes}
use Rattle.finite.specs.Search.{ascending}
use Rattle.reader.specs.Number.{on_number}
use Rattle.std.specs.Prelude.{Option, Some, None}
use Rattle.std.proofs.lemmas.Option.{some_pair_parts}
use Rattle.reader.specs.Form.{skip_at, on_next, form_at}
use Rattle.lines.specs.List.{Numbers, none, ended, list_at, ordered}
use Rattle.lines.specs.Line.{closed, rider_at, retained_at, number_of_form, kept, kept_form, kept_list}
use Rattle.lines.specs.declared.line.Form.{Form}
use Rattle.lines.specs.declared.line.Line.{Line}
use Rattle.reader.proofs.Forms.{skip_in, form_in}
use Rattle.lines.proofs.Lists.{list-long}

-- ---- answers read back

-- a list that ended, with what it came to
pub ended_at : {A : Type 0} (k : A) (s : Option ℕ) (e : A) (c : ℕ) → ended k s ≡ Some (e, c) → (s ≡ Some c) × (e ≡ k)
ended_at k None e c q = absurd cc
ended_at k (Some d) e c q = let parts = some_pair_parts k e d c q in (ap Some parts.1, sym parts.0)

pub ended_departs : {A : Type 0} (k : A) (s : Option ℕ) → ended k s ≡ None → s ≡ None
ended_departs k None q = refl
ended_departs k (Some d) q = absurd cc

-- a line with a list
module _ {A : Type 0} (number : ℕ) (form : Form) (k : A) (r : Numbers) where
  pub list-kept : (l : Line) (e : A) (c : ℕ) → kept_list number form k r ≡ Some ((l, e), c) → (r.next ≡ Some c) × (e ≡ k) × (l.number ≡ number)
  list-kept l e c q =
      let ends = ended_at (kept number form k) r.next (l, e) c q in
      (ends.0, ap (λ (x : Line × A). x.1) ends.1, ap (λ (x : Line × A). x.0.number) ends.1)

  pub list_line_departs : kept_list number form k r ≡ None → r.next ≡ None
  list_line_departs q = ended_departs (kept number form k) r.next q

-- a line with one number, which its form keeps
module _ (number : ℕ) (form : ℕ → Form) (keeps : (v : ℕ) → number_of_form (form v) ≡ Some v) where
  pub form_kept : (m : Option (ℕ × ℕ)) (l : Line) (v c : ℕ) → kept_form number form m ≡ Some ((l, v), c) → (m ≡ Some (v, c)) × (l.number ≡ number) × (number_of_form l.form ≡ Some v)
  form_kept None l v c q = absurd cc
  form_kept (Some (w, d)) l v c q =
      let parts = some_pair_parts (kept number (form w) w) (l, v) d c q in
      let value : w ≡ v = ap (λ (x : Line × ℕ). x.1) parts.0 in
      let line : record { number = number; form = form w } ≡ l = ap (λ (x : Line × ℕ). x.0) parts.0 in
      (rw (value, parts.1), ap (λ (x : Line). x.number) (sym line), ap (λ (x : Line). number_of_form x.form) (sym line) ∙ keeps w ∙ ap Some value)

  pub form_departs : (m : Option (ℕ × ℕ)) → kept_form number form m ≡ None → m ≡ None
  form_departs None q = refl
  form_departs (Some (w, d)) q = absurd cc

-- ---- the line of a rider

abbrev pub rider_head : List ℕ
rider_head = bytes "(rider "

abbrev pub rider_with : List ℕ
rider_with = bytes " (with"

abbrev pub rider_tail : List ℕ
rider_tail = bytes "))\n"

rider_same : (t : List ℕ) (v p x first : ℕ) → form_at t p rider_head rider_with ≡ Some (x, first) → x ≡ v → rider_at t v p ≡ closed t rider_tail (list_at t first)
unfolding rider_at
rider_same t v p x first e s = rw (e, eq-eqb x v s)

-- ---- the line of the retained

abbrev pub retained_head : List ℕ
retained_head = bytes "(retained"

abbrev pub line_tail : List ℕ
line_tail = bytes ")\n"

-- ---- lines that were read, by their parts

-- the line of a rider: its number, its list, and the bytes that close it
pub record RiderParts (t : List ℕ) (v p c : ℕ) : Type 0 where
  pub first : ℕ
  pub last : ℕ
  pub opened : form_at t p rider_head rider_with ≡ Some (v, first)
  pub list : (list_at t first).next ≡ Some last
  pub shut : skip_at t last rider_tail ≡ Some c
  pub values : (rider_at t v p).values ≡ (list_at t first).values

pub rider_parts : (t : List ℕ) (v p c : ℕ) → (rider_at t v p).next ≡ Some c → RiderParts t v p c
unfolding rider_at
rider_parts t v p c e = opening (form_at t p rider_head rider_with) refl e
  where
    closing : (x first : ℕ) → form_at t p rider_head rider_with ≡ Some (x, first) → x ≡ v → (s : Option ℕ) → (list_at t first).next ≡ s → on_next s (λ last. skip_at t last rider_tail) None ≡ Some c → RiderParts t v p c
    closing x first h w None k q = absurd cc
    closing x first h w (Some last) k q =
        record {
          first = first;
          last = last;
          opened = rw w at h;
          list = k;
          shut = q;
          values = ap (λ (r : Numbers). r.values) (rider_same t v p x first h w);
        }

    same : (x first : ℕ) → form_at t p rider_head rider_with ≡ Some (x, first) → (b : Bool) → eqb x v ≡ b
        → (cond b (closed t rider_tail (list_at t first)) (none None)).next ≡ Some c → RiderParts t v p c
    same x first h true k q = closing x first h (eqb-true x v k) (list_at t first).next refl q
    same x first h false k q = absurd cc

    opening : (m : Option (ℕ × ℕ)) → form_at t p rider_head rider_with ≡ m
        → (on_number m (λ x first. cond (eqb x v) (closed t rider_tail (list_at t first)) (none None)) (none None)).next ≡ Some c → RiderParts t v p c
    opening None h q = absurd cc
    opening (Some (x, first)) h q = same x first h (eqb x v) refl q

-- it takes two bytes or more for each number, within the text
pub rider_long : (t : List ℕ) (v p c : ℕ) → (rider_at t v p).next ≡ Some c → (p + 2 * length (rider_at t v p).values ≤ c) × (c ≤ length t)
rider_long t v p c e =
    let r = rider_parts t v p c e in
    let a = form_in t p 40 (bytes "rider ") 32 (bytes "(with") v r.first r.opened in
    let b = list-long t r.first r.last r.list in
    let d = skip_in t r.last 41 (bytes ")\n") c r.shut in
    (omega (arith, ap length r.values), d.1)

-- the line of the retained: its list, which ascends, and the bytes that close it
pub record RetainedParts (t : List ℕ) (p c : ℕ) : Type 0 where
  pub first : ℕ
  pub last : ℕ
  pub opened : skip_at t p retained_head ≡ Some first
  pub list : (list_at t first).next ≡ Some last
  pub sorted : ascending (list_at t first).values ≡ true
  pub shut : skip_at t last line_tail ≡ Some c
  pub values : (retained_at t p).values ≡ (list_at t first).values

pub retained_parts : (t : List ℕ) (p c : ℕ) → (retained_at t p).next ≡ Some c → RetainedParts t p c
unfolding retained_at
retained_parts t p c e = opening (skip_at t p retained_head) refl e
  where
    closing : (first : ℕ) → skip_at t p retained_head ≡ Some first → (b : Bool) (s : Option ℕ) → ascending (list_at t first).values ≡ b → (list_at t first).next ≡ s
        → on_next (cond b s None) (λ last. skip_at t last line_tail) None ≡ Some c → RetainedParts t p c
    closing first h false s j k q = absurd cc
    closing first h true None j k q = absurd cc
    closing first h true (Some last) j k q = record { first = first; last = last; opened = h; list = k; sorted = j; shut = q; values = rw h }

    opening : (s : Option ℕ) → skip_at t p retained_head ≡ s → (on_next s (λ first. closed t line_tail (ordered (list_at t first))) (none None)).next ≡ Some c → RetainedParts t p c
    opening None h q = absurd cc
    opening (Some first) h q = closing first h (ascending (list_at t first).values) (list_at t first).next refl refl q
