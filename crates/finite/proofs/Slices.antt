-- Parts of a list from one place up to another, as a queue is filled and read. Assumes nothing.
use mathlib.Core.Path.{◌≡◌, sym, ap, ◌∙◌}
use mathlib.Core.List.{List, [], ◌∷◌, ◌++◌, append_assoc}
use Prim.Native.Nat.{ℕ, ◌+◌, ◌≤◌, ◌<◌}
use native.Mathlib.Numerals.{add-one}
use native.Mathlib.Omega.{arith}
use lib.ListN.{length, take, drop, set, take-append-drop}
use lib.Seq.{slice, take-suc-set, take-take, drop_at, drop-append-le, length-take-le}

-- the part that one store at the end adds
pub slice_one : (queue : List ℕ) (tail w : ℕ) → tail < length queue → slice tail (tail + 1) (set queue tail w) ≡ w ∷ []
slice_one queue tail w h = rw (add-one, take-suc-set queue tail w h) (drop_at (take tail queue) (w ∷ []) tail (length-take-le tail queue (omega arith)))

-- while the first places keep their contents, so do the parts within
pub slice_kept : (queue queue' : List ℕ) (head end tail : ℕ) → end ≤ tail → take tail queue' ≡ take tail queue → slice head end queue' ≡ slice head end queue
slice_kept queue queue' head end tail h e = ap (drop head) (sym (take-take end tail queue' h) ∙ ap (take end) e ∙ take-take end tail queue h)

-- two parts that meet are one
pub slice_join : (queue : List ℕ) (head end tail : ℕ) → head ≤ end → end ≤ tail → end ≤ length queue → slice head end queue ++ slice end tail queue ≡ slice head tail queue
slice_join queue head end tail h g fits =
    let parts : take tail queue ≡ take end queue ++ slice end tail queue = sym (take-append-drop end (take tail queue)) ∙ ap (λ xs. xs ++ slice end tail queue) (take-take end tail queue g) in
    sym (ap (drop head) parts ∙ drop-append-le head (take end queue) (slice end tail queue) (omega (arith, length-take-le end queue fits)))

-- what is added after what was added
pub slice_added : (queue queue' xs : List ℕ) (tail end tail' : ℕ) → tail ≤ end → end ≤ tail' → end ≤ length queue' → take end queue' ≡ take end queue
    → xs ++ slice tail end queue ++ slice end tail' queue' ≡ xs ++ slice tail tail' queue'
slice_added queue queue' xs tail end tail' h g fits kept =
    append_assoc xs (slice tail end queue) (slice end tail' queue')
    ∙ ap (λ ys. xs ++ ys) (ap (λ ys. ys ++ slice end tail' queue') (sym (slice_kept queue queue' tail end end (omega arith) kept)) ∙ slice_join queue' tail end tail' h g fits)
