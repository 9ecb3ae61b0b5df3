-- The record at the start: bytes that read alike, bare levels, and the plain session without requests. Assumes nothing.
use mathlib.Core.Path.{◌≡◌, refl, ap, subst, ◌∙◌, fun_ext}
use mathlib.Core.Bool.{Bool}
use mathlib.Core.List.{List, ◌++◌}
use Prim.Native.Nat.{ℕ, ◌≤◌}
use native.Mathlib.Omega.{arith}
use Rattle.std.proofs.lemmas.Grind.{common_steps}
use lib.ListN.{length, get_or, drop, replicate, length-replicate}
use lib.Dec.{eqb}
use Rattle.finite.specs.Sets.{has}
use Rattle.finite.proofs.Count.{count-below-le, tabulate-self, copied_in, zeros-at}
use Rattle.table.specs.Table.{vertices, SoundTable}
use Rattle.anchored.specs.Graph.{Graph}
use Rattle.anchored.specs.Core.{level}
use Rattle.anchored.specs.Followers.{follows, followers, candidates, reached}
use Rattle.anchored.specs.Yield.{nobody, bare_level}
use Rattle.anchored.specs.Session.{after}
use Rattle.pool.specs.Input.{graph_of, anchored_by, Admitted}
use Rattle.pool.specs.Arrays.{Holds}
use Rattle.records.specs.Record.{Stands, Copied}
use Rattle.records.specs.declared.Record.{Record}

-- bytes that read alike anchor alike, and are admitted alike
anchored-same : (a b : List ℕ) → ((v : ℕ) → get_or b v 0 ≡ get_or a v 0) → anchored_by b ≡ anchored_by a
anchored-same a b e = fun_ext (λ v. ap (λ z. eqb z 1) (e v))

pub admitted-same : (s l a b : List ℕ) → ((v : ℕ) → get_or b v 0 ≡ get_or a v 0) → vertices s ≤ length b → Admitted s l a → Admitted s l b
admitted-same s l a b e long h = record { table = h.table; long = long; bytes = λ v k. rw (e v) (h.bytes v k) }

-- the array that holds the bytes, with zeros after them
pub padded : (xs : List ℕ) → length xs ≤ 1024 → Copied xs (xs ++ drop (length xs) (replicate 1024 0))
padded xs h = record {
  long = grind (arith, common_steps);
  same = λ v. subst (λ ys. get_or (ys ++ drop (length xs) (replicate 1024 0)) v 0 ≡ get_or xs v 0) (tabulate-self xs (length xs) refl) (copied_in xs 1024 v);
}

-- bytes all 0 are admitted with every sound table, and anchor nobody
pub nobody-admitted : (s l : List ℕ) → SoundTable s l → Admitted s l (replicate 1024 0)
nobody-admitted s l t = record {
  table = t;
  long = omega (arith, t.small, length-replicate {A = ℕ} 1024 0);
  bytes = λ v h. omega (arith, zeros-at 1024 v);
}

nobody-bytes : anchored_by (replicate 1024 0) ≡ nobody
nobody-bytes = fun_ext (λ v. ap (λ (z : ℕ). eqb z 1) (zeros-at 1024 v))

-- so the levels that they give are the bare ones
pub bare_held : (s l bare : List ℕ) → Holds bare (vertices s) (level (graph_of s l) (anchored_by (replicate 1024 0))) → Holds bare (vertices s) (bare_level (graph_of s l))
unfolding bare_level
bare_held s l bare holds v h = holds v h ∙ ap (λ A. level (graph_of s l) A v) nobody-bytes

-- a vertex has at most n followers, and reaches at most n
pub followers-le : (G : Graph) (A : ℕ → Bool) (x : ℕ) → followers G A x ≤ G.size
unfolding followers
followers-le G A x = count-below-le (follows G A x) G.size

pub reached-le : (G : Graph) (A : ℕ → Bool) (x : ℕ) → reached G A x ≤ G.size
unfolding reached
reached-le G A x = count-below-le (has (candidates G A x)) G.size

-- at the start: bytes that read as the given ones, and stamps 0
pub stands-start : (s l given requests : List ℕ) (kept : Record) → ((v : ℕ) → get_or kept.anchored v 0 ≡ get_or given v 0) → Holds kept.stamp (vertices s) (λ v. 0)
    → Stands (vertices s) kept (after (graph_of s l) (anchored_by given) requests 0)
unfolding after
stands-start s l given requests kept e zeros = record { anchors = anchored-same given kept.anchored e; stamps = zeros }
