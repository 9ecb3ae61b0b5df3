-- The component list: each component once and no other, by falling level, then by rising number. Assumes nothing.
use mathlib.Core.Path.{◌≡◌}
use mathlib.Core.Bool.{Bool, ◌&&◌}
use mathlib.Core.List.{List}
use Prim.Native.Nat.{ℕ, ◌<◌}
use native.Mathlib.Omega.{arith}
use lib.ListN.{length, get_or}
use lib.Dec.{T, ltb, eqb, eqb→eq}
use Rattle.finite.specs.Count.{bit, count, below, In}
use Rattle.finite.specs.Falling.{Precedes}
use Rattle.finite.proofs.Tests.{split, true_of}
use Rattle.finite.proofs.Falling.{in_falling, falling_once, falling-length, falling-order, falling_only}
use Rattle.anchored.specs.Graph.{Graph, Simple}
use Rattle.anchored.specs.Core.{level}
use Rattle.anchored.specs.Component.{component, heads, ranked}
use Rattle.anchored.proofs.Core.{level-lt, level-anchored}

module _ (G : Graph) (L : Simple G) (A : ℕ → Bool) where
  -- the list starts high enough: every component's level is below the size
  head_level : (v : ℕ) → v < G.size → T (heads G A v) → level G A v < G.size
  unfolding heads component
  head_level v b h = split (A v)
      (λ a.
      let e : T (eqb 65535 v) = rw (true_of (A v) a) at h in
      omega (arith, eqb→eq 65535 v e, level-anchored G L A v a))
      (level-lt G L A v b)

  -- each component stands once, and nothing else does
  pub ranked_once : (v : ℕ) → count (eqb v) (ranked G A) ≡ bit (ltb v G.size && heads G A v)
  unfolding ranked
  ranked_once = falling_once (level G A) (heads G A) G.size head_level

  pub ranked-in : (v : ℕ) → In v (ranked G A) → (v < G.size) × T (heads G A v)
  unfolding ranked
  ranked-in v i = let m = (in_falling (level G A) (heads G A) G.size G.size v).0 i in (m.0, m.1)

  -- there are as many entries as components
  pub ranked-length : length (ranked G A) ≡ count (heads G A) (below G.size)
  unfolding ranked
  ranked-length = falling-length (level G A) (heads G A) G.size head_level

  -- of two entries the earlier has the higher level, or the same level and the lower number
  pub ranked-order : (i j : ℕ) → i < j → j < length (ranked G A) → Precedes (level G A) (get_or (ranked G A) i 0) (get_or (ranked G A) j 0)
  unfolding ranked
  ranked-order = falling-order (level G A) (heads G A) G.size G.size

  -- so the list is the only one that has each component once in this order
  pub ranked_only : (l : List ℕ) → ((v : ℕ) → count (eqb v) l ≡ bit (ltb v G.size && heads G A v)) → ((i j : ℕ) → i < j → j < length l → Precedes (level G A) (get_or l i 0) (get_or l j 0)) → l ≡ ranked G A
  unfolding ranked
  ranked_only = falling_only (level G A) (heads G A) G.size head_level
