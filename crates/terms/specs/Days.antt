-- Days worked out one after the other: what the steps promise one another.
use Rattle.std.specs.Prelude.{◌≡◌, cond, Option, Some, None, List, ℕ, ◌≤◌, ◌<◌, length, get_or, ltb}
use Rattle.finite.specs.Count.{bit, below}
use Rattle.finite.specs.Search.{any}
use Rattle.anchored.specs.Terms.{Terms, runs_for}

-- three lists of one length, of vertices below n
pub record TermsBelow (n : ℕ) (t : Terms) : Type 0 where
  pub firsts : length t.firsts ≡ length t.vertices
  pub ends : length t.ends ≡ length t.vertices
  pub within : (i : ℕ) → i < length t.vertices → get_or t.vertices i 0 < n

-- the bytes are 1 for just the vertices that one of the first m terms anchors on the day
pub record Shows (t : Terms) (day : ℕ) (bytes : List ℕ) (m : ℕ) : Type 0 where
  pub long : length bytes ≡ 1024
  pub marks : (v : ℕ) → get_or bytes v 0 ≡ bit (any (runs_for t day v) (below m))

-- r is the least of `until` and those of the first m ends that are after the day
pub record Nearest (es : List ℕ) (day until m r : ℕ) : Type 0 where
  pub after : day < r
  pub upto : r ≤ until
  pub least : (i : ℕ) → i < m → day < get_or es i 0 → r ≤ get_or es i 0
  pub one : r < until → (i : ℕ) × (i < m) × (get_or es i 0 ≡ r)

-- a day, if it is before the end of the span
abbrev pub day_before : ℕ → ℕ → Option ℕ
day_before until day = cond (ltb day until) (Some day) None
