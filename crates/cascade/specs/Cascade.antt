-- The cascade over plain lists: who holds whom, how many still hold a vertex, and what holds after each withdrawal.
use Rattle.std.specs.Prelude.{◌≡◌, ◌↔◌, Bool, not, cond, ◌&&◌, ◌||◌, List, ℕ, ◌≤◌, ◌<◌, length, take, get_or, T, leb, ltb, eqb}
use Rattle.finite.specs.Count.{bit, count, In, Distinct}
use Rattle.finite.specs.Search.{member}
use Rattle.table.specs.Table.{vertices, neighbors}
use Rattle.anchored.specs.Followers.{adding}
use Rattle.anchored.specs.Collapse.{falls, exposed}
use Rattle.pool.specs.Input.{graph_of, anchored_by}

module _ (levels : List ℕ) where
  -- p, there, holds w: it is of no lower level; an anchored one, of level 65,535, holds everybody
  abbrev pub upholds : ℕ → ℕ → Bool
  upholds w p = leb (get_or levels w 0) (get_or levels p 0)

  -- p, withdrawn, holds w no longer: it is x, or it was of w's level and falls below it
  abbrev pub lapses : ℕ → ℕ → ℕ → Bool
  lapses x w p = eqb x p || eqb (get_or levels p 0) (get_or levels w 0)

  -- p holds w beside those out
  unfoldable pub holds_of : ℕ → (ℕ → Bool) → ℕ → ℕ → Bool
  holds_of x out w p = upholds w p && not (out p && lapses x w p)

  -- w loses a holder when u is withdrawn
  abbrev pub loses : ℕ → ℕ → ℕ → Bool
  loses x u w = upholds w u && lapses x w u

  -- v is found to fall: too few are kept for it
  abbrev pub fell : List ℕ → ℕ → Bool
  fell support v = ltb (get_or support v 0) (get_or levels v 0)

  -- w, not found to fall yet and neither anchored nor x, loses a holder
  unfoldable pub relies_of : List ℕ → List ℕ → ℕ → ℕ → ℕ → Bool
  relies_of a support x u w = not (fell support w) && not (adding (anchored_by a) x w) && loses x u w

  module _ (s l : List ℕ) where
    -- how many hold w: as kept, or, where 65,535 says that w was not touched yet, all of no lower level
    unfoldable pub held_by : List ℕ → ℕ → ℕ
    held_by support w = cond (eqb (get_or support w 0) 65535) (count (upholds w) (neighbors s l w)) (get_or support w 0)

    -- as many as its level asks: with one less w falls
    abbrev pub tight : List ℕ → ℕ → Bool
    tight support w = eqb (held_by support w) (get_or levels w 0)

  -- the mark of v by what is kept
  unfoldable pub fell_by : List ℕ → ℕ → ℕ
  fell_by support v = bit (fell support v)

-- p is withdrawn from w: it is one of the first `head` of those fallen, or the next, if w is among the neighbors ws already told
abbrev pub withdrawn : List ℕ → ℕ → List ℕ → ℕ → ℕ → Bool
withdrawn fallen head ws w p = member p (take head fallen) || (member w ws && eqb (get_or fallen head 0) p)

-- the first `end` of `fallen` are x and those found to fall, each once, which do fall; for the others it is kept how many hold them beside the
-- withdrawn. Only vertices to be searched are touched, and never x or an anchored one
pub record Falling (s l a levels : List ℕ) (x : ℕ) (out : ℕ → ℕ → Bool) (support fallen : List ℕ) (end : ℕ) : Type 0 where
  pub support_long : vertices s ≤ length support
  pub fallen_long : vertices s ≤ length fallen
  pub room : end ≤ length fallen
  pub distinct : Distinct (take end fallen)
  pub self : In x (take end fallen)
  pub down : (v : ℕ) → In v (take end fallen) → (v < vertices s) × T (eqb x v || falls (graph_of s l) (anchored_by a) x v)
  pub within : (w p : ℕ) → T (out w p) → In p (take end fallen)
  pub listed : (w : ℕ) → w < vertices s → T (not (adding (anchored_by a) x w)) → In w (take end fallen) ↔ T (fell levels support w)
  pub kept : (w : ℕ) → w < vertices s → T (not (adding (anchored_by a) x w)) → (In w (take end fallen) → ⊥)
      → held_by levels s l support w ≡ count (holds_of levels x (out w) w) (neighbors s l w)
  pub touched : (w : ℕ) → w < vertices s → (get_or support w 0 ≡ 65535 → ⊥) → T (exposed (graph_of s l) (anchored_by a) x w)
  pub untouched : (w : ℕ) → w < vertices s → T (adding (anchored_by a) x w) → get_or support w 0 ≡ 65535
