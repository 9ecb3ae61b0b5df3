-- The record that a session keeps, and the plain session that it stands for.
use Rattle.std.specs.Prelude.{◌≡◌, Bool, cond, List, ℕ, ◌≤◌, length, get_or}
use Rattle.table.specs.Table.{vertices}
use Rattle.anchored.specs.Graph.{Graph}
use Rattle.anchored.specs.Followers.{follower_count, reached}
use Rattle.anchored.specs.Yield.{bare_level}
use Rattle.anchored.specs.Session.{Plain, after}
use Rattle.pool.specs.Input.{graph_of, anchored_by, Admitted}
use Rattle.pool.specs.Arrays.{Holds}
use Rattle.stale.specs.Columns.{ColumnsOf}
use Rattle.records.specs.declared.Record.{Record}

-- how many the search from v reaches, where reached counts are kept, else 0
abbrev pub reached_if : Bool → Graph → (ℕ → Bool) → ℕ → ℕ
reached_if reaching G A v = cond reaching (reached G A v) 0

-- what a row has in that place: 65,535 for an anchored vertex. Where they are kept this is `reached_count`
abbrev pub row_reached : Bool → Graph → (ℕ → Bool) → ℕ → ℕ
row_reached reaching G A v = cond (A v) 65535 (reached_if reaching G A v)

-- the record is right: its columns and the counts of every row are those of its anchored bytes, the bare levels those of its table; there is
-- a stamp for each vertex
pub record Right (s l : List ℕ) (kept : Record) : Type 0 where
  pub admitted : Admitted s l kept.anchored
  pub columns : ColumnsOf (graph_of s l) (anchored_by kept.anchored) kept.columns
  pub bares : Holds kept.bare (vertices s) (bare_level (graph_of s l))
  pub counts : Holds kept.followers (vertices s) (follower_count (graph_of s l) (anchored_by kept.anchored))
  pub counts_long : vertices s ≤ length kept.followers
  pub reaches : Holds kept.reached (vertices s) (row_reached kept.reaching (graph_of s l) (anchored_by kept.anchored))
  pub reaches_long : vertices s ≤ length kept.reached
  pub stamps_long : vertices s ≤ length kept.stamp

-- the plain session that the anchored bytes and the stamps stand for
abbrev pub plain_of : Record → Plain
plain_of kept = record { anchors = anchored_by kept.anchored; stamps = λ v. get_or kept.stamp v 0 }

-- the anchored bytes, and the stamps of n vertices, are those of a plain session
pub record Stands (n : ℕ) (kept : Record) (S : Plain) : Type 0 where
  pub anchors : anchored_by kept.anchored ≡ S.anchors
  pub stamps : Holds kept.stamp n S.stamps

-- the plain session of a table, its given bytes and its requests, after the first i of them
abbrev pub session_of : List ℕ → List ℕ → List ℕ → List ℕ → ℕ → Plain
session_of s l given requests i = after (graph_of s l) (anchored_by given) requests i

-- the record is right, and stands for a plain session
pub record Keeps (s l : List ℕ) (kept : Record) (S : Plain) : Type 0 where
  pub right : Right s l kept
  pub stands : Stands (vertices s) kept S

-- an array holds a list, with zeros after it
pub record Copied (xs ys : List ℕ) : Type 0 where
  pub long : length ys ≡ 1024
  pub same : (v : ℕ) → get_or ys v 0 ≡ get_or xs v 0
