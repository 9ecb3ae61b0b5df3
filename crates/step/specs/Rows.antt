-- Rows of a record: which a step has worked afresh when it comes to vertex u.
use Rattle.std.specs.Prelude.{◌≡◌, Bool, not, cond, ◌&&◌, List, ℕ, length, get_or, ltb}
use Rattle.finite.specs.Count.{count, below}
use Rattle.anchored.specs.Followers.{followers}
use Rattle.pool.specs.Input.{graph_of, anchored_by}
use Rattle.stale.specs.Marks.{marked}
use Rattle.records.specs.Record.{reached_if}
use Rattle.records.specs.declared.Record.{Record}

-- the row of u is stale: u is marked, and not anchored
abbrev pub stale_by : List ℕ → List ℕ → ℕ → Bool
stale_by a marks u = not (anchored_by a u) && marked marks u

-- what a record keeps for each row
pub record Rows : Type 0 where
  pub followers : List ℕ
  pub reached : List ℕ
  pub stamps : List ℕ

abbrev pub rows : List ℕ → List ℕ → List ℕ → Rows
rows fol rea st = record { followers = fol; reached = rea; stamps = st }

abbrev pub rows_of : Record → Rows
rows_of kept = rows kept.followers kept.reached kept.stamp

-- two records differ in their rows alone
pub record SameElsewhere (old new : Record) : Type 0 where
  pub anchored : new.anchored ≡ old.anchored
  pub columns : new.columns ≡ old.columns
  pub bare : new.bare ≡ old.bare
  pub reaching : new.reaching ≡ old.reaching

-- the places below u that pass a test hold f, every other place what it held, and there are as many
pub record Renewed (p : ℕ → Bool) (f : ℕ → ℕ) (old new : List ℕ) (u : ℕ) : Type 0 where
  pub places : (v : ℕ) → get_or new v 0 ≡ cond (ltb v u && p v) (f v) (get_or old v 0)
  pub long : length new ≡ length old

-- the rows below u are done, with the anchors in a: those that pass a test counted afresh and stamped, and their number
pub record Redone (s l a : List ℕ) (reaching : Bool) (p : ℕ → Bool) (position : ℕ) (old new : Rows) (redone u : ℕ) : Type 0 where
  pub counts : Renewed p (followers (graph_of s l) (anchored_by a)) old.followers new.followers u
  pub reaches : Renewed p (reached_if reaching (graph_of s l) (anchored_by a)) old.reached new.reached u
  pub stamps : Renewed p (λ v. position) old.stamps new.stamps u
  pub number : redone ≡ count p (below u)
