-- A session served event by event: what holds when i events are done, and the record at the end. Assumes nothing.
use mathlib.Core.Path.{◌≡◌, refl, sym, ap, ap₂, ◌∙◌, subst}
use mathlib.Core.Bool.{Bool, true}
use mathlib.Core.List.{List, [], ◌++◌}
use Prim.Native.Nat.{ℕ, ◌+◌, ◌-◌, ◌<◌}
use native.Mathlib.Omega.{arith}
use lib.ListN.{length, drop, get_or, set, length-set}
use Rattle.finite.specs.Count.{bit, tabulate}
use Rattle.finite.proofs.Count.{bit_byte, fill_none, fill_more, fill_all, tabulate_cong}
use Rattle.table.specs.Table.{vertices}
use Rattle.anchored.specs.Graph.{Graph}
use Rattle.anchored.specs.Core.{level, layer}
use Rattle.anchored.specs.Component.{component}
use Rattle.anchored.specs.Followers.{reached_count}
use Rattle.anchored.specs.Yield.{net_yield}
use Rattle.anchored.specs.Session.{Row, after}
use Rattle.anchored.specs.Events.{Pool, event_row, event_turn, after_events}
use Rattle.anchored.proofs.Events.{events-more}
use Rattle.pool.specs.Input.{graph_of, anchored_by, Admitted}
use Rattle.pool.specs.Arrays.{Holds}
use Rattle.stale.specs.Columns.{ColumnsOf}
use Rattle.records.specs.Record.{row_reached, Stands, Keeps, session_of}
use Rattle.records.specs.Yield.{yield_at}
use Rattle.records.specs.declared.Record.{Record}
use Rattle.records.proofs.Nets.{right_yield}
use Rattle.step.specs.Turn.{row_as}
use Rattle.step.specs.declared.Stepped.{Stepped}
use Rattle.edit.specs.Edit.{Tabled}
use Rattle.events.specs.Turn.{pool_of, Turned}
use Rattle.session.specs.Run.{Lists, size, event_at}
use Rattle.session.specs.Runs.{Runs}
use Rattle.session.proofs.Alike.{Alike, alike-row, alike-turn}

-- a slice of one number for each event has those of the first i, and after them what it had
pub record Filled (f : ℕ → ℕ) (old new : List ℕ) (i : ℕ) : Type 0 where
  pub numbers : new ≡ tabulate f i ++ drop i old
  pub long : length new ≡ length old

filled_none : (f : ℕ → ℕ) (old : List ℕ) → Filled f old old 0
filled_none f old = record { numbers = fill_none f old; long = refl }

filled_more : (f : ℕ → ℕ) (old new : List ℕ) (i x : ℕ) → x ≡ f i → i < length old → Filled f old new i → Filled f old (set new i x) (i + 1)
filled_more f old new i x e h filled = record {
  numbers = subst (λ z. set new i z ≡ tabulate f (i + 1) ++ drop (i + 1) old) (sym e) (fill_more f old new i filled.numbers h);
  long = length-set new i x ∙ filled.long;
}

-- filled to its end, it has the numbers of all
pub filled_all : (f : ℕ → ℕ) (old new : List ℕ) (i m : ℕ) → Filled f old new i → i ≡ m → length old ≡ m → new ≡ tabulate f m
filled_all f old new i m filled e long = filled.numbers ∙ fill_all f old i (e ∙ sym long) ∙ ap (tabulate f) e

module _ (G : Graph) (given : List ℕ) (events : Lists) where
  -- the plain session from the graph G on, and the numbers of event i in it
  abbrev pub pool_at : ℕ → Pool
  pool_at i = after_events G (anchored_by given) (event_at events) i

  abbrev pub row_from : ℕ → Row
  row_from i = event_row (pool_at i) (event_at events i)

  -- the table and the record are those of the plain session after i events, whose numbers are written
  pub record Serving (starts₀ links₀ status₀ lifted₀ redone₀ starts links status lifted redone : List ℕ) (kept : Record) (i : ℕ) : Type 0 where
    pub table : Tabled starts links (pool_at i).graph
    pub keeps : Keeps starts links kept (pool_at i).plain
    pub reaching : kept.reaching ≡ true
    pub starts_long : length starts ≡ length starts₀
    pub links_long : length links ≡ length links₀
    pub statuses : Filled (λ k. (row_from k).status) status₀ status i
    pub lifts : Filled (λ k. (row_from k).lifted) lifted₀ lifted i
    pub redos : Filled (λ k. (row_from k).redone) redone₀ redone i

-- what begins a session: the lent table, with zeros past its last start, and the given bytes
pub runs-admitted : {s l m given : List ℕ} {events : Lists} {G : Graph} → Runs s l given events → Tabled s m G → Admitted s m given
runs-admitted runs table = record { table = table.sound; long = omega (arith, runs.long); bytes = runs.bytes }

-- at the start
pub serving_none : {s l given status lifted redone : List ℕ} {events : Lists} {kept : Record} → Tabled s l (graph_of s l) → Keeps s l kept (session_of s l given [] 0) → kept.reaching ≡ true
    → Serving (graph_of s l) given events s l status lifted redone s l status lifted redone kept 0
unfolding after after_events
serving_none {status = status} {lifted = lifted} {redone = redone} table keeps reaching = record {
  table = table;
  keeps = keeps;
  reaching = reaching;
  starts_long = refl;
  links_long = refl;
  statuses = filled_none _ status;
  lifts = filled_none _ lifted;
  redos = filled_none _ redone;
}

-- the pool of a table and a record is alike to one that they stand for
stands_alike : {s l : List ℕ} {kept : Record} {P : Pool} → Tabled s l P.graph → Keeps s l kept P.plain → Alike (vertices s) (pool_of s l kept) P
stands_alike table keeps = record { graph = table.graph; anchors = keeps.stands.anchors; stamps = keeps.stands.stamps }

module _ {G : Graph} {given : List ℕ} {events : Lists} {s₀ l₀ status₀ lifted₀ redone₀ s l status lifted redone : List ℕ} {kept : Record} {i : ℕ} (now : Serving G given events s₀ l₀ status₀ lifted₀ redone₀ s l status lifted redone kept i) where
  -- one event more
  pub serving_more : i < length status₀ → i < length lifted₀ → i < length redone₀ → {s' l' : List ℕ} {left : Stepped} → length s' ≡ length s → length l' ≡ length l
      → Turned s l (i + 1) (event_at events i) kept s' l' left
      → Serving G given events s₀ l₀ status₀ lifted₀ redone₀ s' l' (set status i left.row.status) (set lifted i left.row.lifted) (set redone i left.row.redone) left.kept (i + 1)
  serving_more hs hl hr {s'} {l'} {left} starts-kept links-kept turned =
      let e = event_at events i in
      let before = stands_alike {P = pool_at G given events i} now.table now.keeps in
      let after : Alike (vertices s) (event_turn (i + 1) e (pool_of s l kept)) (pool_at G given events (i + 1)) =
      subst (Alike (vertices s) (event_turn (i + 1) e (pool_of s l kept))) (sym (events-more G (anchored_by given) (event_at events) i)) (alike-turn before e (i + 1)) in
      let same : row_as left.row ≡ row_from G given events i = turned.row ∙ alike-row before e in
      record {
        table = subst (Tabled s' l') after.graph turned.table;
        keeps = record {
          right = turned.right;
          stands = subst (λ n. Stands (n - 1) left.kept (pool_at G given events (i + 1)).plain) (sym starts-kept) record {
            anchors = turned.stands.anchors ∙ after.anchors;
            stamps = λ v h. turned.stands.stamps v h ∙ after.stamps v h;
          };
        };
        reaching = turned.reaching ∙ now.reaching;
        starts_long = starts-kept ∙ now.starts_long;
        links_long = links-kept ∙ now.links_long;
        statuses = filled_more _ status₀ status i left.row.status (ap (λ z. z.status) same) hs now.statuses;
        lifts = filled_more _ lifted₀ lifted i left.row.lifted (ap (λ z. z.lifted) same) hl now.lifts;
        redos = filled_more _ redone₀ redone i left.row.redone (ap (λ z. z.redone) same) hr now.redos;
      }

  -- all of them, from a graph that is the same
  pub serving_all : {H : Graph} → G ≡ H → i ≡ size events → length status₀ ≡ size events → length lifted₀ ≡ size events → length redone₀ ≡ size events
      → let end = pool_at H given events (size events) in
      (Tabled s l end.graph × Keeps s l kept end.plain × (kept.reaching ≡ true))
      × ((status ≡ tabulate (λ k. (row_from H given events k).status) (size events))
      × ((lifted ≡ tabulate (λ k. (row_from H given events k).lifted) (size events)) × (redone ≡ tabulate (λ k. (row_from H given events k).redone) (size events))))
  serving_all {H} same end hs hl hr =
      let done = subst (λ g. Serving g given events s₀ l₀ status₀ lifted₀ redone₀ s l status lifted redone kept i) same now in (
        subst (λ k. let P = pool_at H given events k in Tabled s l P.graph × Keeps s l kept P.plain × (kept.reaching ≡ true)) end (done.table, done.keeps, done.reaching),
        (filled_all _ _ _ _ _ done.statuses end hs, (filled_all _ _ _ _ _ done.lifts end hl, filled_all _ _ _ _ _ done.redos end hr)),
      )

-- ---- the end

-- a slice that is filled from a record has what the record holds
pub copied_out : {X : Type 0} (f g : ℕ → X) (new : List X) (k n : ℕ) → new ≡ tabulate g k → k ≡ n → ((v : ℕ) → v < n → g v ≡ f v) → new ≡ tabulate f n
copied_out f g new k n copied e same = copied ∙ ap (tabulate g) e ∙ tabulate_cong g f n same

-- the record at the end, in the words of the plain session
module _ {s l : List ℕ} {kept : Record} {P : Pool} {n : ℕ} (table : Tabled s l P.graph) (keeps : Keeps s l kept P.plain) (size : vertices s ≡ n) where
  abbrev A : ℕ → Bool
  A = P.plain.anchors

  columns : ColumnsOf P.graph A kept.columns
  columns = subst (λ g. ColumnsOf g A kept.columns) table.graph (subst (λ B. ColumnsOf (graph_of s l) B kept.columns) keeps.stands.anchors keeps.right.columns)

  within : (v : ℕ) → v < n → v < P.graph.size
  within v h = omega (arith, size, ap (λ g. g.size) table.graph)

  pub end-anchored : Holds kept.anchored n (λ v. bit (A v))
  end-anchored v h = subst (λ B. get_or kept.anchored v 0 ≡ bit (B v)) keeps.stands.anchors (sym (bit_byte (get_or kept.anchored v 0) (keeps.right.admitted.bytes v (omega arith))))

  pub end-levels : Holds kept.columns.level n (level P.graph A)
  end-levels v h = columns.levels v (within v h)

  pub end-layers : Holds kept.columns.layer n (layer P.graph A)
  end-layers v h = columns.layers v (within v h)

  pub end-components : Holds kept.columns.component n (component P.graph A)
  end-components v h = columns.components v (within v h)

  pub end-yields : (v : ℕ) → v < n → yield_at kept v ≡ net_yield P.graph A v
  end-yields v h = right_yield keeps.right v (omega arith) ∙ ap₂ (λ g B. net_yield g B v) table.graph keeps.stands.anchors

  pub end-reached : kept.reaching ≡ true → Holds kept.reached n (reached_count P.graph A)
  unfolding reached_count
  end-reached reaching v h =
      keeps.right.reaches v (omega arith)
      ∙ ap (λ b. row_reached b (graph_of s l) (anchored_by kept.anchored) v) reaching
      ∙ ap₂ (λ g B. row_reached true g B v) table.graph keeps.stands.anchors

  pub end-stamps : Holds kept.stamp n P.plain.stamps
  end-stamps v h = keeps.stands.stamps v (omega arith)
