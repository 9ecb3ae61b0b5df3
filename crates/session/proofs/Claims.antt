-- Demand 3, proved of every call that is not refused. Assumes nothing.
use mathlib.Core.Path.{◌≡◌, refl, sym, ap, ap₂, ◌∙◌, subst}
use mathlib.Core.Bool.{Bool, not, cond, ◌&&◌, ◌||◌}
use mathlib.Core.List.{List}
use Prim.Native.Nat.{ℕ, zero, suc, ◌+◌, ◌-◌, ◌≤◌, ◌<◌}
use native.Mathlib.Numerals.{add-one}
use native.Mathlib.Omega.{arith}
use lib.ListN.{take, get_or}
use lib.IntN.{ℤ, pos, ◌+ℤ◌, ◌-ℤ◌}
use lib.Dec.{T, eqb, eqb→eq}
use Rattle.finite.specs.Count.{bit, tabulate, sum, below}
use Rattle.finite.proofs.Tests.{split, true_of, false_of}
use Rattle.finite.proofs.Count.{bit_byte, tabulate-at, tabulate_cong, tabulate-self}
use Rattle.table.specs.Table.{vertices}
use Rattle.table.specs.Guard.{clear}
use Rattle.anchored.specs.Graph.{Graph, Simple}
use Rattle.anchored.specs.Core.{level, layer}
use Rattle.anchored.specs.Component.{component}
use Rattle.anchored.specs.Followers.{followers, reached_count}
use Rattle.anchored.specs.Yield.{bare_level, net, net_yield, climbed}
use Rattle.anchored.specs.Session.{Row}
use Rattle.anchored.specs.Events.{Event, Pool, anchors, event_status, event_row, event_turn, after_events, gained_from}
use Rattle.anchored.proofs.Events.{turn-none, climbed_stretch, row-none, row-status}
use Rattle.anchored.proofs.Order.{after-prefix}
use Rattle.pool.specs.Input.{graph_of, anchored_by}
use Rattle.edit.specs.Edit.{last_start, starts_of, links_of}
use Rattle.session.specs.Run.{Lists, size, prefix, event_at, Slices, sized, run_of, pool_of, row_at, ended}
use Rattle.session.specs.Claim.{found_with, upto, graph, set, size_at, redone, shown, climbs, gains, Stays, Fresh, Plainly, Anchors, Edits, Refuses, Anchoring, Claim}
use Rattle.session.specs.Runs.{Runs}
use Rattle.session.proofs.Runs.{prefix-size, prefix-all, runs-prefix, run_passes, run_sound}
use Rattle.session.proofs.Tables.{Standing, start_starts, start_links, pools_stand}
use Rattle.session.proofs.Records.{pool-simple, set_is, bytes-admitted, search-reached, yield_anchored, yield_free, reached-anchored, yield_made, climbs_are}
use Rattle.session.proofs.Rows.{status-same}
use Rattle.session.proofs.Events.{Accepted}
use Rattle.session.proofs.Events as event

module _ (s l given : List ℕ) (events : Lists) (runs : Runs s l given events) where
  abbrev n : ℕ
  n = vertices s

  abbrev m : ℕ
  m = size events

  abbrev record_at : ℕ → Slices
  record_at i = upto s l given events i

  abbrev graph_at : ℕ → Graph
  graph_at i = graph s l given events i

  abbrev set_at : ℕ → ℕ → Bool
  set_at i = set s l given events i

  abbrev shown_at : ℕ → Row
  shown_at i = shown s l given events i

  -- the pool that the table and the record after i events are made from
  abbrev P : ℕ → Pool
  P i = pool_of s l given (prefix i events) (size (prefix i events))

  -- it is the pool of the whole list after i events
  prefix-pool : (i : ℕ) → i ≤ m → P i ≡ pool_of s l given events i
  prefix-pool i h = rw (prefix-size events i h) (after-prefix (graph_of s l) (anchored_by given) events.kinds events.firsts events.seconds i)

  -- one event more
  pool-more : (i : ℕ) → pool_of s l given events (i + 1) ≡ event_turn (i + 1) (event_at events i) (pool_of s l given events i)
  unfolding after_events
  pool-more i = rw add-one

  -- ---- one record

  module _ (i : ℕ) where
    stands : Standing n (P i)
    stands = pools_stand s l runs.table given runs.long (event_at (prefix i events)) (size (prefix i events))

    -- what is defined for the graph of the slices and the set of the bytes is defined for the pool
    in_slices : {X : Type 0} (f : Graph → (ℕ → Bool) → X) → f (graph_at i) (set_at i) ≡ f (P i).graph (P i).plain.anchors
    in_slices f = ap₂ f stands.tabled.graph (set_is stands)

    in_set : (v : ℕ) → T (set_at i v) → T ((P i).plain.anchors v)
    in_set v = subst (λ B. T (B v)) (set_is stands)

    in_none : (v : ℕ) → T (not (set_at i v)) → T (not ((P i).plain.anchors v))
    in_none v = subst (λ B. T (not (B v))) (set_is stands)

    stays_at : Stays s l given events i
    stays_at = record {
      table = stands.lent;
      vertices = stands.vertices;
      places = stands.tabled.places;
      zeros = stands.tabled.padded.zeros;
    }

    fresh_at : Fresh s l given events i
    fresh_at = record {
      admitted = bytes-admitted stands;
      levels = sym (in_slices (λ g B. tabulate (level g B) n));
      layers = sym (in_slices (λ g B. tabulate (layer g B) n));
      components = sym (in_slices (λ g B. tabulate (component g B) n));
      anchored = λ v b t. (yield_anchored stands v b (in_set v t), reached-anchored stands v b (in_set v t));
      search = λ v b t. search-reached stands v b (in_none v t) ∙ sym (in_slices (λ g B. found_with (followers g B v) (get_or (record_at i).reached v 0) (size_at s l given events i)));
      yields = λ v b t. yield_free stands v b (in_none v t) ∙ yield_made stands v b
          ∙ sym (in_slices (λ g B. pos (followers g B v) -ℤ pos (get_or (record_at i).levels v 0 - bare_level g v)));
    }

    plain_at : i ≤ m → Plainly s l given events i
    plain_at h = let same = prefix-pool i h in record {
      graph = stands.tabled.graph ∙ ap (λ R. R.graph) same;
      anchored = ap (λ R. tabulate (λ v. bit (R.plain.anchors v)) n) same;
      stamps = ap (λ R. tabulate R.plain.stamps n) same;
    }

    -- the climbs of the record are those of the plain session's pool
    climbs-at : i ≤ m → climbs s l given events i ≡ (let R = pool_of s l given events i in climbed R.graph R.plain.anchors)
    climbs-at h =
        in_slices (λ g B. sum (λ v. cond (B v) 0 (get_or (record_at i).levels v 0 - bare_level g v)) (below n))
        ∙ climbs_are stands
        ∙ ap (λ R. climbed R.graph R.plain.anchors) (prefix-pool i h)

  -- ---- one event

  module _ (i : ℕ) (h : i < m) where
    abbrev e : Event
    e = event_at events i

    -- its numbers
    shown-row : shown_at i ≡ row_at s l given events i
    shown-row = rw (
      tabulate-at (λ j. (row_at s l given events j).status) m i h,
      tabulate-at (λ j. (row_at s l given events j).lifted) m i h,
      tabulate-at (λ j. (row_at s l given events j).redone) m i h,
    )

    -- the row and the turn, on the pool that the record just before is made from
    row-at : shown_at i ≡ event_row (P i) e
    row-at = shown-row ∙ ap (λ R. event_row R e) (sym (prefix-pool i (omega arith)))

    turn_at : P (i + 1) ≡ event_turn (i + 1) e (P i)
    turn_at = prefix-pool (i + 1) (omega arith) ∙ pool-more i ∙ ap (event_turn (i + 1) e) (sym (prefix-pool i (omega arith)))

    -- the status it shows, in the pool of the whole list, in that of the record just before, and by the slices
    shown-plain : (shown_at i).status ≡ event_status (pool_of s l given events i) e
    shown-plain = ap (λ r. r.status) shown-row ∙ row-status (pool_of s l given events i) e

    shown-status : (shown_at i).status ≡ event_status (P i) e
    shown-status = ap (λ r. r.status) row-at ∙ row-status (P i) e

    status-at : (shown_at i).status ≡ event_status (record { graph = graph_at i; plain = record { anchors = set_at i; stamps = λ v. get_or (record_at i).stamps v 0 } }) e
    status-at = shown-status ∙ status-same (P i) e _ _ _ (stands i).tabled.graph (set_is (stands i))

    module _ (accepts : event_status (P i) e ≡ 0) where
      abbrev x : ℕ
      x = e.first

      step : Accepted n (P i) (P (i + 1)) e (i + 1)
      step = record { old = stands i; new = stands (i + 1); status = accepts; turned = turn_at }

      -- it anchors its first vertex, or it adds or drops its edge
      anchors-at : T (anchors e) → Anchors s l given events i x
      anchors-at kind =
          let again = redone s l given events i in
          let next = event.anchored-next step kind in
          let stamps = event.anchor-stamps step kind in
          record {
            starts = ap (λ R. starts_of R.graph) next;
            links = ap (λ R. links_of R.graph) next;
            anchored = event.anchored-set step kind;
            search = search-reached (stands i) x (event.anchor-vertex step kind) (event.anchor-free step kind)
                ∙ ap (λ lifted. found_with lifted (get_or (record_at i).reached x 0) (size_at s l given events i)) (sym (ap (λ r. r.lifted) row-at ∙ event.anchor-lifted step kind));
            lifted = ap (λ r. r.lifted) row-at ∙ event.anchor-marked step kind;
            levels = event.anchor-levels step kind;
            stamped = λ v b t. stamps v b ∙ rw (true_of (eqb x v || again v) t);
            counted = ap (λ r. r.redone) row-at ∙ event.anchor-counted step kind;
            uncounted = event.anchor-uncounted step kind;
            kept_yields = event.anchor-yields step kind;
            kept_reached = event.anchor-reaches step kind;
            kept_stamps = λ v b t. stamps v b ∙ rw (false_of (eqb x v || again v) t);
          }

      edits_at : T (not (anchors e)) → Edits s l given events i
      edits_at kind =
          let again = redone s l given events i in
          let stamps = event.edge-stamps step kind in
          record {
            edited = event.edged_graph step kind;
            anchored = ap (λ (A : ℕ → Bool). tabulate (λ v. bit (A v)) n) (event.edged_set step kind);
            lifted = ap (λ r. r.lifted) row-at ∙ event.edge-lifted step kind;
            levels = event.edge-levels step kind;
            bares = event.edge-bares step kind;
            stamped = λ v b t. stamps v b ∙ rw (true_of (again v) t);
            counted = ap (λ r. r.redone) row-at ∙ event.edge-counted step kind;
            kept_yields = event.edge-yields step kind;
            kept_reached = event.edge-reaches step kind;
            kept_stamps = λ v b t. stamps v b ∙ rw (false_of (again v) t);
          }

    -- refused, it leaves the pool, and so every slice
    refuses_at : (event_status (P i) e ≡ 0 → ⊥) → Refuses s l given events i
    refuses_at refusal =
        let row = row-at ∙ row-none (P i) e refusal in
        let same = turn_at ∙ turn-none (P i) e (i + 1) refusal in
        record {
          lifted = ap (λ r. r.lifted) row;
          redone = ap (λ r. r.redone) row;
          starts = ap (λ R. starts_of R.graph) same;
          links = ap (λ R. links_of R.graph) same;
          anchored = ap (λ R. tabulate (λ v. bit (R.plain.anchors v)) n) same;
          levels = ap (λ R. tabulate (level R.graph R.plain.anchors) n) same;
          layers = ap (λ R. tabulate (layer R.graph R.plain.anchors) n) same;
          components = ap (λ R. tabulate (component R.graph R.plain.anchors) n) same;
          yields = ap (λ R. tabulate (net_yield R.graph R.plain.anchors) n) same;
          reached = ap (λ R. tabulate (reached_count R.graph R.plain.anchors) n) same;
          stamps = ap (λ R. tabulate R.plain.stamps n) same;
        }

    -- what it adds to the yields of the vertices anchored, if it is no accepted edge event
    gain : ((shown_at i).status ≡ 0 → T (anchors e)) → cond (eqb (shown_at i).status 0) (get_or (record_at i).yields e.first (pos 0)) (pos 0)
        ≡ (let R = pool_of s l given events i in cond (eqb (event_status R e) 0 && anchors e) (net R.graph R.plain.anchors e.first) (pos 0))
    gain only =
        let accepts = eqb (event_status (P i) e) 0 in
        ap (λ (k : ℕ). cond (eqb k 0) (get_or (record_at i).yields e.first (pos 0)) (pos 0)) shown-status
        ∙ split accepts
        (λ t.
        let zero-status = eqb→eq (event_status (P i) e) 0 t in
        let kind = only (shown-status ∙ zero-status) in
        rw (true_of accepts t, true_of (anchors e) kind) (yield_free (stands i) e.first (event.anchor-vertex (step zero-status) kind) (event.anchor-free (step zero-status) kind)))
        (λ t. rw (false_of accepts t))
        ∙ ap (λ R. cond (eqb (event_status R e) 0 && anchors e) (net R.graph R.plain.anchors e.first) (pos 0)) (prefix-pool i (omega arith))

  -- ---- stretches without accepted edge events

  -- the yields in the records are the net yields of the plain session's pools
  gains_are : (i k : ℕ) → i + k ≤ m → Anchoring s l given events i k → gains s l given events i k ≡ gained_from (graph_of s l) (anchored_by given) (event_at events) i k
  unfolding gains gained_from
  gains_are i zero h only = refl
  gains_are i (suc k) h only = ap₂ ◌+ℤ◌ (gains_are i k (omega arith) (λ j b. only j (omega arith))) (gain (i + k) (omega arith) (only k (omega arith)))

  start-simple : Simple (graph_of s l)
  unfolding after_events
  start-simple = pool-simple (pools_stand s l runs.table given runs.long (event_at events) 0)

  climbs-grow : (i k : ℕ) → i + k ≤ m → Anchoring s l given events i k → pos (climbs s l given events (i + k)) ≡ pos (climbs s l given events i) +ℤ gains s l given events i k
  climbs-grow i k h only =
      ap pos (climbs-at (i + k) h)
      ∙ climbed_stretch (graph_of s l) start-simple (anchored_by given) (event_at events) i k (λ j b z. only j b (shown-plain (i + j) (omega arith) ∙ z))
      ∙ ap₂ (λ (c : ℕ) (z : ℤ). pos c +ℤ z) (sym (climbs-at i (omega arith))) (sym (gains_are i k h only))

  -- ---- the claim

  -- bytes of at most 1 are the bits of the set they say
  start-bytes : (record_at 0).anchored ≡ given
  unfolding after_events
  start-bytes = tabulate_cong _ (λ v. get_or given v 0) n (λ v b. bit_byte (get_or given v 0) (runs.bytes v b)) ∙ tabulate-self given n runs.long

  start_stamps : (record_at 0).stamps ≡ tabulate (λ v. 0) n
  unfolding after_events
  start_stamps = refl

  -- the table at the start is the lent one
  start-table : ((record_at 0).starts ≡ s) × (take (last_start (record_at 0).starts) (record_at 0).links ≡ take (last_start s) l)
  unfolding after_events
  start-table = (start_starts s l runs.table, start_links s l runs.table)

  -- the call with the first i events alone
  prefix_run : (i : ℕ) → i ≤ m → (lent : Slices) → lent.starts ≡ s → lent.links ≡ l → T (sized n i lent) → run_of given (prefix i events) lent ≡ clear
  prefix_run i h lent starts links fits =
      let long = prefix-size events i h in
      rw (starts, links) (run_passes s l given (prefix i events) (sized n (size (prefix i events)) lent) (runs-prefix runs i h) (rw long fits))

  -- demand 3, from what a run that is not refused promises
  pub claimed : Claim s l given events
  claimed = record {
    calls = prefix_run;
    end = ap (ended s l given) (prefix-all runs);
    start_starts = start-table.0;
    start_links = start-table.1;
    start_anchored = start-bytes;
    start_stamps = start_stamps;
    stays = λ i h. stays_at i;
    fresh = λ i h. fresh_at i;
    plain = plain_at;
    numbers = shown-row;
    status = status-at;
    anchoring = λ i h z kind. anchors-at i h (sym (shown-status i h) ∙ z) kind;
    editing = λ i h z kind. edits_at i h (sym (shown-status i h) ∙ z) kind;
    refused = λ i h f. refuses_at i h (λ z. f (shown-status i h ∙ z));
    grows = climbs-grow;
  }

-- demand 3, of every call that is not refused as a whole
pub session_claim : (s l given : List ℕ) (events : Lists) (lent : Slices) → lent.starts ≡ s → lent.links ≡ l → run_of given events lent ≡ clear → Claim s l given events
session_claim s l given events lent starts links passed = claimed s l given events (run_sound s l given events (sized (vertices s) (size events) lent) (rw (starts, links) at passed)).0
