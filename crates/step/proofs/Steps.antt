-- A step over lists and numbers: the bytes with one more anchor, the rows it works afresh, and the plain session that a record stands for.
-- Assumes nothing.
use mathlib.Core.Path.{◌≡◌, refl, sym, ap, ◌∙◌, subst, fun_ext}
use mathlib.Core.Logic.{⊎_elim}
use mathlib.Core.Bool.{Bool, true, false, not, cond, ◌&&◌, ◌||◌, or-true, or-false, and-false}
use mathlib.Core.List.{List}
use Prim.Native.Nat.{ℕ, ◌+◌, ◌≤◌, ◌<◌, zero-le}
use native.Mathlib.Nat.{eq-or-lt_of_le}
use native.Mathlib.Omega.{arith}
use lib.ListN.{length, get_or, set, length-set}
use lib.Dec.{T, ltb, eqb, eqb→eq, ltb→lt, nltb→le}
use borrow.Author.Tests.{lt-ltb, le-ltb, eq-eqb, ne_eqb}
use Rattle.finite.specs.Count.{bit, count, below}
use Rattle.finite.proofs.Tests.{split, true_of, false_of, of_true, and_l, neqb}
use Rattle.finite.proofs.Count.{set_reads, in_below, count_cong, count-below-zero, count-below-more, count-below-le}
use Rattle.table.specs.Table.{vertices}
use Rattle.anchored.specs.Graph.{Graph, Simple}
use Rattle.anchored.specs.Followers.{adding, followers, follower_count}
use Rattle.anchored.specs.Step.{recomputed}
use Rattle.anchored.specs.Yield.{nobody}
use Rattle.anchored.specs.Session.{Plain, stale, status_of, row_of, turn}
use Rattle.anchored.proofs.Session.{row_number, status-free, turn-accepted, turn-refused, row-accepted, renewed-fresh, anchor-followers, anchor-reached}
use Rattle.pool.specs.Input.{graph_of, anchored_by, Admitted}
use Rattle.pool.specs.Arrays.{Holds}
use Rattle.pool.proofs.Laws.{simple}
use Rattle.stale.specs.Columns.{ColumnsOf}
use Rattle.stale.specs.declared.Columns.{Columns}
use Rattle.records.specs.Record.{reached_if, row_reached, Right, plain_of, Stands}
use Rattle.records.specs.declared.Record.{Record}
use Rattle.records.proofs.Nets.{right-count}
use Rattle.step.specs.Turn.{row_as, accepting, Turned}
use Rattle.step.specs.Rows.{stale_by, Rows, rows, rows_of, Renewed, Redone}
use Rattle.step.specs.declared.Stepped.{Stepped}

-- ---- bytes

-- a byte 1 at place x anchors x too
anchored-set : (a : List ℕ) (x : ℕ) → x < length a → anchored_by (set a x 1) ≡ adding (anchored_by a) x
anchored-set a x h = fun_ext (λ v. ap (λ z. eqb z 1) (set_reads a x 1 v (λ e. h)) ∙ by_case (eqb x v) (get_or a v 0))
  where
    by_case : (b : Bool) (m : ℕ) → eqb (cond b 1 m) 1 ≡ eqb m 1 || b
    by_case true m = sym (or-true (eqb m 1))
    by_case false m = sym (or-false (eqb m 1))

-- and the bytes are admitted as before
pub admitted-set : (s l a : List ℕ) (x : ℕ) → Admitted s l a → x < vertices s → Admitted s l (set a x 1)
admitted-set s l a x h b = record {
  table = h.table;
  long = omega (arith, length-set a x 1, h.long);
  bytes = λ v k. rw (set_reads a x 1 v (λ e. omega (arith, h.long))) (split (eqb x v)
      (λ t. rw (true_of (eqb x v) t) (omega arith))
      (λ t. rw (false_of (eqb x v) t) (h.bytes v k)));
}

-- ---- rows

-- one further, only u itself is new
below_other : (u v : ℕ) → (u ≡ v → ⊥) → ltb v (u + 1) ≡ ltb v u
below_other u v n = split (ltb v u)
    (λ t. rw (true_of (ltb v u) t) (lt-ltb v (u + 1) (omega (arith, ltb→lt v u t))))
    (λ t. rw (false_of (ltb v u) t) (le-ltb v (u + 1) (⊎_elim (λ e. absurd (n e)) (λ l. omega arith) (eq-or-lt_of_le (nltb→le v u t)))))

module _ {p : ℕ → Bool} {f : ℕ → ℕ} {old : List ℕ} where
  renewed_begin : Renewed p f old old 0
  renewed_begin = record { places = λ v. rw (le-ltb v 0 zero-le); long = refl }

  module _ {new : List ℕ} {u : ℕ} (r : Renewed p f old new u) where
    -- a row that does not pass is left as it is
    renewed_skip : p u ≡ false → Renewed p f old new (u + 1)
    renewed_skip e = record {
      places = λ v. r.places v ∙ ap (λ b. cond b (f v) (get_or old v 0)) (sym (split (eqb u v)
          (λ t. let q : p v ≡ false = ap p (sym (eqb→eq u v t)) ∙ e in rw q (and-false (ltb v (u + 1)) ∙ sym (and-false (ltb v u))))
          (λ t. ap (λ b. b && p v) (below_other u v (neqb u v t)))));
      long = r.long;
    }

    -- one that passes gets its value
    renewed-more : (x : ℕ) → x ≡ f u → p u ≡ true → u < length old → Renewed p f old (set new u x) (u + 1)
    renewed-more x q e h = record {
      places = λ v. ap (λ z. get_or (set new u z) v 0) q ∙ set_reads new u (f u) v (λ k. omega (arith, r.long)) ∙ split (eqb u v)
          (λ t. subst (λ z. cond (eqb u z) (f u) (get_or new z 0) ≡ cond (ltb z (u + 1) && p z) (f z) (get_or old z 0)) (eqb→eq u v t)
          (rw (eq-eqb u u refl, lt-ltb u (u + 1) (omega arith), e)))
          (λ t. rw (false_of (eqb u v) t, below_other u v (neqb u v t)) (r.places v));
      long = length-set new u x ∙ r.long;
    }

    -- so in the end
    pub renewed-all : (v : ℕ) → v < u → get_or new v 0 ≡ cond (p v) (f v) (get_or old v 0)
    renewed-all v h = rw (lt-ltb v u h) at (r.places v)

    -- tests alike below u renew alike
    renewed_cong : {q : ℕ → Bool} → ((v : ℕ) → v < u → p v ≡ q v) → Renewed q f old new u
    renewed_cong {q} e = record {
      places = λ v.
          let alike : ltb v u && p v ≡ ltb v u && q v = split (ltb v u) (λ t. rw (true_of (ltb v u) t) (e v (ltb→lt v u t))) (λ t. rw (false_of (ltb v u) t)) in
          r.places v ∙ ap (λ b. cond b (f v) (get_or old v 0)) alike;
      long = r.long;
    }

module _ {s l a : List ℕ} {reaching : Bool} {p : ℕ → Bool} {position : ℕ} {old : Rows} where
  -- before the first row
  pub redone_begin : Redone s l a reaching p position old old 0 0
  redone_begin = record { counts = renewed_begin; reaches = renewed_begin; stamps = renewed_begin; number = sym (count-below-zero p) }

  module _ {new : Rows} {redone u : ℕ} (r : Redone s l a reaching p position old new redone u) where
    pub redone-le : redone ≤ u
    redone-le = omega (arith, r.number, count-below-le p u)

    -- a row that is not stale
    pub redone_skip : p u ≡ false → Redone s l a reaching p position old new redone (u + 1)
    redone_skip e = record {
      counts = renewed_skip r.counts e;
      reaches = renewed_skip r.reaches e;
      stamps = renewed_skip r.stamps e;
      number = omega (arith, r.number, count-below-more p u, ap bit e);
    }

    -- a stale row gets its fresh counts and the stamp
    pub redone-more : (counted found : ℕ) → counted ≡ followers (graph_of s l) (anchored_by a) u → found ≡ reached_if reaching (graph_of s l) (anchored_by a) u → p u ≡ true
        → u < length old.followers → u < length old.reached → u < length old.stamps
        → Redone s l a reaching p position old (rows (set new.followers u counted) (set new.reached u found) (set new.stamps u position)) (redone + 1) (u + 1)
    redone-more counted found c f e hc hf hs = record {
      counts = renewed-more r.counts counted c e hc;
      reaches = renewed-more r.reaches found f e hf;
      stamps = renewed-more r.stamps position refl e hs;
      number = omega (arith, r.number, count-below-more p u, ap bit e);
    }

    -- the rows that pass may be named by another test
    pub redone-named : {q : ℕ → Bool} → ((v : ℕ) → v < u → p v ≡ q v) → Redone s l a reaching q position old new redone u
    redone-named {q} e = record {
      counts = renewed_cong r.counts e;
      reaches = renewed_cong r.reaches e;
      stamps = renewed_cong r.stamps e;
      number = r.number ∙ count_cong p q (below u) (λ v i. e v ((in_below u v).0 i));
    }

-- ---- the step

module _ {s l : List ℕ} {kept : Record} (right : Right s l kept) (x : ℕ) (bx : x < vertices s) (free : T (not (anchored_by kept.anchored x))) where
  abbrev G : Graph
  G = graph_of s l

  abbrev A : ℕ → Bool
  A = anchored_by kept.anchored

  abbrev bytes : List ℕ
  bytes = set kept.anchored x 1

  abbrev S : Plain
  S = plain_of kept

  accepted : status_of G A x ≡ 0
  accepted = (status-free G A x).1 (bx, free)

  bytes_after : anchored_by bytes ≡ adding A x
  bytes_after = anchored-set kept.anchored x (omega (arith, right.admitted.long))

  -- a column of counts in which the recomputed rows are worked afresh is right with 65,535 put at x, where the other rows keep their count
  module _ (number : (ℕ → Bool) → ℕ → ℕ) (same : (v : ℕ) → v < vertices s → T (not (adding A x v)) → T (not (stale G A x v)) → number A v ≡ number (adding A x) v) (old new : List ℕ)
      (held : Holds old (vertices s) (row_number 65535 A (number A))) (long : x < length new) where
    fresh_column : Renewed (stale G A x) (number (adding A x)) old new (vertices s) → Holds (set new x 65535) (vertices s) (row_number 65535 (adding A x) (number (adding A x)))
    fresh_column renews v h =
        set_reads new x 65535 v (λ e. long)
        ∙ ap (cond (eqb x v) 65535) (renewed-all renews v h)
        ∙ ap (λ z. cond (eqb x v) 65535 (cond (stale G A x v) (number (adding A x) v) z)) (held v h)
        ∙ renewed-fresh 65535 G A x number v (same v h)

    column_after : Renewed (recomputed G G A (anchored_by bytes) nobody) (number (anchored_by bytes)) old new (vertices s)
        → Holds (set new x 65535) (vertices s) (row_number 65535 (anchored_by bytes) (number (anchored_by bytes)))
    column_after = subst (λ B. Renewed (recomputed G G A B nobody) (number B) old new (vertices s) → Holds (set new x 65535) (vertices s) (row_number 65535 B (number B)))
        (sym bytes_after) fresh_column

  -- where the recomputed rows are counted afresh and stamped
  module _ {position : ℕ} {new : Rows} {redone : ℕ} (r : Redone s l bytes kept.reaching (recomputed G G A (anchored_by bytes) nobody) position (rows_of kept) new redone (vertices s)) where
    L : Simple G
    L = simple right.admitted.table

    counts-after : Holds (set new.followers x 65535) (vertices s) (follower_count G (anchored_by bytes))
    unfolding follower_count
    counts-after = column_after (followers G) (anchor-followers G L A x) kept.followers new.followers right.counts (omega (arith, r.counts.long, right.counts_long)) r.counts

    reaches-after : Holds (set new.reached x 65535) (vertices s) (row_reached kept.reaching G (anchored_by bytes))
    reaches-after = column_after (reached_if kept.reaching G) (λ v h t k. ap (λ z. cond kept.reaching z 0) (anchor-reached G L A x v h t k))
        kept.reached new.reached right.reaches (omega (arith, r.reaches.long, right.reaches_long)) r.reaches

    fresh-stamps : Renewed (stale G A x) (λ v. position) kept.stamp new.stamps (vertices s) → Holds (set new.stamps x position) (vertices s) (turn G position x S).stamps
    fresh-stamps stamps v h =
        set_reads new.stamps x position v (λ e. omega (arith, r.stamps.long, right.stamps_long))
        ∙ ap (cond (eqb x v) position) (renewed-all stamps v h)
        ∙ either (eqb x v) (stale G A x v)
        ∙ ap (λ P. P.stamps v) (sym (turn-accepted G S x position accepted))
      where
        either : (b c : Bool) → cond b position (cond c position (get_or kept.stamp v 0)) ≡ cond (b || c) position (get_or kept.stamp v 0)
        either true c = refl
        either false c = refl

    -- with the position put at x the stamps are those of the plain session's turn
    stamps-after : Holds (set new.stamps x position) (vertices s) (turn G position x S).stamps
    stamps-after = subst (λ B. Renewed (recomputed G G A B nobody) (λ v. position) kept.stamp new.stamps (vertices s) → Holds (set new.stamps x position) (vertices s) (turn G position x S).stamps)
        (sym bytes_after) fresh-stamps r.stamps

    -- the numbers are those of the request
    row-after : row_of G S x ≡ record { status = 0; lifted = followers G A x; redone = redone }
    row-after = row-accepted G S x accepted
        ∙ ap (λ (n : ℕ). record { status = 0; lifted = followers G A x; redone = n }) (ap (λ B. count (recomputed G G A B nobody) (below (vertices s))) (sym bytes_after) ∙ sym r.number)

    -- the count that the record has for x is the number lifted
    row-counted : row_as (record { status = 0; lifted = get_or kept.followers x 0; redone = redone }) ≡ row_of G S x
    row-counted = ap (λ (n : ℕ). row_as (record { status = 0; lifted = n; redone = redone })) (right-count right x bx free) ∙ sym row-after

    -- so the fresh columns and these rows are one turn of the plain session
    pub turned : {columns : Columns} {left : Stepped} → Admitted s l bytes → ColumnsOf G (anchored_by bytes) columns
        → left ≡ accepting (record {
          anchored = bytes;
          columns = columns;
          bare = kept.bare;
          followers = set new.followers x 65535;
          reaching = kept.reaching;
          reached = set new.reached x 65535;
          stamp = set new.stamps x position;
        }) (get_or kept.followers x 0) redone
        → Turned s l position x kept left
    turned {left = left} admits defined leaves = subst (Turned s l position x kept) (sym leaves) record {
      right = record {
        admitted = admits;
        columns = defined;
        bares = right.bares;
        counts = counts-after;
        counts_long = omega (arith, length-set new.followers x 65535, r.counts.long, right.counts_long);
        reaches = reaches-after;
        reaches_long = omega (arith, length-set new.reached x 65535, r.reaches.long, right.reaches_long);
        stamps_long = omega (arith, length-set new.stamps x position, r.stamps.long, right.stamps_long);
      };
      reaching = refl;
      stands = record { anchors = bytes_after ∙ ap (λ P. P.anchors) (sym (turn-accepted G S x position accepted)); stamps = stamps-after };
      row = row-counted;
    }

-- ---- the session

-- a stale row is not that of an anchored vertex: its counts are those of its vertex
module _ (G : Graph) (a marks : List ℕ) (u : ℕ) (e : stale_by a marks u ≡ true) where
  stale-free : anchored_by a u ≡ false
  stale-free = false_of (anchored_by a u) (and_l (not (anchored_by a u)) _ (of_true _ e))

  pub stale-count : follower_count G (anchored_by a) u ≡ followers G (anchored_by a) u
  unfolding follower_count
  stale-count = rw stale-free

  pub stale-reached : (reaching : Bool) → row_reached reaching G (anchored_by a) u ≡ reached_if reaching G (anchored_by a) u
  stale-reached reaching = rw stale-free

-- the two halves of what a request leaves
turn-anchors : (G : Graph) (position x : ℕ) (S : Plain) → (turn G position x S).anchors ≡ cond (eqb (status_of G S.anchors x) 0) (adding S.anchors x) S.anchors
unfolding turn
turn-anchors G position x S = let accepts = eqb (status_of G S.anchors x) 0 in split accepts (λ t. rw (true_of accepts t)) (λ t. rw (false_of accepts t))

turn-stamps : (G : Graph) (position x : ℕ) (S : Plain) (v : ℕ) → let A = S.anchors in
    (turn G position x S).stamps v ≡ cond (eqb (status_of G A x) 0) (cond (eqb x v || stale G A x v) position (S.stamps v)) (S.stamps v)
unfolding turn
turn-stamps G position x S v = let accepts = eqb (status_of G S.anchors x) 0 in split accepts (λ t. rw (true_of accepts t)) (λ t. rw (false_of accepts t))

module _ (s l : List ℕ) where
  module _ {kept : Record} {S : Plain} (h : Stands (vertices s) kept S) where
    abbrev own : Plain
    own = plain_of kept

    -- a request leaves what it leaves in the plain session
    stands-anchors : (position x : ℕ) → (turn (graph_of s l) position x own).anchors ≡ (turn (graph_of s l) position x S).anchors
    stands-anchors position x =
        turn-anchors (graph_of s l) position x own
        ∙ ap (λ B. cond (eqb (status_of (graph_of s l) B x) 0) (adding B x) B) h.anchors
        ∙ sym (turn-anchors (graph_of s l) position x S)

    stands-stamps : (position x v : ℕ) → v < vertices s → (turn (graph_of s l) position x own).stamps v ≡ (turn (graph_of s l) position x S).stamps v
    stands-stamps position x v b =
        let G = graph_of s l in
        let stamped : (ℕ → Bool) → ℕ → ℕ = λ B z. cond (eqb (status_of G B x) 0) (cond (eqb x v || stale G B x v) position z) z in
        turn-stamps G position x own v
        ∙ ap (λ B. stamped B (get_or kept.stamp v 0)) h.anchors
        ∙ ap (stamped S.anchors) (h.stamps v b)
        ∙ sym (turn-stamps G position x S v)

    -- so what stands for its turn of the record's session stands for its turn of the plain session
    pub stands-turn : {next : Record} (position x : ℕ) → Stands (vertices s) next (turn (graph_of s l) position x own) → Stands (vertices s) next (turn (graph_of s l) position x S)
    stands-turn position x g = record { anchors = g.anchors ∙ stands-anchors position x; stamps = λ v b. g.stamps v b ∙ stands-stamps position x v b }

-- the two refusals of a request leave the record: no vertex, or one that is anchored
module _ {s l : List ℕ} {kept : Record} (right : Right s l kept) (position x : ℕ) where
  refused_with : (k : ℕ) → status_of (graph_of s l) (anchored_by kept.anchored) x ≡ k → 0 < k → Turned s l position x kept (record { kept = kept; row = record { status = k; lifted = 0; redone = 0 } })
  unfolding row_of
  refused_with k e h =
      let off : eqb (status_of (graph_of s l) (anchored_by kept.anchored) x) 0 ≡ false = ne_eqb (status_of (graph_of s l) (anchored_by kept.anchored) x) 0 (λ z. absurd (omega arith)) in
      record {
        right = right;
        reaching = refl;
        stands = subst (Stands (vertices s) kept) (sym (turn-refused (graph_of s l) (plain_of kept) x position (λ z. absurd (omega arith)))) record { anchors = refl; stamps = λ v b. refl };
        row = rw (off, e);
      }

  pub refused-vertex : vertices s ≤ x → Turned s l position x kept (record { kept = kept; row = record { status = 15; lifted = 0; redone = 0 } })
  unfolding status_of
  refused-vertex h = refused_with 15 (rw (le-ltb x (vertices s) h)) (omega arith)

  pub refused-anchored : x < vertices s → get_or kept.anchored x 0 ≡ 1 → Turned s l position x kept (record { kept = kept; row = record { status = 16; lifted = 0; redone = 0 } })
  unfolding status_of
  refused-anchored h e = refused_with 16 (rw (lt-ltb x (vertices s) h, eq-eqb (get_or kept.anchored x 0) 1 e)) (omega arith)
