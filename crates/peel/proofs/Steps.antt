-- The steps of the peeling over the arrays of the code. Assumes nothing.
use mathlib.Core.Path.{◌≡◌, refl, sym, ap, ◌∙◌, subst}
use mathlib.Core.Logic.{inl}
use mathlib.Core.Bool.{not}
use mathlib.Core.List.{List, [], ◌∷◌, ◌++◌, append_assoc, append-nil}
use Prim.Native.Nat.{ℕ, suc, ◌+◌, ◌-◌, ◌≤◌, ◌<◌}
use native.Mathlib.Numerals.{add-one}
use native.Mathlib.Omega.{arith}
use lib.ListN.{length, take, drop, get_or, set, length-set, take-append-drop}
use lib.Seq.{slice, slice_empty, slice-cons, take-suc, take-set-le, take-take, drop-cons, get_or-set_same, get_or-set_other}
use lib.Dec.{T, ltb, lt→ltb}
use Rattle.finite.specs.Count.{bit}
use Rattle.finite.proofs.Tests.{true_of}
use Rattle.finite.proofs.Count.{bit_yes}
use Rattle.finite.proofs.Slices.{slice_one, slice_kept, slice_added}
use Rattle.anchored.specs.Graph.{Graph, Simple}
use Rattle.pool.specs.Input.{anchored_by}
use Rattle.pool.specs.Arrays.{Holds}
use Rattle.peel.specs.Peeling.{first_degree, Peels, at, Sized, Long, CanStrike, Strikes, CanLook, Looks}
use Rattle.peel.proofs.Peeling.{Puts, room, room-all, lower, fall, look, seed, pop, advance, rise, begin, told-above, told_unseen, told-on, told_rise, told_begin}

-- an array after a store
puts_set : (xs : List ℕ) (w x : ℕ) → w < length xs → Puts (at xs) (at (set xs w x)) w x
puts_set xs w x h = (get_or-set_same xs w x 0 h, λ v d. get_or-set_other xs w v x 0 d)

-- ---- striking

module _ {degree level layer queue : List ℕ} {k turn tail : ℕ} where
  -- no vertex is struck
  pub strikes_none : Long degree level layer queue → Strikes degree level layer queue degree level layer queue k turn [] tail tail
  strikes_none long = record {
    moves = λ G a size waiting next due P. rw (slice_empty tail queue, append-nil) P;
    kept = refl;
    grows = omega arith;
    long = long;
  }

  module _ {w : ℕ} (long : Long degree level layer queue) (R : CanStrike degree level layer k turn (w ∷ []) tail) where
    below : w < R.graph.size
    below = (R.state.peeling.owed w (inl refl)).0

    -- a vertex that can be struck has a place in the arrays, and there is a level above k
    pub struck-below : (w < 1024) × (k < 65535)
    struck-below = omega (arith, below, R.size, R.state.peeling.low)

    -- of degree k + 1 it has a place in the queue
    pub struck-room : get_or degree w 0 ≡ k + 1 → tail < 1024
    struck-room e =
        let u = told-above R.state.told w below (omega arith) in
        omega (arith, room R.state.peeling w below u.0 u.1, R.size)

    abbrev left : ℕ
    left = get_or degree w 0 - bit (ltb k (get_or degree w 0))

    stores : (xs : List ℕ) → length xs ≡ 1024 → (x : ℕ) → Puts (at xs) (at (set xs w x)) w x
    stores xs e x = puts_set xs w x (omega (arith, struck-below))

    -- w is gone already, or keeps more than k neighbors
    pub strikes_lower : (get_or degree w 0 ≡ k + 1 → ⊥) → Strikes degree level layer queue (set degree w left) level layer queue k turn (w ∷ []) tail tail
    strikes_lower more =
        let degree' = stores degree long.degrees left in
        record {
          moves = λ G a size waiting next due P.
              let b = (P.peeling.owed w (inl refl)).0 in
              rw (slice_empty tail queue, append-nil) (record {
                peeling = lower P.peeling (at (set degree w left)) degree' more;
                told = told-on P.told (at (set degree w left)) (at level) w G.size (omega arith) b degree'.1 (λ v d. refl) (λ closed. omega (arith, degree'.0, P.told.closed w b closed));
              });
          kept = refl;
          grows = omega arith;
          long = record { degrees = simp length-set long.degrees; levels = long.levels; layers = long.layers; places = long.places };
        }

    -- w is left with k neighbors
    pub strikes_fall : get_or degree w 0 ≡ k + 1
        → Strikes degree level layer queue (set degree w left) (set level w k) (set layer w (turn + 1)) (set queue tail w) k turn (w ∷ []) tail (tail + 1)
    strikes_fall e =
        let one = bit_yes (ltb k (get_or degree w 0)) (lt→ltb k (get_or degree w 0) (omega arith)) in
        let lowered : left ≡ k = omega arith in
        let room-left : tail < length queue = omega (arith, struck-room e, long.places) in
        let degree' = subst (Puts (at degree) (at (set degree w left)) w) lowered (stores degree long.degrees left) in
        let level' = stores level long.levels k in
        record {
          moves = λ G a size waiting next due P.
              let b = (P.peeling.owed w (inl refl)).0 in
              let u = told-above P.told w b (omega arith) in
              rw (slice_one queue tail w room-left) (record {
                peeling = fall P.peeling u.0 u.1 e (at (set degree w left)) (at (set level w k)) (at (set layer w (turn + 1))) degree' level' (stores layer long.layers (turn + 1));
                told = told-on P.told (at (set degree w left)) (at (set level w k)) w G.size (omega arith) b degree'.1 level'.1 (λ closed. omega (arith, degree'.0));
              });
          kept = take-set-le tail queue tail w (omega arith);
          grows = omega arith;
          long = record { degrees = simp length-set long.degrees; levels = simp length-set long.levels; layers = simp length-set long.layers; places = simp length-set long.places };
        }

module _ {degree₀ level₀ layer₀ queue₀ degree level layer queue : List ℕ} {k turn j tail end : ℕ} (part : List ℕ)
    (S : Strikes degree₀ level₀ layer₀ queue₀ degree level layer queue k turn (take j part) tail end) (h : j < length part)
  where
    -- when the vertices before place j are struck, the one at place j is due
    pub can_strike_next : CanStrike degree₀ level₀ layer₀ k turn part tail → CanStrike degree level layer k turn (get_or part j 0 ∷ []) end
    can_strike_next R =
        let due : part ++ R.due ≡ take j part ++ (get_or part j 0 ∷ drop (suc j) part ++ R.due)
        = ap (λ xs. xs ++ R.due) (sym (take-append-drop j part)) ∙ append_assoc (take j part) (drop j part) R.due ∙ ap (λ xs. take j part ++ (xs ++ R.due)) (drop-cons part j 0 h) in
        record {
          graph = R.graph;
          bytes = R.bytes;
          size = R.size;
          waiting = R.waiting;
          next = R.next ++ slice tail end queue;
          due = drop (suc j) part ++ R.due;
          state = S.moves R.graph R.bytes R.size R.waiting R.next (get_or part j 0 ∷ drop (suc j) part ++ R.due) (rw due at R.state);
        }

    -- one vertex more is struck
    pub strikes_more : {degree' level' layer' queue' : List ℕ} {end' : ℕ} → Strikes degree level layer queue degree' level' layer' queue' k turn (get_or part j 0 ∷ []) end end'
        → Strikes degree₀ level₀ layer₀ queue₀ degree' level' layer' queue' k turn (take (j + 1) part) tail end'
    strikes_more {degree'} {level'} {layer'} {queue'} {end'} N = record {
      moves = λ G a size waiting next due P.
          let longer : take (j + 1) part ++ due ≡ take j part ++ (get_or part j 0 ∷ due)
          = ap (λ xs. xs ++ due) (ap (λ i. take i part) (add-one j) ∙ take-suc part j 0 h) ∙ append_assoc (take j part) (get_or part j 0 ∷ []) due in
          let Q = S.moves G a size waiting next (get_or part j 0 ∷ due) (rw longer at P) in
          let fits : end ≤ length queue' = omega (arith, room-all Q.peeling, N.long.places) in
          subst (λ xs. Peels G a degree' level' layer' k turn waiting xs due G.size end')
          (slice_added queue queue' next tail end end' S.grows N.grows fits N.kept)
          (N.moves G a size waiting (next ++ slice tail end queue) due Q);
      kept = sym (take-take tail end queue' S.grows) ∙ ap (take tail) N.kept ∙ take-take tail end queue S.grows ∙ S.kept;
      grows = omega (arith, S.grows, N.grows);
      long = N.long;
    }

-- ---- looking for the first turn's vertices

module _ {a degree level layer queue : List ℕ} {k tail : ℕ} where
  module _ {v : ℕ} (long : Long degree level layer queue) where
    -- v is anchored, or its degree is not k
    pub looks_pass : (T (not (anchored_by a v)) → get_or degree v 0 ≡ k → ⊥) → Looks a degree level layer queue level layer queue k v (v + 1) tail tail
    looks_pass other = record {
      moves = λ G size last next P. rw (slice_empty tail queue, append-nil) (record {
        peeling = look P.peeling (λ free none.
            let many = (P.peeling.degree v (omega arith) free none).1 in
            let apart = other free in
            omega arith);
        told = told-on P.told (at degree) (at level) v (v + 1) (omega arith) (omega arith) (λ u d. refl) (λ u d. refl) (λ closed. P.told.closed v (omega arith) closed);
      });
      kept = refl;
      grows = omega arith;
      long = long;
    }

    module _ (R : CanLook a degree level layer k v (v + 1) tail) (free : T (not (anchored_by a v))) (e : get_or degree v 0 ≡ k) where
      -- v of degree k has no level yet, and a place in the queue
      pub look_room : (at level v ≡ 65535) × (tail < 1024)
      look_room =
          let b : v < R.graph.size = omega (arith, R.reaches) in
          let none = told_unseen R.state.told v b free (omega arith) (omega arith) in
          (none, omega (arith, room R.state.peeling v b free none, R.size))

      -- so it is of the first turn
      pub looks_settle : Looks a degree level layer queue (set level v k) (set layer v 1) (set queue tail v) k v (v + 1) tail (tail + 1)
      looks_settle =
          let r = look_room in
          let bound : v < 1024 = omega (arith, R.reaches, R.size) in
          let level' = puts_set level v k (omega (arith, long.levels)) in
          let layer' = puts_set layer v 1 (omega (arith, long.layers)) in
          record {
            moves = λ G size last next P. rw (slice_one queue tail v (omega (arith, long.places))) (record {
              peeling = seed P.peeling (omega arith) free r.0 (omega arith) (at (set level v k)) (at (set layer v 1)) level' layer';
              told = told-on P.told (at degree) (at (set level v k)) v (v + 1) (omega arith) (omega arith) (λ u d. refl) level'.1 (λ closed. omega arith);
            });
            kept = take-set-le tail queue tail v (omega arith);
            grows = omega arith;
            long = record { degrees = long.degrees; levels = simp length-set long.levels; layers = simp length-set long.layers; places = simp length-set long.places };
          }

module _ {a degree level₀ layer₀ queue₀ level layer queue : List ℕ} {k from seen tail end : ℕ}
    (S : Looks a degree level₀ layer₀ queue₀ level layer queue k from seen tail end)
  where
    -- more vertices can be looked at, and are
    pub can_look_next : (last : ℕ) → seen < last → CanLook a degree level₀ layer₀ k from last tail → CanLook a degree level layer k seen (seen + 1) end
    can_look_next last h R = record {
      graph = R.graph;
      size = R.size;
      reaches = omega (arith, R.reaches);
      next = R.next ++ slice tail end queue;
      state = S.moves R.graph R.size (omega (arith, R.reaches)) R.next R.state;
    }

    pub looks-more : {level' layer' queue' : List ℕ} {to end' : ℕ} → seen ≤ to → Looks a degree level layer queue level' layer' queue' k seen to end end'
        → Looks a degree level₀ layer₀ queue₀ level' layer' queue' k from to tail end'
    looks-more {level'} {layer'} {queue'} {to} {end'} h N = record {
      moves = λ G size last next P.
          let Q = S.moves G size (omega arith) next P in
          let fits : end ≤ length queue' = omega (arith, room-all Q.peeling, N.long.places) in
          subst (λ xs. Peels G a degree level' layer' k 0 [] xs [] to end')
          (slice_added queue queue' next tail end end' S.grows N.grows fits N.kept)
          (N.moves G size last (next ++ slice tail end queue) Q);
      kept = sym (take-take tail end queue' S.grows) ∙ ap (take tail) N.kept ∙ take-take tail end queue S.grows ∙ S.kept;
      grows = omega (arith, S.grows, N.grows);
      long = N.long;
    }

-- ---- removing

module _ {G : Graph} {a degree level layer queue : List ℕ} {k turn i end tail : ℕ} (size : Sized G a) (long : Long degree level layer queue)
    (first : i < end) (before : end ≤ tail)
    (P : Peels G a degree level layer k turn (slice i end queue) (slice end tail queue) [] G.size tail)
  where
    abbrev removed : ℕ
    removed = get_or queue i 0

    within : tail ≤ 1024
    within = omega (arith, room-all P.peeling)

    waiting_cons : slice i end queue ≡ removed ∷ slice (i + 1) end queue
    waiting_cons = rw add-one (slice-cons i end queue 0 first (omega (arith, within, long.places)))

    popped : Peels G a degree level layer k turn (slice (i + 1) end queue) (slice end tail queue) (G.neighbors removed) G.size tail
    popped = record { peeling = pop (rw waiting_cons at P).peeling; told = P.told }

    -- a vertex stands at place i of the queue
    pub remove-bounds : (end ≤ 1024) × (removed < G.size)
    remove-bounds = (omega (arith, within), ((rw waiting_cons at P).peeling.waits removed (inl refl)).0)

    -- when it is removed its neighbors can be struck
    pub remove_can : CanStrike degree level layer k turn (G.neighbors removed) tail
    remove_can = record {
      graph = G;
      bytes = a;
      size = size;
      waiting = slice (i + 1) end queue;
      next = slice end tail queue;
      due = [];
      state = rw append-nil popped;
    }

    -- and when they are struck the batch waits from the next place on
    pub remove : {degree' level' layer' queue' : List ℕ} {tail' : ℕ} → Strikes degree level layer queue degree' level' layer' queue' k turn (G.neighbors removed) tail tail'
        → Peels G a degree' level' layer' k turn (slice (i + 1) end queue') (slice end tail' queue') [] G.size tail'
    remove {degree'} {level'} {layer'} {queue'} {tail'} S =
        let Q = S.moves G a size (slice (i + 1) end queue) (slice end tail queue) [] (rw append-nil popped) in
        let fits : tail ≤ length queue' = omega (arith, within, S.long.places) in
        rw (slice_kept queue queue' (i + 1) end tail before S.kept, ← slice_added queue queue' [] end tail tail' before S.grows fits S.kept) Q

-- ---- from turn to turn, and from shell to shell

module _ {G : Graph} {a degree level layer : List ℕ} {k turn done : ℕ} where
  pub next-turn : {next : List ℕ} → Peels G a degree level layer k turn [] next [] G.size done → Peels G a degree level layer k (turn + 1) next [] [] G.size done
  next-turn P = record { peeling = advance P.peeling; told = P.told }

  pub next-shell : Peels G a degree level layer k turn [] [] [] G.size done → k + 1 < 65535 → Peels G a degree level layer (k + 1) 0 [] [] [] 0 done
  next-shell P low = record { peeling = rise P.peeling low; told = told_rise P.told }

-- the arrays to begin with
pub first-shell : {G : Graph} → Simple G → {a degree level layer : List ℕ} → Holds degree G.size (first_degree G (anchored_by a)) → Holds level G.size (λ v. 65535) → Holds layer G.size (λ v. 0)
    → Peels G a degree level layer 0 0 [] [] [] 0 0
first-shell {G} L {a} {degree} {level} {layer} degrees levels layers = record {
  peeling = begin G L (anchored_by a) (at degree) (at level) (at layer) (λ v b free. degrees v b ∙ rw (true_of (not (anchored_by a v)) free) (omega arith)) levels layers;
  told = told_begin G (anchored_by a) (at degree) (at level) (λ v b t. degrees v b ∙ rw (true_of (anchored_by a v) t) (omega arith)) levels;
}
