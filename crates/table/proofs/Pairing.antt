-- The laws of links paired with their return links: one more pair, and a table whose every link is paired is sound. Assumes nothing.
use mathlib.Core.Path.{◌≡◌, refl, sym, ◌∙◌, subst}
use mathlib.Core.List.{List}
use Prim.Native.Nat.{ℕ, ◌+◌, ◌-◌, ◌≤◌, ◌<◌}
use native.Mathlib.Omega.{arith}
use lib.ListN.{length, drop, get_or, set, length-set}
use lib.Seq.{get_or-take, get_or-drop, get_or-set_same, get_or-set_other}
use lib.Dec.{T, eqb, eqb→eq, lt→ltb}
use borrow.Author.Count.{below_more}
use Rattle.finite.specs.Count.{In}
use Rattle.finite.specs.Search.{rises, ascending}
use Rattle.finite.proofs.Count.{at_in}
use Rattle.finite.proofs.Tests.{split, neqb}
use Rattle.finite.proofs.Search.{all-below_i, ascending-distinct}
use Rattle.table.specs.Table.{vertices, neighbors, Framed, SoundTable}
use Rattle.table.specs.Paired.{PairedTo, Paired}
use Rattle.table.proofs.Laws.{neighbors-length, link_in}

module _ (s l : List ℕ) where
  -- none of a vertex's links is paired at first
  paired_none : (v u : ℕ) → get_or s u 0 ≤ get_or s (u + 1) 0 → PairedTo s l v u (get_or s u 0)
  paired_none v u step = record {
    from = omega arith;
    upto = step;
    lower = λ i h low. absurd (omega arith);
    other = λ i h low e. omega arith;
    rising = λ j h i less low. absurd (omega arith);
    returned = λ i h low. absurd (omega arith);
  }

  -- one more link of u is paired: it is above those before it
  paired_more :
      (b v u place : ℕ) → PairedTo s l b u place → b ≤ v → place < get_or s (u + 1) 0
      → ((i : ℕ) → i < place → get_or s u 0 ≤ i → get_or l i 0 < get_or l place 0)
      → get_or l place 0 < v → (get_or l place 0 ≡ u → ⊥) → In u (neighbors s l (get_or l place 0)) → PairedTo s l v u (place + 1)
  paired_more b v u place p more room rise lower other returned = record {
    from = omega (arith, p.from);
    upto = omega arith;
    lower = below_more _ _ (λ i h low. omega (arith, p.lower i h low)) (λ low. lower);
    other = below_more _ _ p.other (λ low. other);
    rising = below_more _ _ p.rising rise;
    returned = below_more _ _ p.returned (λ low. returned);
  }

  -- the links below v are below more
  paired_wider : (v u place : ℕ) → PairedTo s l v u place → PairedTo s l (v + 1) u place
  paired_wider v u place p = record {
    from = p.from;
    upto = p.upto;
    lower = λ i h low. omega (arith, p.lower i h low);
    other = p.other;
    rising = p.rising;
    returned = p.returned;
  }

module _ (s l : List ℕ) (f : Framed s l) where
  -- the neighbor at a place of v's part is the link there
  neighbor_at : (v i : ℕ) → v < vertices s → i < length (neighbors s l v) → get_or (neighbors s l v) i 0 ≡ get_or l (get_or s v 0 + i) 0
  unfolding neighbors
  neighbor_at v i h less =
      let a = get_or s v 0 in
      let b = get_or s (v + 1) 0 in
      get_or-take (b - a) (drop a l) i 0 (omega (arith, neighbors-length s l f v h)) ∙ get_or-drop a l i 0

  -- what is said of each link in v's part holds of each neighbor of v
  each_neighbor : (P : ℕ → Type 0) (v : ℕ) → v < vertices s → ((i : ℕ) → i < get_or s (v + 1) 0 → get_or s v 0 ≤ i → P (get_or l i 0)) → (w : ℕ) → In w (neighbors s l v) → P w
  each_neighbor P v h all w listed =
      let at = at_in (neighbors s l v) w 0 listed in
      let long = neighbors-length s l f v h in
      subst P (sym (neighbor_at v at.0 h at.1) ∙ at.2) (all (get_or s v 0 + at.0) (omega (arith, at.1)) (omega arith))

  module _ (paired : (v : ℕ) → v < vertices s → PairedTo s l (vertices s) v (get_or s (v + 1) 0)) where
    ascends : (v : ℕ) → v < vertices s → T (ascending (neighbors s l v))
    unfolding ascending
    ascends v h =
        let a = get_or s v 0 in
        let part = neighbors s l v in
        let long = neighbors-length s l f v h in
        all-below_i (rises part) (length part - 1) (λ i less.
        let e = neighbor_at v i h (omega arith) in
        let e+ = neighbor_at v (i + 1) h (omega arith) in
        lt→ltb (get_or part i 0) (get_or part (i + 1) 0) (rw (e, e+) ((paired v h).rising (a + (i + 1)) (omega arith) (a + i) (omega arith) (omega arith))))

    -- a table whose every link is paired is sound
    pub paired_sound : vertices s ≤ 1024 → length l ≤ 16384 → SoundTable s l
    paired_sound small few = record {
      framed = f;
      small = small;
      few = few;
      range = λ v w h. each_neighbor (λ u. u < vertices s) v h (paired v h).lower w;
      loopless = λ v h i. each_neighbor (λ u. u ≡ v → ⊥) v h (paired v h).other v i refl;
      ascending = ascends;
      distinct = λ v h. ascending-distinct (neighbors s l v) (ascends v h);
      symmetric = λ v w h. each_neighbor (λ u. In v (neighbors s l u)) v h (paired v h).returned w;
    }

-- v's links before `at` are paired, all below `least`; v is the last paired link of vertices below `least` only
pub record Walking (s l : List ℕ) (v : ℕ) (next : List ℕ) (at least : ℕ) : Type 0 where
  pub room : vertices s ≤ length next
  pub own : PairedTo s l v v at
  pub last : (i : ℕ) → i < at → get_or s v 0 ≤ i → get_or l i 0 < least
  pub each : (u : ℕ) → u < v → PairedTo s l (v + 1) u (get_or next u 0)
  pub fresh : (u : ℕ) → u < v → least ≤ u → PairedTo s l v u (get_or next u 0)

module _ (s l : List ℕ) (f : Framed s l) (v : ℕ) (h : v < vertices s) where
  pub walk_none : (next : List ℕ) → Paired s l v next → Walking s l v next (get_or s v 0) 0
  walk_none next p = record {
    room = p.room;
    own = paired_none s l v v (f.step v h);
    last = λ i less low. absurd (omega arith);
    each = λ u less. paired_wider s l v u (get_or next u 0) (p.each u less);
    fresh = λ u less least. p.each u less;
  }

  module _ (next : List ℕ) (at least : ℕ) (w : Walking s l v next at least) where
    -- one more pair: the link to u, and the next link of u, which is v
    pub walk_more :
        let u = get_or l at 0 in let place = get_or next u 0 in
        at < get_or s (v + 1) 0 → u < v → least ≤ u → place < get_or s (u + 1) 0 → get_or l place 0 ≡ v → Walking s l v (set next u (place + 1)) (at + 1) (u + 1)
    walk_more more lower higher left back =
        let u = get_or l at 0 in
        let place = get_or next u 0 in
        let next+ = set next u (place + 1) in
        let same : get_or next+ u 0 ≡ place + 1 = get_or-set_same next u (place + 1) 0 (omega (arith, w.room)) in
        let other : (x : ℕ) → (x ≡ u → ⊥) → get_or next+ x 0 ≡ get_or next x 0 = λ x ne. get_or-set_other next u x (place + 1) 0 ne in
        let to-v : In v (neighbors s l u) = subst (λ x. In x (neighbors s l u)) back (link_in s l f u place (omega arith) (w.each u lower).from left) in
        let to-u : In u (neighbors s l (get_or l place 0)) = rw back (link_in s l f v at h w.own.from more) in
        let pair = paired_more s l v (v + 1) u place (w.fresh u lower higher) (omega arith) left (λ i less low. omega (arith, (w.fresh u lower higher).lower i less low)) (omega arith) (λ e. omega arith) to-u in
        record {
          room = simp length-set w.room;
          own = paired_more s l v v v at w.own (omega arith) more (λ i less low. omega (arith, w.last i less low)) lower (λ e. omega arith) to-v;
          last = below_more _ _ (λ i less low. omega (arith, w.last i less low)) (λ low. omega arith);
          each = λ x less. split (eqb x u) (λ e. let q = eqb→eq x u e in rw (q, same) pair) (λ ne. rw (other x (neqb x u ne)) (w.each x less));
          fresh = λ x less above. rw (other x (λ e. omega arith)) (w.fresh x less (omega arith));
        }

    -- v's other links wait for the vertices above
    pub walk_end : Paired s l (v + 1) (set next v at)
    walk_end = record {
      room = simp length-set w.room;
      each = below_more _ _ (λ u less. rw (get_or-set_other next v u at 0 (λ e. omega arith)) (w.each u less)) (rw (get_or-set_same next v at 0 (omega (arith, w.room))) (paired_wider s l v v at w.own));
    }
