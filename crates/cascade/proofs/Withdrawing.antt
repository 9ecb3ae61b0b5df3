-- The cascade from its start to its end: one fallen vertex after the other is withdrawn from its neighbors, one after the other, and in the end
-- what is kept tells exactly who falls. Assumes nothing.
use mathlib.Core.Path.{◌≡◌, refl, sym, ap, ◌∙◌, subst}
use mathlib.Core.Logic.{inl, inr, ⊎_elim}
use mathlib.Core.Bool.{Bool, true, false, not, cond, or-false, ◌&&◌, ◌||◌}
use mathlib.Core.List.{List, [], ◌∷◌}
use Prim.Native.Nat.{ℕ, ◌+◌, ◌-◌, ◌≤◌, ◌<◌}
use native.Mathlib.Omega.{arith}
use lib.ListN.{length, take, get_or, set, replicate, length-set, length-replicate, get_or-replicate}
use lib.Seq.{length-take-le, take_all, take-suc-set, take-set-le, take-take, get_or-take, get_or-set_other}
use lib.Dec.{T, eqb, T_not, not_T, eqb→eq, eqb_refl}
use borrow.Author.Tests.{le-ltb}
use Rattle.finite.specs.Count.{bit, In}
use Rattle.finite.specs.Search.{any, member}
use Rattle.finite.proofs.Tests.{and_i, and_l, and_r, or_l, or_r, or-e, split, same, true_of, eqb_of}
use Rattle.finite.proofs.Count.{in_at, in_take, in_take-more, distinct-before, count_cong}
use Rattle.finite.proofs.Search.{member_i, member-e, member_no}
use Rattle.table.specs.Table.{vertices, neighbors, SoundTable}
use Rattle.anchored.specs.Graph.{Graph, Simple}
use Rattle.anchored.specs.Followers.{adding}
use Rattle.anchored.specs.Collapse.{falls, fall_mark, exposed}
use Rattle.anchored.proofs.Core.{level-lt, level-anchored}
use Rattle.anchored.proofs.Anchor.{free_of, other_of}
use Rattle.anchored.proofs.Falls.{fallen, settled_falls}
use Rattle.pool.specs.Input.{graph_of, anchored_by}
use Rattle.pool.specs.Sheet.{Leveled}
use Rattle.pool.proofs.Laws.{simple}
use Rattle.cascade.specs.Cascade.{holds_of, fell, relies_of, held_by, tight, fell_by, withdrawn, Falling}
use Rattle.cascade.proofs.Losing.{Withdraws, left_is, nobody-out, held-stands, falling_skip, held-less, place, falling_touch, falling_cong, listed_at}

-- u stands at `head` of the list, and is withdrawn from its neighbors before place j
pub record Telling (s l a levels : List ℕ) (x head u j : ℕ) (support queue : List ℕ) (end : ℕ) : Type 0 where
  pub inside : head < end
  pub at_head : get_or queue head 0 ≡ u
  pub falling : Falling s l a levels x (withdrawn queue head (take j (neighbors s l u))) support queue end

-- u stands there, withdrawn from nobody
pub tell-first : {s l a levels support queue : List ℕ} {x head end : ℕ} → head < end → Falling s l a levels x (withdrawn queue head []) support queue end
    → Telling s l a levels x head (get_or queue head 0) 0 support queue end
tell-first inside falling = record { inside = inside; at_head = refl; falling = falling }

-- what stands at the front stands in more of the list
in_front : (z : List ℕ) (i j p : ℕ) → i ≤ j → In p (take i z) → In p (take j z)
in_front z i j p h m = in_take (take j z) i p (rw (take-take i j z h) m)

module _ {s l a levels : List ℕ} (h : Leveled s l a levels) (x : ℕ) where
  abbrev G : Graph
  G = graph_of s l

  abbrev A : ℕ → Bool
  A = anchored_by a

  table : SoundTable s l
  table = h.admitted.table

  L : Simple G
  L = simple table

  module _ {head u j : ℕ} {support queue : List ℕ} {end : ℕ} (k : Telling s l a levels x head u j support queue end) where
    listed-u : In u (take end queue)
    listed-u = subst (λ z. In z (take end queue)) k.at_head (listed_at h x k.falling k.inside)

    pub vertex-u : u < vertices s
    vertex-u = (k.falling.down u listed-u).0

    -- from all of them: u counts among those withdrawn
    pub told-all : length (neighbors s l u) ≤ j → Falling s l a levels x (withdrawn queue (head + 1) []) support queue end
    unfolding any
    told-all done =
        let all = take_all j (neighbors s l u) done in
        let more = in_take-more queue head in
        let room : head < length queue = omega (arith, k.inside, k.falling.room) in
        falling_cong h x (withdrawn queue (head + 1) [])
        (λ w p b i. rw all (same (withdrawn queue head (neighbors s l u) w p) (withdrawn queue (head + 1) [] w p)
        (λ t. or_l (member p (take (head + 1) queue)) _ (member_i p (take (head + 1) queue) ((more p room).1 (or-e (member p (take head queue)) _ t
        (λ m. inl (member-e p (take head queue) m))
        (λ m. inr (sym (eqb→eq (get_or queue head 0) p (and_r (member w (neighbors s l u)) _ m))))))))
        (λ t. or-e (member p (take (head + 1) queue)) _ t
        (λ m. ⊎_elim
        (λ g. or_l (member p (take head queue)) _ (member_i p (take head queue) g))
        (λ e. or_r (member p (take head queue)) _ (and_i (member w (neighbors s l u)) _
        (member_i w (neighbors s l u) (subst (λ z. In w (neighbors s l z)) (e ∙ k.at_head) (table.symmetric w p b i))) (eqb_of (get_or queue head 0) p (sym e))))
        ((more p room).0 (member-e p (take (head + 1) queue) m)))
        (λ m. absurd m))))
        (λ w p t. or-e (member p (take (head + 1) queue)) _ t (λ m. in_front queue (head + 1) end p (omega (arith, k.inside)) (member-e p (take (head + 1) queue) m)) (λ m. absurd m))
        k.falling

    -- the neighbor at place j is looked at
    module _ {part : List ℕ} (is-part : part ≡ neighbors s l u) (next : j < length part) where
      abbrev w : ℕ
      w = get_or part j 0

      in-part : j < length (neighbors s l u)
      in-part = omega (arith, ap length is-part)

      here : w ≡ get_or (neighbors s l u) j 0
      here = ap (λ z. get_or z j 0) is-part

      neighbor_w : In w (neighbors s l u)
      neighbor_w = subst (In w) is-part (in_at part j 0 next)

      pub vertex-w : w < vertices s
      vertex-w = table.range u w vertex-u neighbor_w

      abbrev told : ℕ → ℕ → Bool
      told = withdrawn queue head (take j (neighbors s l u))

      abbrev telling : ℕ → ℕ → Bool
      telling = withdrawn queue head (take (j + 1) (neighbors s l u))

      withdraws : Withdraws told telling u w
      withdraws =
          let more = in_take-more (neighbors s l u) j in
          let fresh : In u (take head queue) → ⊥ = λ i.
          distinct-before (take end queue) head k.falling.distinct (omega (arith, k.inside, length-take-le end queue k.falling.room))
          (rw (take-take head end queue (omega (arith, k.inside)), get_or-take end queue head 0 k.inside, k.at_head) i) in
          let first = member_no u (take head queue) fresh in
          let later = member_no w (take j (neighbors s l u)) (λ i. distinct-before (neighbors s l u) j (table.distinct u vertex-u) in-part (subst (λ z. In z (take j (neighbors s l u))) here i)) in
          record {
            before = rw (first, later);
            after = true_of (telling w u) (or_r (member u (take head queue)) _ (and_i (member w (take (j + 1) (neighbors s l u))) _
                (member_i w (take (j + 1) (neighbors s l u)) ((more w in-part).1 (inr here))) (eqb_of (get_or queue head 0) u k.at_head)));
            other = λ v p f.
                let among = member v (take j (neighbors s l u)) in
                let among-more = member v (take (j + 1) (neighbors s l u)) in
                ap (λ m. member p (take head queue) || m) (same (among && eqb (get_or queue head 0) p) (among-more && eqb (get_or queue head 0) p)
                (λ t. and_i among-more _ (member_i v (take (j + 1) (neighbors s l u)) ((more v in-part).1 (inl (member-e v (take j (neighbors s l u)) (and_l among _ t))))) (and_r among _ t))
                (λ t.
                let p-is = eqb→eq (get_or queue head 0) p (and_r among-more _ t) in
                and_i among _ (member_i v (take j (neighbors s l u)) (⊎_elim (λ i. i) (λ e. absurd (f (e ∙ sym here) (sym p-is ∙ k.at_head)))
                ((more v in-part).0 (member-e v (take (j + 1) (neighbors s l u)) (and_l among-more _ t))))) (and_r among-more _ t)));
          }

      -- w does not rely on u
      pub tell_skip : T (not (relies_of levels a support x u w)) → Telling s l a levels x head u (j + 1) support queue end
      tell_skip t = record { inside = k.inside; at_head = k.at_head; falling = falling_skip h x withdraws k.falling listed-u t }

      -- w does: it has a holder to lose, and there is room for it if it falls
      module _ (t : T (relies_of levels a support x u w)) where
        held_by-u : In u (neighbors s l w)
        held_by-u = table.symmetric u w vertex-u neighbor_w

        pub some-held : 0 < held_by levels s l support w
        some-held = omega (arith, held-less h x withdraws k.falling listed-u t vertex-w held_by-u)

        pub room-left : held_by levels s l support w ≡ get_or levels w 0 → end < vertices s
        room-left = place h x withdraws k.falling listed-u t vertex-w held_by-u

        abbrev found : Bool
        found = tight levels s l support w

        abbrev grown : List ℕ
        grown = cond found (set queue end w) queue

        -- the front of the list stays
        front_by : (b : Bool) → (take head (cond b (set queue end w) queue) ≡ take head queue) × (get_or (cond b (set queue end w) queue) head 0 ≡ get_or queue head 0)
        front_by true = (take-set-le head queue end w (omega (arith, k.inside)), get_or-set_other queue end head w 0 (λ e. absurd (omega (arith, k.inside))))
        front_by false = (refl, refl)

        pub tell_weaken : Telling s l a levels x head u (j + 1) (set support w (held_by levels s l support w - 1)) grown (end + bit found)
        tell_weaken =
            let front = (front_by found).0 in
            let head-stays = (front_by found).1 in
            let fell = falling_touch h x withdraws k.falling listed-u t vertex-w held_by-u in
            let same_out : (v p : ℕ) → telling v p ≡ withdrawn grown head (take (j + 1) (neighbors s l u)) v p = λ v p. rw (front, head-stays) in
            record {
              inside = omega (arith, k.inside);
              at_head = head-stays ∙ k.at_head;
              falling = falling_cong h x (withdrawn grown head (take (j + 1) (neighbors s l u))) (λ v p b i. same_out v p) (λ v p m. fell.within v p (subst T (sym (same_out v p)) m)) fell;
            }

  -- ---- the start and the end

  -- a level is at most 65,535
  level_bound : (v : ℕ) → v < vertices s → get_or levels v 0 ≤ 65535
  level_bound v b = split (A v)
      (λ t. omega (arith, h.hold v b, level-anchored G L A v t))
      (λ t. omega (arith, h.hold v b, level-lt G L A v b t, h.admitted.table.small))

  -- x alone in the list, withdrawn from nobody
  pub falling-first : (m : ℕ) → vertices s ≤ m → x < vertices s → Falling s l a levels x (withdrawn (set (replicate m 0) 0 x) 0 []) (replicate m 65535) (set (replicate m 0) 0 x) 1
  unfolding any held_by holds_of
  falling-first m wide bx =
      let queue : List ℕ = set (replicate m 0) 0 x in
      let zeros = length-replicate {A = ℕ} m 0 in
      let one : take 1 queue ≡ x ∷ [] = take-suc-set (replicate m 0) 0 x (omega (arith, zeros)) in
      let filled : (w : ℕ) → w < vertices s → ◌≡◌ {A = ℕ} (get_or (replicate m 65535) w 0) 65535 = λ w b. get_or-replicate m w 65535 0 (omega arith) in
      record {
        support_long = omega (arith, length-replicate {A = ℕ} m 65535);
        fallen_long = omega (arith, length-set (replicate m 0) 0 x);
        room = omega (arith, length-set (replicate m 0) 0 x);
        distinct = rw one (λ i. i, tt);
        self = rw one (inl refl);
        down = rw one (λ v. ⊎_elim (λ e. subst (λ z. (z < vertices s) × T (fallen G A x z)) (sym e) (bx, or_l (eqb x x) _ (eqb_refl x))) (λ i. absurd i));
        within = λ w p t. absurd t;
        listed = λ w b f. let stands = le-ltb (get_or (replicate m 65535) w 0) (get_or levels w 0) (omega (arith, filled w b, level_bound w b)) in rw (one, stands) (
          ⊎_elim (λ e. absurd (other_of A x w f (sym e))) (λ i. absurd i),
          λ q. absurd q,
        );
        kept = λ w b f o. let e = filled w b in rw e (nobody-out h x w);
        touched = λ w b f. absurd (f (filled w b));
        untouched = λ w b t. filled w b;
      }

  -- all of the list withdrawn: what is kept tells who falls
  module _ {support queue : List ℕ} {end : ℕ} (k : Falling s l a levels x (withdrawn queue end []) support queue end) where
    -- the others have enough
    enough-last : (w : ℕ) → w < vertices s → T (not (adding A x w)) → (In w (take end queue) → ⊥) → get_or levels w 0 ≤ held_by levels s l support w
    enough-last w b f o = held-stands h x support w b (free_of A x w f) (not_T (fell levels support w) (λ q. o ((k.listed w b f).1 q)))

    found-falls : (v : ℕ) → v < vertices s → T (not (adding A x v)) → member v (take end queue) ≡ falls G A x v
    unfolding any holds_of
    found-falls = settled_falls G L A x (λ p. member p (take end queue)) (member_i x (take end queue) k.self)
        (λ w b f n.
        let o : In w (take end queue) → ⊥ = λ j. T_not (member w (take end queue)) n (member_i w (take end queue) j) in
        let out : (p : ℕ) → withdrawn queue end [] w p ≡ member p (take end queue) = λ p. or-false (member p (take end queue)) in
        let beside = count_cong (holds_of levels x (withdrawn queue end [] w) w) (holds_of levels x (λ p. member p (take end queue)) w) (neighbors s l w) (λ p i. let e = out p in rw e) in
        omega (arith, enough-last w b f o, k.kept w b f o, beside, left_is h x (λ p. member p (take end queue)) w b (free_of A x w f), h.hold w b))
        (λ v b t. (k.down v (member-e v (take end queue) t)).1)

    pub kept-tells : (v : ℕ) → v < vertices s → fell_by levels support v ≡ fall_mark G A x v
    unfolding fell_by fall_mark falls
    kept-tells v b = ap bit (split (adding A x v)
        (λ t.
        let stays = true_of (adding A x v) t in
        le-ltb (get_or support v 0) (get_or levels v 0) (omega (arith, k.untouched v b t, level_bound v b)) ∙ sym (rw stays))
        (λ f. same (fell levels support v) (falls G A x v)
        (λ t. subst T (found-falls v b f) (member_i v (take end queue) ((k.listed v b f).1 t)))
        (λ t. (k.listed v b f).0 (member-e v (take end queue) (subst T (sym (found-falls v b f)) t)))))

  -- the same of what is lent, where it is the support that is kept
  module _ {support queue last : List ℕ} (head : ℕ) {end : ℕ} (same_kept : last ≡ support) (k : Falling s l a levels x (withdrawn queue head []) support queue end) where
    pub last-tells : head ≡ end → (v : ℕ) → v < vertices s → fell_by levels last v ≡ fall_mark G A x v
    last-tells done = rw same_kept (kept-tells (subst (λ z. Falling s l a levels x (withdrawn queue z []) support queue end) done k))

    pub last-touched : (w : ℕ) → w < vertices s → (get_or last w 0 ≡ 65535 → ⊥) → T (exposed G A x w)
    last-touched = rw same_kept k.touched
