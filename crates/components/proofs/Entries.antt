-- Counting the members of components, values beside the numbers, and what the list says of the definitions. Assumes nothing.
use mathlib.Core.Path.{◌≡◌, sym, ap, ◌∙◌, subst}
use mathlib.Core.Bool.{Bool, not, ◌&&◌}
use mathlib.Core.List.{List, [], ◌∷◌, ◌++◌, map, map-append}
use Prim.Native.Nat.{ℕ, ◌+◌, ◌≤◌, ◌<◌}
use native.Mathlib.Numerals.{add-one}
use native.Mathlib.Omega.{arith}
use lib.ListN.{length, take, drop, get_or, set, length-map}
use lib.Seq.{take-suc, take-append_seam, length-take-le, get_or-set_same, get_or-set_other}
use lib.Dec.{T, eqb, not_T, eqb→eq, eqb_refl}
use Rattle.finite.specs.Count.{count, below}
use Rattle.finite.proofs.Tests.{and_i, and_r, split, same, true_of, eqb_of, neqb}
use Rattle.finite.proofs.Count.{bit_yes, bit_no, in_at, in_below, map_cong, store-more, count-below-more, count-below-le, count_cong}
use Rattle.finite.proofs.Falling.{in_falling, falling_cong}
use Rattle.anchored.specs.Graph.{Graph, Simple}
use Rattle.anchored.specs.Core.{level}
use Rattle.anchored.specs.Component.{component, together, heads, component_size, ranked}
use Rattle.anchored.proofs.Core.{level-lt}
use Rattle.anchored.proofs.Ranked.{ranked-in, ranked-length}
use Rattle.pool.specs.Arrays.{Holds}
use Rattle.table.specs.Guard.{front}
use Rattle.ranking.specs.Ranking.{numbered, ranked_in, Low}
use Rattle.components.specs.Entries.{members, Placed}

-- ---- counting members

module _ (numbers sizes : List ℕ) (n v : ℕ) (holds : Holds sizes n (members numbers v)) where
  abbrev number : ℕ
  number = get_or numbers v 0

  has-number : ℕ → ℕ → Bool
  has-number c w = eqb (get_or numbers w 0) c

  -- no component has more members than vertices were looked at
  pub members-few : (c : ℕ) → c < n → get_or sizes c 0 ≤ v
  unfolding has-number
  members-few c b = omega (arith, holds c b, count-below-le (has-number c) v)

  -- v is one member more of its component
  pub members-more : number < n → number < length sizes → Holds (set sizes number (get_or sizes number 0 + 1)) n (members numbers (v + 1))
  unfolding has-number
  members-more b h c below-n = split (eqb number c)
      (λ t. subst (λ z. get_or (set sizes number (get_or sizes number 0 + 1)) z 0 ≡ members numbers (v + 1) z) (eqb→eq number c t)
      (get_or-set_same sizes number (get_or sizes number 0 + 1) 0 h ∙ omega (arith, holds number b, count-below-more (has-number number) v, bit_yes (eqb number number) (eqb_refl number))))
      (λ t. get_or-set_other sizes number c (get_or sizes number 0 + 1) 0 (λ e. neqb number c t (sym e)) ∙ omega (arith, holds c below-n, count-below-more (has-number c) v, bit_no (eqb number c) t))

  -- an anchored v is none
  pub members-same : n ≤ number → Holds sizes n (members numbers (v + 1))
  unfolding has-number
  members-same h c below-n =
      let other = not_T (eqb number c) (λ t. absurd (omega (arith, eqb→eq number c t))) in
      omega (arith, holds c below-n, count-below-more (has-number c) v, bit_no (eqb number c) other)

-- ---- values beside the numbers

module _ (f : ℕ → ℕ) (numbers : List ℕ) where
  pub gather_more : (old new : List ℕ) (i : ℕ) → i < length numbers → i < length old → new ≡ map f (take i numbers) ++ drop i old
      → set new i (f (get_or numbers i 0)) ≡ map f (take (i + 1) numbers) ++ drop (i + 1) old
  gather_more old new i h b e =
      let long : length (map f (take i numbers)) ≡ i = length-map (take i numbers) f ∙ length-take-le i numbers (omega arith) in
      let one : take (i + 1) numbers ≡ take i numbers ++ get_or numbers i 0 ∷ [] = rw add-one (take-suc numbers i 0 h) in
      let more : map f (take (i + 1) numbers) ≡ map f (take i numbers) ++ f (get_or numbers i 0) ∷ [] = ap (map f) one ∙ map-append f (take i numbers) (get_or numbers i 0 ∷ []) in
      store-more (map f (take i numbers)) old new i (f (get_or numbers i 0)) long e b ∙ ap (λ l. l ++ drop (i + 1) old) (sym more)

module _ (level component : List ℕ) (n : ℕ) where
  abbrev listed : List ℕ
  listed = ranked_in level component n n

  -- with the list at their front the numbers have it as their first, and these are places of the arrays
  module _ (old : List ℕ) {new : List ℕ} {c : ℕ} (counted : c ≡ length listed) (stored : new ≡ front listed old) where
    pub ranked_taken : take c new ≡ listed
    ranked_taken = rw (counted, stored) (take-append_seam listed (drop (length listed) old))

    pub ranked-placed : n ≤ 1024 → Placed (length (take c new)) (take c new)
    ranked-placed small = rw ranked_taken (λ i b.
        let m = (in_falling (λ v. get_or level v 0) (numbered component) n n (get_or listed i 0)).0 (in_at listed i 0 b) in
        omega (arith, m.0))

-- ---- the list of the components

-- what the arrays list is the defined list
pub record Defined (G : Graph) (A : ℕ → Bool) (levels numbers sizes : List ℕ) : Type 0 where
  pub low : Low levels numbers G.size
  pub counted : length (ranked_in levels numbers G.size G.size) ≡ count (heads G A) (below G.size)
  pub few : length (ranked_in levels numbers G.size G.size) ≤ G.size
  pub numbers_are : ranked_in levels numbers G.size G.size ≡ ranked G A
  pub levels_are : map (λ v. get_or levels v 0) (ranked_in levels numbers G.size G.size) ≡ map (level G A) (ranked G A)
  pub sizes_are : map (λ v. get_or sizes v 0) (ranked_in levels numbers G.size G.size) ≡ map (component_size G A) (ranked G A)

module _ (G : Graph) (L : Simple G) (A : ℕ → Bool) (small : G.size ≤ 1024) (levels numbers sizes : List ℕ)
    (levels_hold : Holds levels G.size (level G A)) (numbers-hold : Holds numbers G.size (component G A)) (sizes-hold : Holds sizes G.size (members numbers G.size))
  where
    is_head : (v : ℕ) → v < G.size → numbered numbers v ≡ heads G A v
    unfolding heads
    is_head v b = ap (λ z. eqb z v) (numbers-hold v b)

    -- a number below n is not that of an anchored vertex
    free : (w : ℕ) → component G A w < G.size → T (not (A w))
    unfolding component
    free w b = not_T (A w) (λ t. absurd (omega (arith, ap (λ z. z) (anchored t))))
      where
        anchored : T (A w) → component G A w ≡ 65535
        anchored t = rw (true_of (A w) t)

    -- the members of a component are those with its number
    size_of : (v : ℕ) → v < G.size → T (numbered numbers v) → members numbers G.size v ≡ component_size G A v
    unfolding component_size together
    size_of v b t =
        let own : component G A v ≡ v = sym (numbers-hold v b) ∙ eqb→eq (get_or numbers v 0) v t in
        count_cong (λ w. eqb (get_or numbers w 0) v) (together G A v) (below G.size) (λ w i.
        let e = numbers-hold w ((in_below G.size w).0 i) in
        same (eqb (get_or numbers w 0) v) (not (A w) && eqb (component G A v) (component G A w))
        (λ s.
        let q : component G A w ≡ v = sym e ∙ eqb→eq (get_or numbers w 0) v s in
        and_i (not (A w)) (eqb (component G A v) (component G A w)) (free w (omega arith)) (eqb_of (component G A v) (component G A w) (own ∙ sym q)))
        (λ s. eqb_of (get_or numbers w 0) v (e ∙ sym (eqb→eq (component G A v) (component G A w) (and_r (not (A w)) _ s)) ∙ own)))

    is_ranked : ranked_in levels numbers G.size G.size ≡ ranked G A
    unfolding ranked
    is_ranked = falling_cong _ _ _ _ G.size is_head levels_hold G.size

    pub defined : Defined G A levels numbers sizes
    defined =
        let counted = ap length is_ranked ∙ ranked-length G L A in
        record {
          low = λ v b h. subst (λ z. z < G.size) (sym (levels_hold v b)) (level-lt G L A v b (free v (subst (λ z. z < G.size) (numbers-hold v b) h)));
          counted = counted;
          few = omega (arith, count-below-le (heads G A) G.size);
          numbers_are = is_ranked;
          levels_are = ap (map (λ v. get_or levels v 0)) is_ranked ∙ map_cong _ _ (ranked G A) (λ v i. levels_hold v (ranked-in G L A v i).0);
          sizes_are = ap (map (λ v. get_or sizes v 0)) is_ranked ∙ map_cong _ _ (ranked G A) (λ v i.
              let m = ranked-in G L A v i in
              let b = m.0 in
              sizes-hold v b ∙ size_of v b (subst T (sym (is_head v b)) m.1));
        }
