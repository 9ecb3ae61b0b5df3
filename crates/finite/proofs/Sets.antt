-- Laws of sets as lists of Bool, and of steps repeated until they rest. Assumes nothing.
use mathlib.Core.Path.{◌≡◌, refl, sym, ap, ◌∙◌, subst}
use mathlib.Core.Bool.{Bool, true, false, ◌&&◌, ◌||◌}
use mathlib.Core.List.{List, [], ◌∷◌}
use Prim.Native.Nat.{ℕ, zero, suc, ◌+◌, ◌≤◌, ◌<◌, zero-le, suc-le-suc}
use native.Mathlib.Nat.{add-zero, add-suc, suc-add, zero-add}
use native.Mathlib.Omega.{arith}
use lib.ListN.{length, replicate, get_or-replicate, length-replicate}
use lib.Seq.{ext_get_or}
use lib.Dec.{T, leb, leb→le, nleb→lt}
use Rattle.finite.specs.Sets.{has, keep, having, size, rounds, grow}
use Rattle.finite.proofs.Tests.{and_i, and_l, and_r, or_l, split}
use Rattle.finite.proofs.Count.{bit_le, bit_mono}

-- ---- has

pub has_all : (n v : ℕ) → v < n → T (has (replicate n true) v)
has_all n v h = rw (get_or-replicate n v true false) tt

pub has-lt : (s : List Bool) (v : ℕ) → T (has s v) → v < length s
has-lt [] v t = absurd t
has-lt (b ∷ bs) zero t = omega arith
has-lt (b ∷ bs) (suc v) t = suc-le-suc (has-lt bs v t)

-- two sets of one length with the same members are the same list
pub sets_ext : (s t : List Bool) → length s ≡ length t → ((v : ℕ) → v < length s → has s v ≡ has t v) → s ≡ t
sets_ext s t e f = ext_get_or false s t e f

-- ---- keep

pub has-keep : (s : List Bool) (i : ℕ) (p : ℕ → Bool) (v : ℕ) → has (keep s i p) v ≡ has s v && p (i + v)
unfolding keep
has-keep [] i p v = refl
has-keep (b ∷ bs) i p zero = rw add-zero
has-keep (b ∷ bs) i p (suc v) = has-keep bs (suc i) p v ∙ rw (suc-add, add-suc)

pub length-keep : (s : List Bool) (i : ℕ) (p : ℕ → Bool) → length (keep s i p) ≡ length s
unfolding keep
length-keep [] i p = refl
length-keep (b ∷ bs) i p = ap suc (length-keep bs (suc i) p)

-- ---- size

pub size-length : (s : List Bool) → size s ≤ length s
unfolding size
size-length [] = zero-le
size-length (b ∷ bs) = omega (arith, bit_le b, size-length bs)

pub size_mono : (s t : List Bool) → length s ≡ length t → ((v : ℕ) → T (has s v) → T (has t v)) → size s ≤ size t
unfolding size
size_mono [] t e f = zero-le
size_mono (b ∷ bs) [] e f = absurd (omega arith)
size_mono (b ∷ bs) (c ∷ cs) e f = omega (arith, bit_mono b c (f 0), size_mono bs cs (omega arith) (λ v. f (suc v)))

-- a larger set with no more members is the same set
pub size_same : (s t : List Bool) → length s ≡ length t → ((v : ℕ) → T (has s v) → T (has t v)) → size t ≤ size s → t ≡ s
unfolding size
size_same [] [] e f h = refl
size_same [] (c ∷ cs) e f h = absurd (omega arith)
size_same (b ∷ bs) [] e f h = absurd (omega arith)
size_same (true ∷ bs) (true ∷ cs) e f h = ap (λ r. true ∷ r) (size_same bs cs (omega arith) (λ v. f (suc v)) (omega arith))
size_same (true ∷ bs) (false ∷ cs) e f h = absurd (f 0 tt)
size_same (false ∷ bs) (true ∷ cs) e f h = absurd (omega (arith, size_mono bs cs (omega arith) (λ v. f (suc v))))
size_same (false ∷ bs) (false ∷ cs) e f h = ap (λ r. false ∷ r) (size_same bs cs (omega arith) (λ v. f (suc v)) (omega arith))

-- none went, or the set is smaller
pub keep_same : (s : List Bool) (i : ℕ) (p : ℕ → Bool) → size s ≤ size (keep s i p) → keep s i p ≡ s
keep_same s i p h = sym (size_same (keep s i p) s (length-keep s i p) (λ v t. and_l (has s v) _ (rw has-keep at t)) h)

-- ---- having

pub has-having : (p : ℕ → Bool) (n v : ℕ) → has (having p n) v ≡ has (replicate n true) v && p v
unfolding having
has-having p n v = has-keep (replicate n true) 0 p v ∙ rw zero-add

pub having_i : (p : ℕ → Bool) (n v : ℕ) → v < n → T (p v) → T (has (having p n) v)
having_i p n v b t = rw has-having (and_i (has (replicate n true) v) (p v) (has_all n v b) t)

pub having-e : (p : ℕ → Bool) (n v : ℕ) → T (has (having p n) v) → T (p v)
having-e p n v h = and_r (has (replicate n true) v) (p v) (rw has-having at h)

pub having-lt : (p : ℕ → Bool) (n v : ℕ) → T (has (having p n) v) → v < n
having-lt p n v h = subst (λ z. v < z) (length-replicate n true) (has-lt (replicate n true) v (and_l (has (replicate n true) v) (p v) (rw has-having at h)))

pub length-having : (p : ℕ → Bool) (n : ℕ) → length (having p n) ≡ n
unfolding having
length-having p n = length-keep (replicate n true) 0 p ∙ length-replicate n true

-- ---- rounds

module _ (f : List Bool → List Bool) where
  pub rounds_fixed : (m : ℕ) (s : List Bool) → f s ≡ s → rounds f m s ≡ s
  unfolding rounds
  rounds_fixed zero s e = refl
  rounds_fixed (suc m) s e = rw e (rounds_fixed m s e)

  -- one round more, at the end
  pub rounds-suc : (m : ℕ) (s : List Bool) → rounds f (suc m) s ≡ f (rounds f m s)
  unfolding rounds
  rounds-suc zero s = refl
  rounds-suc (suc m) s = rounds-suc m (f s)

  -- a step that rests unless it makes the set smaller rests after as many rounds as there are members
  pub shrink_rest : ((s : List Bool) → size s ≤ size (f s) → f s ≡ s) → (m : ℕ) (s : List Bool) → size s ≤ m → f (rounds f m s) ≡ rounds f m s
  unfolding rounds
  shrink_rest c zero s h = c s (omega arith)
  shrink_rest c (suc m) s h = split (leb (size s) (size (f s)))
      (λ t. let e = c s (leb→le (size s) (size (f s)) t) in rw (e, rounds_fixed m s e) e)
      (λ t. shrink_rest c m (f s) (let k = nleb→lt (size s) (size (f s)) t in omega arith))

  pub length-rounds : (n : ℕ) → ((s : List Bool) → length (f s) ≡ n) → (m : ℕ) (s : List Bool) → length s ≡ n → length (rounds f m s) ≡ n
  unfolding rounds
  length-rounds n g zero s e = e
  length-rounds n g (suc m) s e = length-rounds n g m (f s) (g s)

-- ---- grow

module _ (n : ℕ) (g : List Bool → ℕ → Bool) where
  pub length-grow : (s : List Bool) → length (grow n g s) ≡ n
  unfolding grow
  length-grow s = length-having _ n

  pub grow_i : (s : List Bool) (v : ℕ) → v < n → T (has s v || g s v) → T (has (grow n g s) v)
  unfolding grow
  grow_i s v b h = having_i (λ w. has s w || g s w) n v b h

  pub grow-e : (s : List Bool) (v : ℕ) → T (has (grow n g s) v) → (v < n) × T (has s v || g s v)
  unfolding grow
  grow-e s v h = (having-lt (λ w. has s w || g s w) n v h, having-e (λ w. has s w || g s w) n v h)

  -- what was in a set stays in through every round
  pub grow_keeps : (m : ℕ) (s : List Bool) (v : ℕ) → v < n → T (has s v) → T (has (rounds (grow n g) m s) v)
  unfolding rounds
  grow_keeps zero s v b h = h
  grow_keeps (suc m) s v b h = grow_keeps m (grow n g s) v b (grow_i s v b (or_l (has s v) _ h))

  grow-same : (s : List Bool) → length s ≡ n → size (grow n g s) ≤ size s → grow n g s ≡ s
  grow-same s e h = size_same s (grow n g s) (e ∙ sym (length-grow s)) (λ v t. grow_i s v (subst (λ z. v < z) e (has-lt s v t)) (or_l (has s v) _ t)) h

  -- n rounds of growing rest
  pub grow-rest : (m : ℕ) (s : List Bool) → length s ≡ n → n ≤ size s + m → grow n g (rounds (grow n g) m s) ≡ rounds (grow n g) m s
  unfolding rounds
  grow-rest zero s e h = grow-same s e (omega (arith, size-length (grow n g s), length-grow s))
  grow-rest (suc m) s e h = split (leb (size (grow n g s)) (size s))
      (λ t. let c = grow-same s e (leb→le (size (grow n g s)) (size s) t) in rw (c, rounds_fixed (grow n g) m s c) c)
      (λ t. grow-rest m (grow n g s) (length-grow s) (let k = nleb→lt (size (grow n g s)) (size s) t in omega arith))
