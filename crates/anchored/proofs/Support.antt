-- Followers are the greatest supported set, so striking out vertices of too little support, in any order, leaves exactly them. Assumes nothing.
use Prim.Native.Nat.{ℕ, suc, ◌≤◌, ◌<◌}
use mathlib.Core.Path.{◌≡◌, ◌∙◌}
use mathlib.Core.Bool.{Bool, not, ◌&&◌, ◌||◌}
use lib.Dec.{T, ltb, eqb, leb→le, le→leb, nleb→lt, not_T, eqb→eq}
use native.Mathlib.Omega.{arith}
use native.Mathlib.Nat.{le_trans}
use Rattle.finite.specs.Count.{count}
use Rattle.finite.specs.Sets.{has}
use Rattle.finite.proofs.Tests.{and_i, and_l, and_r, or_l, or_r, or-e, split, same, eqb_of}
use Rattle.finite.proofs.Count.{count_mono}
use Rattle.anchored.specs.Graph.{Graph, Simple}
use Rattle.anchored.specs.Core.{Solid, core, level}
use Rattle.anchored.specs.Followers.{adding, follows}
use Rattle.anchored.proofs.Core.{core_solid, core-largest, core-anchored, level-max, in_core}
use Rattle.anchored.proofs.Anchor.{free_of, other_of, level_by_one}

module _ (G : Graph) (A : ℕ → Bool) (x : ℕ) where
  -- p supports w beside the set M: anchored, or x, or of higher level, or of w's level and in M
  abbrev pub supports : (ℕ → Bool) → ℕ → ℕ → Bool
  supports M w p = adding A x p || ltb (level G A w) (level G A p) || (M p && eqb (level G A p) (level G A w))

  -- each member of M has supporters for one level more
  abbrev pub Supported : (ℕ → Bool) → Type 0
  Supported M = (w : ℕ) → w < G.size → T (M w) → suc (level G A w) ≤ count (supports M w) (G.neighbors w)

module _ (G : Graph) (L : Simple G) (A : ℕ → Bool) (x : ℕ) where
  abbrev lev : ℕ → ℕ
  lev = level G A

  abbrev outside : ℕ → ℕ → Bool
  outside w p = adding A x p || ltb (lev w) (lev p)

  -- a larger set supports no less
  pub supports_mono : (M N : ℕ → Bool) (w p : ℕ) → (T (M p) → T (N p)) → T (supports G A x M w p) → T (supports G A x N w p)
  supports_mono M N w p f h = or-e (outside w p) _ h (or_l (outside w p) _)
      (λ t. or_r (outside w p) _ (and_i (N p) _ (f (and_l (M p) _ t)) (and_r (M p) _ t)))

  -- the followers support one another
  pub follows_supported : Supported G A x (follows G A x)
  unfolding follows
  follows_supported w b h =
      let free = and_l (not (adding A x w)) _ h in
      let rise = leb→le (suc (lev w)) (level G (adding A x) w) (and_r (not (adding A x w)) _ h) in
      let next = has (core G (adding A x) (suc (lev w))) in
      le_trans (core_solid G L (adding A x) (suc (lev w)) w b (in_core G L (adding A x) w (suc (lev w)) b free rise) free)
      (count_mono next (supports G A x (follows G A x) w) (G.neighbors w) (λ p i g.
      let bp = L.range w p b i in
      split (adding A x p)
      (λ t. or_l (outside w p) _ (or_l (adding A x p) _ t))
      (λ t.
      let high = level-max G L (adding A x) p (suc (lev w)) t g in
      let one = level_by_one G L A x p bp t in
      split (ltb (lev w) (lev p))
      (λ u. or_l (outside w p) _ (or_r (adding A x p) _ u))
      (λ u.
      let low = nleb→lt (suc (lev w)) (lev p) u in
      or_r (outside w p) _ (and_i (follows G A x p) (eqb (lev p) (lev w))
      (and_i (not (adding A x p)) _ t (le→leb (suc (lev p)) (level G (adding A x) p) (omega arith)))
      (eqb_of (lev p) (lev w) (omega arith)))))))

  -- a supported set of vertices that are not anchored, and not x, consists of followers
  module _ (M : ℕ → Bool) (free : (v : ℕ) → T (M v) → (v < G.size) × T (not (adding A x v))) (held : Supported G A x M) where
    -- the next core, x, and those of M of level k
    raised : ℕ → ℕ → Bool
    raised k w = has (core G A (suc k)) w || eqb x w || (M w && eqb (lev w) k)

    raised_solid : (k : ℕ) → Solid G (adding A x) (suc k) (raised k)
    unfolding raised
    raised_solid k w b h a = or-e (has (core G A (suc k)) w || eqb x w) _ h
        (λ t. or-e (has (core G A (suc k)) w) _ t
        (λ c. le_trans (core_solid G L A (suc k) w b c (free_of A x w a)) (count_mono (has (core G A (suc k))) (raised k) (G.neighbors w) (λ p i g.
        or_l (has (core G A (suc k)) p || eqb x p) _ (or_l (has (core G A (suc k)) p) _ g))))
        (λ c. absurd (other_of A x w a (eqb→eq x w c))))
        (λ t.
        let e = eqb→eq (lev w) k (and_r (M w) _ t) in
        le_trans (le_trans (omega arith) (held w b (and_l (M w) _ t))) (count_mono (supports G A x M w) (raised k) (G.neighbors w) (λ p i g.
        let bp = L.range w p b i in
        or-e (outside w p) _ g
        (λ m. or_l (has (core G A (suc k)) p || eqb x p) _ (or-e (adding A x p) _ m
        (λ n. or-e (A p) _ n (λ q. or_l (has (core G A (suc k)) p) _ (core-anchored G L A (suc k) p bp q)) (or_r (has (core G A (suc k)) p) _))
        (λ n. or_l (has (core G A (suc k)) p) _ (split (A p) (core-anchored G L A (suc k) p bp) (λ q.
        in_core G L A p (suc k) bp q (omega (arith, leb→le (suc (lev w)) (lev p) n)))))))
        (λ m. or_r (has (core G A (suc k)) p || eqb x p) _ (and_i (M p) _ (and_l (M p) _ m)
        (eqb_of (lev p) k (eqb→eq (lev p) (lev w) (and_r (M p) _ m) ∙ e)))))))

    pub supported_follows : (v : ℕ) → T (M v) → T (follows G A x v)
    unfolding follows raised
    supported_follows v h =
        let b = (free v h).0 in
        let a = (free v h).1 in
        and_i (not (adding A x v)) _ a (le→leb (suc (lev v)) (level G (adding A x) v) (level-max G L (adding A x) v (suc (lev v)) a
        (core-largest G L (adding A x) (suc (lev v)) (raised (lev v)) (raised_solid (lev v)) v b
        (or_r (has (core G A (suc (lev v))) v || eqb x v) _ (and_i (M v) _ h (eqb_of (lev v) (lev v) (omega arith)))))))

  -- a vertex of too little support is no follower, in whatever set that holds all followers the support is counted
  pub struck-out : (M : ℕ → Bool) → ((v : ℕ) → v < G.size → T (follows G A x v) → T (M v)) → (w : ℕ) → w < G.size
      → count (supports G A x M w) (G.neighbors w) ≤ lev w → T (not (follows G A x w))
  struck-out M f w b h = not_T (follows G A x w) (λ t.
      let c = count_mono (supports G A x (follows G A x) w) (supports G A x M w) (G.neighbors w) (λ p i. supports_mono (follows G A x) M w p (f p (L.range w p b i))) in
      absurd (omega (arith, follows_supported w b t)))

  -- a supported set that holds all followers is the set of followers: striking out in any order is right
  pub settled : (M : ℕ → Bool) → ((v : ℕ) → T (M v) → (v < G.size) × T (not (adding A x v))) → Supported G A x M
      → ((v : ℕ) → v < G.size → T (follows G A x v) → T (M v)) → (v : ℕ) → v < G.size → M v ≡ follows G A x v
  settled M free held all v b = same (M v) (follows G A x v) (supported_follows M free held v) (all v b)
