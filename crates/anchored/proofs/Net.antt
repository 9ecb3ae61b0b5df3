-- Net yields: nobody is below its bare level, and over a session the climbs of those not anchored grow by the net yields of the
-- accepted requests. Assumes nothing.
use Prim.Native.Nat.{ℕ, zero, suc, ◌+◌, ◌≤◌, ◌<◌}
use mathlib.Core.Path.{◌≡◌, sym, ap, ◌∙◌, subst}
use mathlib.Core.Bool.{Bool, false, not, cond}
use mathlib.Core.List.{List}
use lib.ListN.{get_or}
use lib.IntN.{ℤ, pos, ◌+ℤ◌, +ℤ_idr, +ℤ_assoc}
use lib.Dec.{T, eqb, T_not, eqb→eq}
use native.Mathlib.Omega.{arith}
use borrow.Author.Tests.{ne_eqb}
use Rattle.finite.specs.Count.{bit, below}
use Rattle.finite.proofs.Tests.{or_l, or_r, split, true_of, false_of, neqb}
use Rattle.finite.proofs.Count.{in_below, distinct-below, sum_pairs, sum_bits, sum_one}
use Rattle.finite.proofs.Signed.{add-sub}
use Rattle.anchored.specs.Graph.{Graph, Simple}
use Rattle.anchored.specs.Core.{level}
use Rattle.anchored.specs.Followers.{adding, follows, followers}
use Rattle.anchored.specs.Yield.{nobody, bare_level, climb, net, climbed}
use Rattle.anchored.specs.Session.{Plain, status_of, turn, after, gained}
use Rattle.anchored.proofs.Anchor.{level_mono}
use Rattle.anchored.proofs.Session.{status-free, turn-accepted, turn-refused, mark_two, level-lifted}

module _ (G : Graph) (L : Simple G) where
  -- anchors take no level below the bare one
  pub bare_le : (A : ℕ → Bool) (v : ℕ) → v < G.size → T (not (A v)) → bare_level G v ≤ level G A v
  unfolding bare_level
  bare_le A v b a = level_mono G L nobody A (λ w t. absurd t) v b a

  module _ (A : ℕ → Bool) (x : ℕ) (bx : x < G.size) (ax : T (not (A x))) where
    abbrev A' : ℕ → Bool
    A' = adding A x

    abbrev share : (ℕ → Bool) → ℕ → ℕ
    share B v = cond (B v) 0 (climb G B v)

    never : (v : ℕ) → T (A' v) → bit (follows G A x v) ≡ 0
    unfolding follows
    never v t = rw (true_of (A' v) t)

    -- each vertex: x gives up its climb, a follower climbs by one
    each : (v : ℕ) → v < G.size → share A' v + cond (eqb x v) (climb G A x) 0 ≡ share A v + bit (follows G A x v)
    unfolding climb
    each v b = split (A v)
        (λ a.
        let other : eqb x v ≡ false = ne_eqb x v (λ e. T_not (A x) ax (subst (λ z. T (A z)) (sym e) a)) in
        let none = never v (or_l (A v) _ a) in
        rw (true_of (A v) a, other) (omega arith))
        (λ a. split (eqb x v)
        (λ t.
        let same = ap (climb G A) (eqb→eq x v t) in
        let none = never v (or_r (A v) _ t) in
        rw (false_of (A v) a, true_of (eqb x v) t) (omega arith))
        (λ t.
        let up = level-lifted G L A x v b (λ q. neqb x v t (sym q)) in
        let two = ap bit (mark_two G A x v) in
        let low = bare_le A v b a in
        rw (false_of (A v) a, false_of (eqb x v) t) (omega arith)))

    -- the climbs with x anchored too, and the climb of x, are the climbs without and one for each follower
    pub climbed-step : climbed G A' + climb G A x ≡ climbed G A + followers G A x
    unfolding climbed followers
    climbed-step =
        let all = below G.size in
        let terms = sum_pairs (share A') (λ v. cond (eqb x v) (climb G A x) 0) (share A) (λ v. bit (follows G A x v)) all (λ v i. each v ((in_below G.size v).0 i)) in
        omega (arith, sum_one x (climb G A x) all (distinct-below G.size) ((in_below G.size x).1 bx), sum_bits (follows G A x) all)

    -- they grow by the net yield of x
    pub climbed-net : pos (climbed G A') ≡ pos (climbed G A) +ℤ net G A x
    unfolding net
    climbed-net = add-sub (climbed G A) (climbed G A') (followers G A x) (climb G A x) climbed-step

  -- one request: accepted, its net yield; refused, nothing
  turn-climbed : (position x : ℕ) (S : Plain) → let A = S.anchors in
      pos (climbed G (turn G position x S).anchors) ≡ pos (climbed G A) +ℤ cond (eqb (status_of G A x) 0) (net G A x) (pos 0)
  turn-climbed position x S = let A = S.anchors in split (eqb (status_of G A x) 0)
      (λ t.
      let s = eqb→eq (status_of G A x) 0 t in
      let f = (status-free G A x).0 s in
      rw (turn-accepted G S x position s, true_of (eqb (status_of G A x) 0) t) (climbed-net A x f.0 f.1))
      (λ t. rw (turn-refused G S x position (neqb (status_of G A x) 0 t), false_of (eqb (status_of G A x) 0) t) (sym (+ℤ_idr (pos (climbed G A)))))

  -- over a session the climbs grow by the net yields of the accepted requests
  pub climbed-grows : (A : ℕ → Bool) (xs : List ℕ) (i : ℕ) → pos (climbed G (after G A xs i).anchors) ≡ pos (climbed G A) +ℤ gained G A xs i
  unfolding after gained
  climbed-grows A xs zero = sym (+ℤ_idr (pos (climbed G A)))
  climbed-grows A xs (suc i) =
      let S = after G A xs i in
      let x = get_or xs i 0 in
      let gain = cond (eqb (status_of G S.anchors x) 0) (net G S.anchors x) (pos 0) in
      turn-climbed (suc i) x S ∙ ap (λ (z : ℤ). z +ℤ gain) (climbed-grows A xs i) ∙ +ℤ_assoc (pos (climbed G A)) (gained G A xs i) gain
