-- What stores do to the places of an array, and copies of its first places. Assumes nothing.
use mathlib.Core.Path.{◌≡◌, ap, ◌∙◌}
use mathlib.Core.List.{List}
use Prim.Native.Nat.{ℕ, ◌+◌, ◌≤◌, ◌<◌}
use native.Mathlib.Omega.{arith}
use lib.ListN.{take, length, get_or, set, replicate, get_or-replicate}
use lib.Seq.{get_or-set_same, get_or-set_other}
use lib.Dec.{eqb, eqb→eq}
use Rattle.finite.specs.Count.{tabulate}
use Rattle.finite.proofs.Tests.{split, neqb}
use Rattle.finite.proofs.Count.{tabulate-take}
use Rattle.pool.specs.Arrays.{Holds}

pub holds_more : (xs : List ℕ) (f : ℕ → ℕ) (i : ℕ) → i < length xs → Holds xs i f → Holds (set xs i (f i)) (i + 1) f
holds_more xs f i h all v b = split (eqb v i)
    (λ t. let e = eqb→eq v i t in rw e (get_or-set_same xs i (f i) 0 h))
    (λ t. let apart = neqb v i t in get_or-set_other xs i v (f i) 0 apart ∙ all v (omega arith))

-- an array filled with x
pub filled_holds : (xs : List ℕ) (m x n : ℕ) → xs ≡ replicate m x → n ≤ m → Holds xs n (λ v. x)
filled_holds xs m x n e h v b = ap (λ ys. get_or ys v 0) e ∙ get_or-replicate m v x 0 (omega arith)

-- a copy of the first n places of an array that holds f, as `copy` leaves it
pub copied-front : (f : ℕ → ℕ) (from : List ℕ) {to : List ℕ} {m n : ℕ} → m ≡ n → n ≤ length from → Holds from n f → to ≡ take m from → to ≡ tabulate f n
copied-front f from {n = n} long within holds e = e ∙ ap (λ k. take k from) long ∙ tabulate-take f from n within holds
