use Rattle.std.proofs.Common.{◌≡◌, ℕ, ◌+◌, ◌*◌, ◌≤◌, ◌<◌, not, eqb, List, ◌++◌, length, ap, ◌∙◌, arith}
use Rattle.std.proofs.Math.ListN.{get_or-append, length-set}
use borrow.Author.Tests.{ne_eqb}
use Rattle.finite.specs.Count.{bit}
use Rattle.finite.proofs.Tests.{true_of, eqb_of}
use Rattle.table.specs.Table.{neighbors, vertices, SoundTable}
use Rattle.table.proofs.Laws.{neighbors-length}
use Rattle.pool.specs.Input.{graph_of, anchored_by}
use Rattle.pool.specs.Arrays.{Holds}
use Rattle.pool.proofs.Arrays.{holds_more}
use Rattle.peel.specs.Peeling.{first_degree}
use Rattle.peel.proofs.degrees.Goals as goal
use Rattle.peel.proofs.degrees.Goals.{then-anchored-v-eq1, else-anchored-v-eq1}

-- a vertex has no more neighbors than there are links
few : (s l : List ℕ) → SoundTable s l → (v : ℕ) → v < vertices s → length (neighbors s l v) ≤ 16384
few s l t v h = omega (arith, neighbors-length s l t.framed v h, t.framed.within (v + 1) (omega arith), t.few)

none : (byte m : ℕ) → byte ≡ 1 → 0 ≡ bit (not (eqb byte 1)) * m
none byte m e = rw (true_of _ (eqb_of byte 1 e)) (omega arith)

all : (byte m : ℕ) → (byte ≡ 1 → ⊥) → m ≡ bit (not (eqb byte 1)) * m
all byte m h = rw (ne_eqb byte 1 h) (omega arith)

-- what the front holds, the whole does
holds-front : (f : ℕ → ℕ) (xs ys : List ℕ) (n : ℕ) → length xs ≡ n → Holds xs n f → Holds (xs ++ ys) n f
holds-front f xs ys n e h v b = get_or-append xs ys 0 v (omega arith) ∙ h v b

pub overflow_cast-d : goal.overflow_cast-d
overflow_cast-d c =
    rw c.neighbors-part.ensures (omega (arith, few _ _ c.requires.admitted.table c.loop-v.v (omega arith)))

pub loop-v-preserved : goal.loop-v-preserved
loop-v-preserved c =
    let a = c.args in
    let v = c.loop-v.v in
    let inv = c.loop-v.invariant in
    let f = first_degree (graph_of a.starts.now a.links.now) (anchored_by a.anchored.now) in
    let degree : c.if-anchored-v-eq1.d ≡ f v = elim c.if-anchored-v-eq1.branch [
      | then-anchored-v-eq1 w ↦ w.d-is ∙ none _ _ w.if-anchored-v-eq1.true
      | else-anchored-v-eq1 w ↦ w.d-is ∙ ap length c.neighbors-part.ensures ∙ all _ _ w.if-anchored-v-eq1.false
    ] in
    record {
      long = simp length-set inv.long;
      holds = rw degree (holds_more c.loop-v.d-items f v (omega arith) inv.holds);
    }

pub returns-clause-holds : goal.returns-clause-holds
returns-clause-holds c =
    let inv = c.loop-v.invariant in
    let done : c.loop-v.v ≡ vertices c.args.starts.now = omega arith in
    holds-front _ _ _ _ inv.long (rw done at inv.holds)
