use Rattle.std.proofs.Common.{◌≡◌, ℕ, List, length, refl, ◌∙◌, arith, rules}
use Rattle.table.specs.Table.{vertices}
use Rattle.pool.specs.Arrays.{Holds}
use Rattle.pool.proofs.Laws.{simple, free_byte, byte_free}
use Rattle.pool.proofs.Arrays.{filled_holds}
use borrow.Author.Tests.{ne_eqb}
use Rattle.finite.proofs.Tests.{of_false, eqb_of}
use Rattle.flood.specs.Flooding.{blank}
use Rattle.flood.proofs.Flooding.{begin, pass, finish, pends_begin}
use Rattle.flood.proofs.flood.Goals as goal
use Rattle.flood.proofs.flood.Goals.{then-anchored-start-eq0+then-numbering-start, else-anchored-start-eq0, else-anchored-start-eq0-via-then-anchored-start-eq0+else-numbering-start, else-anchored-start-eq0-via-else-anchored-start-eq0}

pub loop-start-init : goal.loop-start-init
loop-start-init c =
    let t = c.requires.admitted.table in
    let long : length c.args.component.now ≡ 1024 = search rules in
    let none = filled_holds _ 1024 65535 (vertices c.args.starts.now) (rw long at (c.fill.ensures.after (λ y h. h))) t.small in
    let p = c.pend.ensures in
    record {
      same_numbers = refl;
      floods = record {
        admitted = c.requires.admitted;
        flooding = begin _ _ (omega (arith, t.small, long, c.fill.ensures.len)) (omega (arith, t.small)) none;
        pends = pends_begin _ _ (omega (arith, t.small, p.0)) (λ v b. p.1 v b ∙ c.requires.hold v b) none;
      };
    }

pub spread-requires : goal.spread-requires
spread-requires c = record {
  bytes = c.args.anchored.now;
  floods = c.loop-start.invariant.floods;
  free = byte_free c.args.anchored.now c.loop-start.start c.if-anchored-start-eq0.true;
  vertex = c.loop-start-test.true;
  none = eqb_of _ _ c.if-numbering-start.true;
}

pub loop-start-preserved : goal.loop-start-preserved
loop-start-preserved c =
    let admitted = c.requires.admitted in
    let start = c.loop-start.start in
    let inv = c.loop-start.invariant in
    elim c.if-anchored-start-eq0.branch [
      | then-anchored-start-eq0+then-numbering-start way ↦
          rw way.numbering-is (record {
            same_numbers = way.spread.ensures.same_numbers ∙ inv.same_numbers;
            floods = way.spread.ensures.spreads.moves _ inv.floods (byte_free c.args.anchored.now start way.if-anchored-start-eq0.true);
          })
      | else-anchored-start-eq0 way ↦
          rw way.numbering-is (record {
            same_numbers = inv.same_numbers;
            floods = record {
              admitted = admitted;
              pends = inv.floods.pends;
              flooding = pass inv.floods.flooding (elim way.else-anchored-start-eq0.branch [
                | else-anchored-start-eq0-via-then-anchored-start-eq0+else-numbering-start side ↦ λ free. of_false (blank c.loop-start.numbering.component.now start) (ne_eqb _ _ side.if-numbering-start.false)
                | else-anchored-start-eq0-via-else-anchored-start-eq0 side ↦ λ free. absurd (side.if-anchored-start-eq0.false (free_byte admitted start c.loop-start-test.true free))
              ]);
            };
          })
    ]

moved : (f : ℕ → ℕ) (n : ℕ) (xs : List ℕ) {ys : List ℕ} → ys ≡ xs → Holds xs n f → Holds ys n f
moved f n xs e h = rw e h

pub returns : goal.returns
returns c =
    let done : c.loop-start.start ≡ vertices c.args.starts.now = omega arith in
    moved _ _ _ (search rules) (finish (simple c.requires.admitted.table) (rw done at c.loop-start.invariant.floods).flooding)
