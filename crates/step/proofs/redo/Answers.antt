-- A stale row is counted afresh, another is left.
use Rattle.std.proofs.Common.{◌≡◌, true, false, refl, sym, ◌∙◌, arith, rules}
use Rattle.pool.specs.Input.{graph_of}
use Rattle.step.specs.Rows.{stale_by}
use Rattle.step.proofs.Steps.{redone_begin, redone_skip, redone-more, stale-count, stale-reached}
use Rattle.step.proofs.redo.Goals as goal
use Rattle.step.proofs.redo.Goals.{then-is_stale, else-is_stale}

pub loop-u-init : goal.loop-u-init
loop-u-init c = record { few = omega arith; rows = redone_begin; rest = record { anchored = refl; columns = refl; bare = refl; reaching = refl } }

pub loop-u-preserved : goal.loop-u-preserved
loop-u-preserved c =
    let inv = c.loop-u.invariant in
    let same = inv.rest in
    let a = c.args.kept.now.anchored in
    let u = c.loop-u.u in
    let marks = c.args.marks.now in
    let G = graph_of c.args.starts.now c.args.links.now in
    elim c.if-is_stale.branch [
      | then-is_stale w ↦
          let stale : stale_by a marks u ≡ true = sym (rw same.anchored at c.is_stale.ensures) ∙ w.if-is_stale.true in
          let row = w.count_row-counts.ensures in
          let followers = (rw same.anchored at row.followers) ∙ stale-count G a marks u stale in
          let reached = (rw (same.anchored, same.reaching) at row.reached) ∙ stale-reached G a marks u stale c.args.kept.now.reaching in
          rw (w.kept-is, w.redone-is) record {
            few = omega arith;
            rows = redone-more inv.rows w.count_row-counts.result.followers w.count_row-counts.result.reached followers reached stale (search rules) (search rules) (search rules);
            rest = record { anchored = same.anchored; columns = same.columns; bare = same.bare; reaching = same.reaching };
          }
      | else-is_stale w ↦
          let fresh : stale_by a marks u ≡ false = sym (rw same.anchored at c.is_stale.ensures) ∙ w.if-is_stale.false in
          rw (w.kept-is, w.redone-is) record { few = omega arith; rows = redone_skip inv.rows fresh; rest = same }
    ]
