-- The rows that the marks name are counted afresh.
use Rattle.std.proofs.Common.{refl, sym, subst, arith}
use Rattle.step.proofs.Steps.{redone-le, redone-named}
use Rattle.events.specs.Renew.{Renews}
use Rattle.events.proofs.renew.Goals as goal

pub overflow_cast-redone : goal.overflow_cast-redone
overflow_cast-redone c = omega (arith, c.requires.admitted.table.small, redone-le c.redo-redone.ensures.rows)

pub returns : goal.returns
returns c =
    let columns = c.refresh-next.ensures in
    let bare = c.fill_bare.ensures in
    let rest = c.redo-redone.ensures.rest in
    subst (Renews _ _ _ _ _ _) (sym (rw (rest.anchored, rest.columns, rest.bare, rest.reaching) at c.accepted.ensures)) record {
      bytes = refl;
      reaching = refl;
      columns = columns;
      bares = bare;
      status = refl;
      lifted = refl;
      rows = λ G before. redone-named c.redo-redone.ensures.rows (λ v h. sym (c.mark_rows.ensures columns bare G before v h));
    }
