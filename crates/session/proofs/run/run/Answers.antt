-- A refusal is handed on; what is not refused is served, and demand 3 holds of it.
use Rattle.std.proofs.Common.{◌∙◌, sym, ap, refl}
use Rattle.std.specs.Prelude.{Ok}
use Rattle.std.proofs.lemmas.Result.{err_from_is_err_and}
use Rattle.table.proofs.Guards.{exit, goes_on, handed, cleared}
use Rattle.edit.proofs.Checked.{lent-sound}
use Rattle.session.specs.Run.{lists, slices}
use Rattle.session.proofs.Runs.{run_sound, sized-fits}
use Rattle.session.proofs.Claims.{session_claim}
use Rattle.session.proofs.run.run.Goals as goal

pub returns-in_err-admit-clause-fact : goal.returns-in_err-admit-clause-fact
returns-in_err-admit-clause-fact c =
    (exit _ _ _ c.admit.ensures c.in_err-admit.was (err_from_is_err_and c.from_residual.result c.from_residual.ensures.1), sym (handed _ _ (sym c.admit.ensures ∙ c.in_err-admit.was)))

pub returns-in_err-admit-clause-claim : goal.returns-in_err-admit-clause-claim
returns-in_err-admit-clause-claim c size e = let p = (err_from_is_err_and c.from_residual.result c.from_residual.ensures.1).1 in cc

pub measure-size-requires : goal.measure-size-requires
measure-size-requires c =
    let x = c.args in
    lent-sound _ _ (run_sound _ _ _ (lists x.kinds.now x.firsts.now x.seconds.now) _ (goes_on c.admit.ensures c.in_ok-admit.was)).0.table

pub write-requires : goal.write-requires
write-requires c =
    let x = c.args in
    let lent = slices x.starts.now x.links.now x.anchored.now x.levels.now x.layers.now x.components.now x.yields.now x.reached.now x.stamps.now x.status.now x.lifted.now x.redone.now in
    let sound = run_sound _ _ _ (lists x.kinds.now x.firsts.now x.seconds.now) _ (goes_on c.admit.ensures c.in_ok-admit.was) in
    record { runs = sound.0; fits = sized-fits {lent = lent} sound.1 }

pub returns-clause-fact : goal.returns-clause-fact
returns-clause-fact c =
    let passed = goes_on c.admit.ensures c.in_ok-admit.was in
    (ap Ok c.measure-size.ensures ∙ sym (cleared _ _ passed), c.write.ensures ∙ sym (cleared _ _ passed))

pub returns-clause-claim : goal.returns-clause-claim
returns-clause-claim c size e =
    let x = c.args in
    let lent = slices x.starts.now x.links.now x.anchored.now x.levels.now x.layers.now x.components.now x.yields.now x.reached.now x.stamps.now x.status.now x.lifted.now x.redone.now in
    session_claim _ _ _ _ lent refl refl (goes_on c.admit.ensures c.in_ok-admit.was)
