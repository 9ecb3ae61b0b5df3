-- The first i events are served.
use Rattle.pool.specs.Input.{graph_of}
use Rattle.session.specs.Run.{lists}
use Rattle.session.proofs.Serving.{Serving}
use Rattle.session.proofs.run.serve.Given as goal

abbrev pub invariant-loop-i : goal.invariant-loop-i
invariant-loop-i l =
    let begun = l.initial in
    Serving (graph_of begun.starts begun.links) l.given (lists l.events.kinds.now l.events.firsts.now l.events.seconds.now) begun.starts begun.links begun.status begun.lifted begun.redone l.starts l.links l.status l.lifted l.redone l.kept l.i
