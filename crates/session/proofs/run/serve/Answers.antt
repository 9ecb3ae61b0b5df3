-- An event more is one turn more.
use Rattle.std.proofs.Common.{arith}
use Rattle.edit.proofs.Canonical.{tabled_itself}
use Rattle.session.proofs.Serving.{runs-admitted, serving_none, serving_more, serving_all}
use Rattle.session.proofs.run.serve.Goals as goal

pub zero_behind-requires : goal.zero_behind-requires
zero_behind-requires c = c.requires.runs.table

pub begin-kept-requires : goal.begin-kept-requires
begin-kept-requires c = record { admitted = runs-admitted c.requires.runs c.zero_behind.ensures; given_len = c.requires.runs.long }

pub loop-i-init : goal.loop-i-init
loop-i-init c = serving_none (tabled_itself c.zero_behind.ensures) c.begin-kept.ensures.keeps c.begin-kept.ensures.reaching

pub turn-stepped-requires : goal.turn-stepped-requires
turn-stepped-requires c = let serving = c.loop-i.invariant in record { tabled = tabled_itself serving.table; right = serving.keeps.right }

pub loop-i-preserved : goal.loop-i-preserved
loop-i-preserved c =
    serving_more c.loop-i.invariant (omega arith) (omega arith) (omega arith) c.turn-stepped.auto.starts c.turn-stepped.auto.links c.turn-stepped.ensures

pub returns : goal.returns
returns c =
    let pre = c.requires in
    let all = serving_all c.loop-i.invariant c.zero_behind.ensures.graph (omega arith) pre.status_len pre.lifted_len pre.redone_len in
    record { kept = all.0; status = all.1.0; lifted = all.1.1.0; redone = all.1.1.1 }
