use Rattle.std.proofs.Common.{◌≤◌, refl, length, arith}
use Rattle.std.proofs.Math.Seq.{take_all}
use Rattle.peel.proofs.Steps.{strikes_none, can_strike_next, strikes_more}
use Rattle.peel.proofs.Worksheet.lower.Goals as goal

pub loop-w-init : goal.loop-w-init
loop-w-init c = record { same_sheet = (refl, refl); strikes = strikes_none c.requires.long }

pub strike-requires : goal.strike-requires
strike-requires c =
    let s = c.loop-w.invariant.strikes in
    record {
      turn_bound = c.requires.turn_bound;
      long = s.long;
      can_strike = can_strike_next _ s c.loop-w-test.true c.requires.can_strike;
    }

pub loop-w-preserved : goal.loop-w-preserved
loop-w-preserved c = record {
  same_sheet = (cc, cc);
  strikes = strikes_more _ c.loop-w.invariant.strikes c.loop-w-test.true c.strike.ensures.strikes;
}

pub returns-clause-strikes : goal.returns-clause-strikes
returns-clause-strikes c =
    let all : length c.args.part.now ≤ c.loop-w.w-index = omega arith in
    rw (take_all _ _ all) at c.loop-w.invariant.strikes
