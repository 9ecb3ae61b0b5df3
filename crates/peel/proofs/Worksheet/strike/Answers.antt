-- Each way out is a step of the peeling.
use Rattle.std.proofs.Common.{◌≡◌, ◌+◌, set, arith}
use Rattle.peel.proofs.Steps.{struck-below, struck-room, strikes_lower, strikes_fall}
use Rattle.peel.proofs.Worksheet.strike.Goals as goal

pub offset_bounds-self-w : goal.offset_bounds-self-w
offset_bounds-self-w c = omega (arith, struck-below c.requires.long c.requires.can_strike)

pub bounds-self-w : goal.bounds-self-w
bounds-self-w c = omega (arith, struck-below c.requires.long c.requires.can_strike)

pub offset_bounds-self-w-2 : goal.offset_bounds-self-w-2
offset_bounds-self-w-2 c = omega (arith, struck-below c.requires.long c.requires.can_strike)

pub bounds-self-w-2 : goal.bounds-self-w-2
bounds-self-w-2 c = omega (arith, struck-below c.requires.long c.requires.can_strike)

pub settle-requires : goal.settle-requires
settle-requires c =
    let p = c.requires in
    ((struck-below p.long p.can_strike).0, struck-room p.long p.can_strike c.if-d-k.true)

pub returns-then-d-k-clause-strikes : goal.returns-then-d-k-clause-strikes
returns-then-d-k-clause-strikes c =
    let p = c.requires in
    let e = c.settle.ensures in
    let old = c.args.self.now in
    let level : c.settle.new.self.level.now ≡ set old.level.now c.args.w c.args.k = cc in
    let layer : c.settle.new.self.layer.now ≡ set old.layer.now c.args.w (c.args.turn + 1) = cc in
    rw (e.degree, level, layer, e.queue, e.tail) (strikes_fall p.long p.can_strike c.if-d-k.true)

pub returns-else-d-k-clause-strikes : goal.returns-else-d-k-clause-strikes
returns-else-d-k-clause-strikes c =
    let p = c.requires in
    strikes_lower p.long p.can_strike c.if-d-k.false
