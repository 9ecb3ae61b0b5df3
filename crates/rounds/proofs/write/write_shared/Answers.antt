-- A round more is played and written. Assumes nothing.
use Rattle.rounds.proofs.Playing.{playing_none, playing_more, playing_next, playing_room}
use Rattle.rounds.proofs.write.write_shared.Goals as goal

pub loop-i-init : goal.loop-i-init
loop-i-init c = playing_none c.begin-kept.ensures.keeps c.begin_turns-turns.ensures

pub play_turn-at-requires-clause-next_lt_houses : goal.play_turn-at-requires-clause-next_lt_houses
play_turn-at-requires-clause-next_lt_houses c = playing_next c.loop-i.invariant c.requires.quotas_nonzero

pub play_turn-at-requires-clause-starts_in_bounds_2 : goal.play_turn-at-requires-clause-starts_in_bounds_2
play_turn-at-requires-clause-starts_in_bounds_2 c = playing_room c.loop-i.invariant _ c.loop-i-test.true c.requires.starts_in_bounds_2

pub loop-i-preserved : goal.loop-i-preserved
loop-i-preserved c =
    let played = c.play_turn-at.ensures in
    playing_more c.loop-i.invariant played.keeps played.turns played.line
