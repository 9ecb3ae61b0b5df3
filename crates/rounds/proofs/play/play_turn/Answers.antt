-- The house found is the one served, and the vertex played is the one that it names. Assumes nothing.
use Rattle.std.proofs.Common.{◌<◌, get_or}
use Rattle.std.proofs.lemmas.Option.{IfSome_then}
use Rattle.records.proofs.Nets.{right-small}
use Rattle.rounds.proofs.Playing.{turn-left, turn-served, name_found, name_value, name_open}
use Rattle.rounds.proofs.play.play_turn.Goals as goal

pub name-x-requires-clause-smalls : goal.name-x-requires-clause-smalls
name-x-requires-clause-smalls c = right-small c.requires.right

pub play-end-requires-clause-free : goal.play-end-requires-clause-free
play-end-requires-clause-free c =
    let right = c.requires.right in
    name_open right _ _ _ (name_found right _ _ _ c.find_house-c.ensures c.name-x.ensures)

pub take_turn-requires-clause-left : goal.take_turn-requires-clause-left
take_turn-requires-clause-left c =
    let args = c.args in
    let left = turn-left c.requires.right _ _ _ c.find_house-c.ensures in
    IfSome_then _ {Q = λ e. e < args.houses → 0 < get_or args.turns.now.left e 0} left (λ e its low. its.1)

pub returns-clause-keeps : goal.returns-clause-keeps
returns-clause-keeps c =
    let right = c.requires.right in
    let args = c.args in
    let x = name_value right _ _ _ (name_found right _ _ _ c.find_house-c.ensures c.name-x.ensures) in
    rw x at c.play-end.ensures.keeps

pub returns-clause-turns : goal.returns-clause-turns
returns-clause-turns c =
    rw (turn-served c.requires.right _ _ _ c.find_house-c.ensures c.requires.next_lt_houses) at c.take_turn.ensures

pub returns-clause-line : goal.returns-clause-line
returns-clause-line c =
    let right = c.requires.right in
    let x = name_value right _ _ _ (name_found right _ _ _ c.find_house-c.ensures c.name-x.ensures) in
    rw x at c.play-end.ensures.line
