-- The lines of one house that has every vertex are the rounds. Assumes nothing.
use Rattle.std.proofs.Common.{List, [], ◌∷◌, ℕ, refl, ap, arith}
use lib.ListN.{replicate}
use Rattle.finite.proofs.Count.{zeros-at}
use Rattle.table.specs.Table.{vertices}
use Rattle.pool.specs.Input.{graph_of, anchored_by}
use Rattle.sheet.specs.Line.{sheet_of}
use Rattle.sheet.proofs.Written.{written_as}
use Rattle.turns.specs.Turns.{houses_by, quota_by}
use Rattle.rounds.proofs.One.{one-rounds}
use Rattle.rounds.proofs.write.write_rounds.Goals as goal

abbrev house : List ℕ
house = replicate 1024 0

pub returns : goal.returns
returns c =
    let args = c.args in
    let alone = one-rounds (graph_of args.starts.now args.links.now) (houses_by house 1) (quota_by (args.rounds ∷ [])) (anchored_by args.given.now) refl (λ v h. zeros-at 1024 v) in
    written_as (ap (sheet_of (vertices args.starts.now)) (alone args.rounds (omega arith))) c.write_shared.ensures
