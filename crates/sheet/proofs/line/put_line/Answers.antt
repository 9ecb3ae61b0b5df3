-- The four calls write one behind the other. Assumes nothing.
use Rattle.std.proofs.Common.{length, rules, arith}
use Rattle.sheet.specs.Line.{line_of, lifted_by}
use Rattle.sheet.proofs.Written.{written_then, written-length}
use Rattle.sheet.proofs.Lines.{retain_length, marks-length}
use Rattle.sheet.proofs.line.put_line.Goals as goal

pub redone-requires : goal.redone-requires
redone-requires c =
    omega (arith, retain_length c.args.chosen, marks-length (lifted_by c.args.marks.now) (length c.args.marks.now), written-length c.round.ensures.wrote, written-length c.retain.ensures.wrote, written-length c.marks.ensures.wrote)

pub returns : goal.returns
unfolding line_of
returns c =
    let p = written_then (written_then (written_then c.round.ensures.wrote c.retain.ensures.wrote) c.marks.ensures.wrote) c.redone.ensures.wrote in
    search rules
