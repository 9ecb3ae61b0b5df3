-- The line written is that of the round, for a vertex and for nobody. Assumes nothing.
use Rattle.std.proofs.Common.{refl, arith}
use Rattle.rounds.proofs.Playing.{written-some, written_none, keeps_none}
use Rattle.rounds.proofs.play.play.Goals as goal

pub returns-in_default-clause-keeps : goal.returns-in_default-clause-keeps
returns-in_default-clause-keeps c = rw c.in_default.is (keeps_none c.requires.right _ _ refl)

pub returns-in_default-clause-line : goal.returns-in_default-clause-line
returns-in_default-clause-line c = rw c.in_default.is (written_none c.requires.right _ _ 1024 refl c.requires.right.admitted.table.small c.put_line.ensures)

pub returns-clause-line : goal.returns-clause-line
returns-clause-line c =
    rw c.in-Some.is (written-some c.requires.right _ _ c.search.new.marks (rw c.in-Some.is at c.requires.free).0 (omega (arith, c.requires.right.admitted.table.small)) c.search.ensures.marks c.step-stepped.ensures c.put_line-2.ensures)
