-- the bytes show the first i terms
use Rattle.anchored.specs.Terms.{terms}
use Rattle.terms.specs.Days.{Shows}
use Rattle.terms.proofs.Terms.set_anchors.Given as goal

abbrev pub invariant-loop-i : goal.invariant-loop-i
invariant-loop-i l = Shows (terms l.self.vertices.now l.self.firsts.now l.self.ends.now) l.day l.bytes l.i
