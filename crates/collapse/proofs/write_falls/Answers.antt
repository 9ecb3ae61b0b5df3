use Rattle.std.proofs.Common.{ap, ◌∙◌}
use Rattle.finite.specs.Count.{tabulate}
use Rattle.finite.proofs.Count.{tabulate_cong}
use Rattle.cascade.specs.Cascade.{fell_by}
use Rattle.collapse.proofs.write_falls.Goals as goal

pub returns : goal.returns
returns c =
    c.copy_falls.ensures ∙ ap (tabulate (fell_by c.args.levels.now c.cascade.new.support)) c.requires.marks_len ∙ tabulate_cong _ _ _ c.cascade.ensures.falls
