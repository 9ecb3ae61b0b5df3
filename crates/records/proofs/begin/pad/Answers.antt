use Rattle.records.proofs.Records.{padded}
use Rattle.records.proofs.begin.pad.Goals as goal

pub returns : goal.returns
returns c = rw c.copy_from_slice.ensures.after (padded c.args.given.now c.requires)
