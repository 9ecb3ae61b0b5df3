use Rattle.records.proofs.Records.{nobody-admitted, bare_held}
use Rattle.records.proofs.afresh.fill_bare.Goals as goal

pub peel-requires : goal.peel-requires
peel-requires c = nobody-admitted c.args.starts.now c.args.links.now c.requires

pub returns : goal.returns
returns c = bare_held c.args.starts.now c.args.links.now c.peel.new.level c.peel.ensures.leveled.hold
