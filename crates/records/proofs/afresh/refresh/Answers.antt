use Rattle.stale.proofs.Stale.{columns-defined}
use Rattle.records.proofs.afresh.refresh.Goals as goal

pub returns : goal.returns
returns c =
    let sheet = c.fill.ensures in
    columns-defined c.requires.table sheet.levels sheet.layers sheet.components c.fill_above.ensures
