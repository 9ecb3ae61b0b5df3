-- each slice gets the first n places of an array that holds what is defined
use Rattle.std.proofs.Common.{arith}
use Rattle.pool.proofs.Arrays.{copied-front}
use Rattle.level.proofs.work.write_sheet.Goals as goal

pub returns-clause-levels : goal.returns-clause-levels
returns-clause-levels c = copied-front _ c.fill.new.level c.requires.levels_len (omega (arith, c.requires.admitted.table.small)) c.fill.ensures.levels c.copy.ensures

pub returns-clause-layers : goal.returns-clause-layers
returns-clause-layers c = copied-front _ c.fill.new.layer c.requires.layers_len (omega (arith, c.requires.admitted.table.small)) c.fill.ensures.layers c.copy-2.ensures

pub returns-clause-components : goal.returns-clause-components
returns-clause-components c = copied-front _ c.fill.new.component c.requires.components_len (omega (arith, c.requires.admitted.table.small)) c.fill.ensures.components c.copy-3.ensures
