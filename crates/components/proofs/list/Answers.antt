use Rattle.components.proofs.Entries.{ranked-placed}
use Rattle.components.proofs.list.Goals as goal

pub gather-requires-clause-placed : goal.gather-requires-clause-placed
gather-requires-clause-placed c = ranked-placed _ _ _ _ c.rank-count.ensures.count c.rank-count.ensures.numbers c.requires.n_bound

pub gather-requires-2-clause-placed : goal.gather-requires-2-clause-placed
gather-requires-2-clause-placed c = ranked-placed _ _ _ _ c.rank-count.ensures.count c.rank-count.ensures.numbers c.requires.n_bound
