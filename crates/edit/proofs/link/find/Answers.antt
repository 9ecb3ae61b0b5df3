-- The place in the part, added to the part's first place.
use Rattle.std.proofs.Common.{rules, ◌≡◌, ap, ◌+◌, get_or}
use borrow.Author.Tests.{tests}
use lib.Dec.{leb}
use Rattle.std.specs.List.{position}
use Rattle.std.proofs.lemmas.Iterator.{YieldsList-from_slice}
use Rattle.std.proofs.lemmas.Iterator.Search.{position_from_yields_List}
use Rattle.table.specs.Table.{neighbors}
use Rattle.edit.proofs.Places.{place_found}
use Rattle.edit.proofs.link.find.Goals as goal

pub returns : goal.returns
returns c =
    let x = c.args in
    let at : c.position.result ≡ position (leb x.w) c.neighbors-part.result.now =
    position_from_yields_List (leb x.w) _ _ c.position.result c.position.ensures.ran (YieldsList-from_slice _ c.iter.ensures.rest) (λ u b q k. search (rules, tests)) in
    ap (λ p. get_or x.starts.now x.v 0 + p) (rw (at, c.neighbors-part.ensures, place_found (neighbors x.starts.now x.links.now x.v) x.w) at c.unwrap_or-place.ensures)
