-- Test by test.
use Rattle.std.proofs.Common.{◌≡◌, true, false, ap}
use Rattle.finite.specs.Search.{member}
use Rattle.table.specs.Table.{neighbors}
use Rattle.edit.specs.Change.{is_adding}
use Rattle.edit.proofs.Statuses.{status-own, status-first, status-second, status-vain, status-dropped, status-full, status-added}
use Rattle.edit.proofs.status.edge_status.Goals as goal
use Rattle.edit.proofs.status.edge_status.Goals.{then-n-a-via-then-n-a, then-n-a-via-else-n-a+then-n-b}

pub returns-then-a-b : goal.returns-then-a-b
returns-then-a-b c = let x = c.args in status-own c.requires (is_adding x.change) x.a x.b c.if-a-b.true

pub returns-then-n-a : goal.returns-then-n-a
returns-then-n-a c =
    let x = c.args in
    elim c.then-n-a.branch [
      | then-n-a-via-then-n-a w ↦ status-first c.requires (is_adding x.change) x.a x.b c.if-a-b.false w.if-n-a.true
      | then-n-a-via-else-n-a+then-n-b w ↦ status-second c.requires (is_adding x.change) x.a x.b c.if-a-b.false w.if-n-a.false w.if-n-b.true
    ]

pub returns-in-Add : goal.returns-in-Add
returns-in-Add c =
    let x = c.args in
    let there : member x.b (neighbors x.starts.now x.links.now x.a) ≡ is_adding x.change = cc in
    status-vain c.requires (is_adding x.change) x.a x.b c.if-a-b.false c.if-n-a.false c.if-n-b.false there

pub returns-in-Add-2 : goal.returns-in-Add-2
returns-in-Add-2 c =
    let x = c.args in
    let there : member x.b (neighbors x.starts.now x.links.now x.a) ≡ false = cc in
    status-full c.requires (is_adding x.change) x.a x.b c.if-a-b.false c.if-n-a.false c.if-n-b.false there (ap is_adding c.in-Add.is) c.if-starts-n-gt16382.true

pub returns-in-Drop : goal.returns-in-Drop
returns-in-Drop c =
    let x = c.args in
    let there : member x.b (neighbors x.starts.now x.links.now x.a) ≡ is_adding x.change = cc in
    status-vain c.requires (is_adding x.change) x.a x.b c.if-a-b.false c.if-n-a.false c.if-n-b.false there

pub returns-in_default : goal.returns-in_default
returns-in_default c =
    let x = c.args in
    let there : member x.b (neighbors x.starts.now x.links.now x.a) ≡ false = cc in
    status-added c.requires (is_adding x.change) x.a x.b c.if-a-b.false c.if-n-a.false c.if-n-b.false there (ap is_adding c.in-Add.is) c.if-starts-n-gt16382.false

pub returns-in_default-2 : goal.returns-in_default-2
returns-in_default-2 c =
    let x = c.args in
    let there : member x.b (neighbors x.starts.now x.links.now x.a) ≡ true = cc in
    status-dropped c.requires (is_adding x.change) x.a x.b c.if-a-b.false c.if-n-a.false c.if-n-b.false there (ap is_adding c.in-Drop.is)
