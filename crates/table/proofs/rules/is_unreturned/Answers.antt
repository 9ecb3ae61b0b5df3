use Rattle.std.proofs.Common.{arith, ◌≡◌, ◌∙◌, sym, ap, get_or, not, true, length}
use Rattle.finite.specs.Search.{member}
use Rattle.finite.proofs.Search.{any_at, any_none}
use Rattle.table.specs.Table.{neighbors, unreturned}
use Rattle.table.proofs.Laws.{listed_vertex, sorted}
use Rattle.table.proofs.rules.is_unreturned.Goals as goal

pub neighbors-requires-clause-v_bound : goal.neighbors-requires-clause-v_bound
neighbors-requires-clause-v_bound c = listed_vertex c.args.starts.now c.args.links.now c.requires.in_range c.args.v c.requires.v_bound c.neighbors-u-items.ensures c.loop-u.u-index (omega arith)

pub contains-requires : goal.contains-requires
contains-requires c =
    let s = c.args.starts.now in
    let l = c.args.links.now in
    rw c.neighbors.ensures (sorted s l c.requires.sorted _ (listed_vertex s l c.requires.in_range c.args.v c.requires.v_bound c.neighbors-u-items.ensures c.loop-u.u-index (omega arith)))

pub returns-then-not-contains : goal.returns-then-not-contains
unfolding unreturned
returns-then-not-contains c =
    let s = c.args.starts.now in
    let l = c.args.links.now in
    let v = c.args.v in
    let part = c.neighbors-u-items.result.now in
    let missing : not (member v (neighbors s l (get_or part c.loop-u.u-index 0))) ≡ true = ap not (sym (c.contains.ensures ∙ ap (member v) c.neighbors.ensures)) ∙ ap not c.if-not-contains.true in
    rw (← c.neighbors-u-items.ensures) (sym (any_at (λ u. not (member v (neighbors s l u))) part c.loop-u.u-index (omega arith) missing))

pub returns : goal.returns
unfolding unreturned
returns c =
    let s = c.args.starts.now in
    let l = c.args.links.now in
    let v = c.args.v in
    let long = ap length c.neighbors-u-items.ensures in
    sym (any_none (λ u. not (member v (neighbors s l u))) (neighbors s l v) (λ k h. c.loop-u.invariant k (omega arith)))
