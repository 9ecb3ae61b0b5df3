use Rattle.std.proofs.Common.{◌≡◌, get_or, refl, sym, subst, ◌∙◌, arith}
use lib.Seq.{take_all}
use Rattle.finite.specs.Count.{In, Distinct}
use Rattle.finite.specs.Search.{member}
use Rattle.table.specs.Table.{neighbors}
use Rattle.support.specs.Striking.{marked}
use Rattle.support.proofs.Striking.{support_in, support_cong, weigh_start, weigh_next, weigh_room, weigh_end, marked_all}
use Rattle.candidates.proofs.Reaching.{queue_within, queue_items}
use Rattle.support.proofs.weigh.Goals as goal

pub as_slice-next-items-requires : goal.as_slice-next-items-requires
as_slice-next-items-requires c = omega (arith, queue_within c.requires.queued, c.requires.leveled.admitted.table.small)

pub loop-next-init : goal.loop-next-init
loop-next-init c = rw c.as_slice-next-items.ensures (weigh_start c.requires.queued c.requires.starts_in_bounds.0 c.requires.starts_in_bounds.1)

pub count_supporters-requires-clause-v_bound : goal.count_supporters-requires-clause-v_bound
count_supporters-requires-clause-v_bound c = queue_items c.requires.queued c.as_slice-next-items.ensures c.loop-next.next-index c.loop-next-test.true

pub bounds-support-v : goal.bounds-support-v
bounds-support-v c =
    omega (arith, c.requires.leveled.admitted.table.small, queue_items c.requires.queued c.as_slice-next-items.ensures c.loop-next.next-index c.loop-next-test.true)

-- a vertex, and room for one more struck out
pub strike-requires : goal.strike-requires
strike-requires c =
    let distinct : Distinct c.as_slice-next-items.result.now = rw c.as_slice-next-items.ensures c.requires.queued.distinct in
    omega (
      arith,
      c.requires.leveled.admitted.table.small,
      c.requires.leveled.long,
      queue_items c.requires.queued c.as_slice-next-items.ensures c.loop-next.next-index c.loop-next-test.true,
      weigh_room c.loop-next.invariant distinct c.loop-next-test.true,
    )

pub loop-next-preserved : goal.loop-next-preserved
loop-next-preserved c =
    let at = c.loop-next in
    let args = c.args in
    let q = c.as_slice-next-items.result.now in
    let distinct : Distinct q = rw c.as_slice-next-items.ensures c.requires.queued.distinct in
    let v = get_or q at.next-index 0 in
    let struck-one = c.strike.ensures in
    let total : c.count_supporters.result ≡ support_in args.starts.now args.links.now args.anchored.now args.levels.now args.x q v =
    c.count_supporters.ensures
    ∙ support_cong args.anchored.now args.levels.now (marked at.marks) (λ p. member p q) args.x v (neighbors args.starts.now args.links.now v) (marked_all at.invariant.listed) in
    rw (struck-one, total) (weigh_next at.invariant distinct c.loop-next-test.true v refl)

pub returns : goal.returns
returns c =
    let at = c.loop-next in
    let q = c.as_slice-next-items.result.now in
    let e = c.as_slice-next-items.ensures in
    rw (← e) (record {
      weighed = weigh_end at.invariant c.loop-next-test.false;
      candidates = marked_all at.invariant.listed;
      counted = λ v i. at.invariant.counted v (subst (In v) (sym (take_all at.next-index q c.loop-next-test.false)) i);
    })
