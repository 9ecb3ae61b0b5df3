use Rattle.std.proofs.Common.{arith, ◌≡◌, sym, ap, ap₂, length}
use Rattle.finite.specs.Count.{sum, below}
use Rattle.finite.specs.Search.{greatest_of}
use Rattle.finite.proofs.Count.{sum-below-zero, sum-below-more}
use Rattle.finite.proofs.Search.{greatest_zero, greatest_max}
use Rattle.table.specs.Table.{vertices}
use Rattle.table.specs.Size.{degree_of, size_of}
use Rattle.table.proofs.Laws.{neighbors-few}
use Rattle.table.proofs.Edges.{handshake}
use Rattle.table.proofs.size.Size.measure.Goals as goal

pub loop-v-init : goal.loop-v-init
loop-v-init c = record { summed = sym (sum-below-zero _); greatest = sym (greatest_zero _); bounded = omega arith }

pub loop-v-preserved : goal.loop-v-preserved
loop-v-preserved c =
    let at = c.loop-v in
    let f = degree_of c.args.starts.now c.args.links.now in
    let own : length c.neighbors-degree.result.now ≡ f at.v = ap length c.neighbors-degree.ensures in
    let few = neighbors-few c.args.starts.now c.args.links.now c.requires at.v (omega arith) in
    let more = greatest_max f at.v in
    record { summed = omega (arith, own, at.invariant.summed, sum-below-more f at.v); greatest = cc; bounded = omega (arith, own, few, c.requires.small, at.invariant.bounded) }

pub returns : goal.returns
unfolding size_of
returns c =
    let at = c.loop-v in
    let s = c.args.starts.now in
    let l = c.args.links.now in
    let done : at.v ≡ vertices s = omega (arith, c.requires.framed.some) in
    let degrees : at.degrees ≡ sum (degree_of s l) (below (vertices s)) = rw done at at.invariant.summed in
    let most : at.max_degree ≡ greatest_of (degree_of s l) (vertices s) = rw done at at.invariant.greatest in
    ap₂ (λ e d. record { edges = e; max_degree = d }) (omega (arith, degrees, handshake s l c.requires)) most
