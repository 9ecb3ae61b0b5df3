use Rattle.std.proofs.Common.{arith, ◌≡◌, get_or, subst}
use Rattle.table.specs.Table.{vertices}
use Rattle.table.specs.Paired.{PairedTo}
use Rattle.table.proofs.Pairing.{paired_sound}
use Rattle.table.proofs.paired.all_paired.Goals as goal

pub returns : goal.returns
returns c = λ e.
    let s = c.args.starts.now in
    let l = c.args.links.now in
    let done : c.loop-v.v ≡ vertices s = omega arith in
    paired_sound s l c.requires.framed (λ u h. subst (PairedTo s l (vertices s) u) (c.all_spent.ensures e u h) (subst (λ v. PairedTo s l v u (get_or c.loop-v.next u 0)) done (c.loop-v.invariant.each u (omega arith)))) c.requires.starts_bound.0 c.requires.starts_bound.1
