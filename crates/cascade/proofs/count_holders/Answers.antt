use Rattle.std.proofs.Common.{◌≡◌, ◌<◌, not, List, ℕ, length, get_or, subst, ap, ◌∙◌, arith}
use Rattle.finite.specs.Count.{bit, In}
use Rattle.finite.proofs.Tests.{not-ltb}
use Rattle.finite.proofs.Count.{bit_le, in_at, count-start, count-more}
use Rattle.table.specs.Table.{vertices, neighbors, SoundTable}
use Rattle.table.proofs.Laws.{neighbors-few}
use Rattle.cascade.specs.Cascade.{upholds}
use Rattle.cascade.proofs.count_holders.Goals as goal

-- the neighbors are vertices
near : {s l : List ℕ} → SoundTable s l → (w : ℕ) → w < vertices s → (part : List ℕ) → part ≡ neighbors s l w → (i d : ℕ) → i < length part → get_or part i d < vertices s
near {s} {l} table w h part e i d b = table.range w (get_or part i d) h (subst (In (get_or part i d)) e (in_at part i d b))

pub loop-p-init : goal.loop-p-init
loop-p-init c = omega (arith, count-start (upholds c.args.levels.now c.args.w) c.neighbors-p-items.result.now)

pub is_higher-requires-clause-v_in_bounds : goal.is_higher-requires-clause-v_in_bounds
is_higher-requires-clause-v_in_bounds c =
    let part = c.neighbors-p-items in
    omega (arith, c.requires.starts_in_bounds, near c.requires.sound_table c.args.w c.requires.w_bound part.result.now part.ensures c.loop-p.p-index 0 c.loop-p-test.true)

pub overflow_add-total : goal.overflow_add-total
overflow_add-total c =
    let table = c.requires.sound_table in
    let few = ap length c.neighbors-p-items.ensures in
    omega (arith, bit_le (not c.is_higher.result), few, table.small, neighbors-few c.args.starts.now c.args.links.now table c.args.w c.requires.w_bound)

pub loop-p-preserved : goal.loop-p-preserved
loop-p-preserved c =
    let args = c.args in
    let part = c.neighbors-p-items.result.now in
    let i = c.loop-p.p-index in
    let bit_is = ap bit (ap not c.is_higher.ensures ∙ not-ltb (get_or args.levels.now args.w 0) (get_or args.levels.now (get_or part i 0) 0)) in
    omega (arith, bit_is, bit_le (not c.is_higher.result), count-more (upholds args.levels.now args.w) part i c.loop-p-test.true)
