use Rattle.std.proofs.Common.{◌≡◌, ◌<◌, ℕ, List, refl, ◌∙◌, length, arith, rules}
use Rattle.table.specs.Table.{vertices}
use Rattle.pool.specs.Sheet.{Sheet}
use Rattle.pool.proofs.Laws.{simple}
use Rattle.pool.proofs.Arrays.{filled_holds}
use Rattle.pool.proofs.Sheet.{in_arrays}
use Rattle.peel.proofs.Peeling.{k-below, finish}
use Rattle.peel.proofs.Steps.{first-shell}
use Rattle.peel.proofs.peel.Goals as goal

pub loop-sheet-init : goal.loop-sheet-init
loop-sheet-init c =
    let t = c.requires.table in
    let d = c.degrees.ensures in
    let long-level : length c.args.level.now ≡ 1024 = search rules in
    let long-layer : length c.args.layer.now ≡ 1024 = search rules in
    let e = rw long-level at (c.fill.ensures.after (λ y h. h)) in
    let f = rw long-layer at (c.fill-2.ensures.after (λ y h. h)) in
    record {
      same_sheet = (refl, refl);
      bound = omega arith;
      long = record { degrees = d.long; levels = c.fill.ensures.len ∙ long-level; layers = c.fill-2.ensures.len ∙ long-layer; places = refl };
      peels = first-shell (simple t) d.holds (filled_holds _ 1024 65535 _ e t.small) (filled_holds _ 1024 0 _ f t.small);
    }

pub shell-requires-clause-k_bound : goal.shell-requires-clause-k_bound
shell-requires-clause-k_bound c =
    omega (arith, k-below c.loop-sheet.invariant.peels.peeling (omega (arith, c.loop-sheet-test.true, c.count_free-free.ensures)), c.requires.table.small)

pub loop-sheet-smaller : goal.loop-sheet-smaller
loop-sheet-smaller c =
    let small : c.loop-sheet.k < vertices c.args.starts.now = k-below c.loop-sheet.invariant.peels.peeling (omega (arith, c.loop-sheet-test.true, c.count_free-free.ensures)) in
    omega (arith, small)

pub loop-sheet-preserved : goal.loop-sheet-preserved
loop-sheet-preserved c =
    let e = c.shell.ensures in
    record {
      same_sheet = (cc, cc);
      bound = omega (arith, k-below c.loop-sheet.invariant.peels.peeling (omega (arith, c.loop-sheet-test.true, c.count_free-free.ensures)));
      long = e.long;
      peels = e.peels;
    }

moved : (s l a : List ℕ) {lev lay lev' lay' : List ℕ} → lev' ≡ lev → lay' ≡ lay → Sheet s l a lev lay → Sheet s l a lev' lay'
moved s l a e f h = rw (e, f) h

pub returns : goal.returns
returns c =
    let inv = c.loop-sheet.invariant in
    let all = finish inv.peels.peeling (omega (arith, c.loop-sheet-test.false, c.count_free-free.ensures)) in
    moved _ _ _ (search rules) (search rules) (in_arrays c.requires inv.long.levels inv.long.layers (λ v b. (all v b).0) (λ v b. (all v b).1))
