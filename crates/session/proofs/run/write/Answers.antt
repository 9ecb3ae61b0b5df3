-- What each call copies is what the plain session has at its end.
use Rattle.std.proofs.Common.{◌≡◌, ◌-◌, List, ℕ, ℤ, ap, arith}
use Rattle.pool.proofs.Arrays.{copied-front}
use Rattle.edit.proofs.Canonical.{table-starts, table-links}
use Rattle.edit.proofs.Checked.{lent-sound}
use Rattle.records.proofs.Nets.{right-small}
use Rattle.session.specs.Run.{slices}
use Rattle.session.proofs.Serving.{copied_out, end-anchored, end-levels, end-layers, end-components, end-yields, end-reached, end-stamps}
use Rattle.session.proofs.run.write.Goals as goal

-- slices alike one by one are alike together
same-slices : {s l a b c d f g h i j s1 l1 a1 b1 c1 d1 f1 g1 h1 i1 j1 : List ℕ} {e e1 : List ℤ} → s ≡ s1 → l ≡ l1 → a ≡ a1 → b ≡ b1 → c ≡ c1 → d ≡ d1 → e ≡ e1 → f ≡ f1 → g ≡ g1 → h ≡ h1 → i ≡ i1 → j ≡ j1
    → slices s l a b c d e f g h i j ≡ slices s1 l1 a1 b1 c1 d1 e1 f1 g1 h1 i1 j1
same-slices ps pl pa pb pc pd pe pf pg ph pi pj = cc

pub serve-kept-requires : goal.serve-kept-requires
serve-kept-requires c = let fits = c.requires.fits in record { runs = c.requires.runs; status_len = fits.status; lifted_len = fits.lifted; redone_len = fits.redone }

pub copy_sheet-requires : goal.copy_sheet-requires
copy_sheet-requires c =
    let fits = c.requires.fits in
    let small = (lent-sound _ _ c.requires.runs.table).small in
    (omega (arith, small, fits.levels), omega (arith, small, fits.layers), omega (arith, small, fits.components))

pub copy_rows-requires : goal.copy_rows-requires
copy_rows-requires c =
    let fits = c.requires.fits in
    let small = (lent-sound _ _ c.requires.runs.table).small in
    let right = c.serve-kept.ensures.kept.1.right in
    record {
      anchored_len_bound = (omega (arith, small, fits.anchored), omega (arith, small, fits.yields), omega (arith, small, fits.reached), omega (arith, small, fits.stamps));
      smalls = λ v h. right-small right v (omega (arith, fits.yields, c.serve-kept.auto.starts));
    }

pub returns : goal.returns
returns c =
    let fits = c.requires.fits in
    let small = (lent-sound _ _ c.requires.runs.table).small in
    let end = c.serve-kept.ensures in
    let table = end.kept.0 in
    let keeps = end.kept.1 in
    let size = ap (λ k. k - 1) c.serve-kept.auto.starts in
    let sheet = c.copy_sheet.ensures in
    let rows = c.copy_rows.ensures in
    same-slices
    (table-starts table)
    (table-links table)
    (copied-front _ _ fits.anchored (omega (arith, small)) (end-anchored table keeps size) rows.anchored)
    (copied-front _ _ fits.levels (omega (arith, small)) (end-levels table keeps size) sheet.levels)
    (copied-front _ _ fits.layers (omega (arith, small)) (end-layers table keeps size) sheet.layers)
    (copied-front _ _ fits.components (omega (arith, small)) (end-components table keeps size) sheet.components)
    (copied_out _ _ _ _ _ rows.yields fits.yields (end-yields table keeps size))
    (copied-front _ _ fits.reached (omega (arith, small)) (end-reached table keeps size end.kept.2) rows.reached)
    (copied-front _ _ fits.stamps (omega (arith, small)) (end-stamps table keeps size) rows.stamps)
    end.status
    end.lifted
    end.redone
