-- The table passed its check: its last start is among the link places.
use Rattle.std.proofs.Common.{◌≡◌, ◌-◌, arith, length, replicate, sym, ap, ◌∙◌, subst, rules}
use Rattle.pool.specs.Input.{graph_of}
use Rattle.edit.specs.Edit.{last_start, Tabled}
use Rattle.edit.proofs.Shifts.{zeroed}
use Rattle.edit.proofs.Checked.{lent-sound, lent-places, lent-within, zeroed_tabled}
use Rattle.edit.proofs.lent.zero_behind.Goals as goal

pub overflow_sub-last : goal.overflow_sub-last
overflow_sub-last c = omega (arith, (lent-sound _ _ c.requires).framed.some)

pub bounds-starts-starts : goal.bounds-starts-starts
bounds-starts-starts c = omega (arith, (lent-sound _ _ c.requires).framed.some)

pub slice_bounds-fill-count : goal.slice_bounds-fill-count
slice_bounds-fill-count c = omega (arith, lent-within _ _ c.requires, lent-places _ _ c.requires)

pub slice_bounds-fill-start : goal.slice_bounds-fill-start
slice_bounds-fill-start c = let h = lent-within _ _ c.requires in let p = lent-places _ _ c.requires in search rules

pub returns : goal.returns
returns c =
    let s = c.args.starts.now in
    let l = c.args.links.now in
    let filled : c.fill.new.self ≡ replicate (length l - last_start s) 0 = c.fill.ensures.after (λ y e. e) ∙ ap (λ n. replicate n 0) (let h = lent-within s l c.requires in search rules) in
    subst (λ z. Tabled s z (graph_of s l)) (sym (zeroed l c.fill.new.self (last_start s) (lent-within s l c.requires) filled)) (zeroed_tabled s l c.requires)
