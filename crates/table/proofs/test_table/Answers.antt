use Rattle.std.proofs.Common.{arith, ◌≡◌, ◌∙◌, sym, length, true, false}
use lib.Dec.{eqb, ltb}
use borrow.Author.Tests.{lt-ltb, le-ltb}
use Rattle.std.proofs.lemmas.Result.{err_from_is_err_and}
use Rattle.table.specs.Table.{vertices, check_of}
use Rattle.table.proofs.Guards.{goes_on}
use Rattle.table.proofs.Laws.{some_start, starts-refused, started, started-framed, started-sound}
use Rattle.table.proofs.test_table.Goals as goal

pub returns-then-is_empty : goal.returns-then-is_empty
unfolding check_of
returns-then-is_empty c =
    let e : eqb (length c.args.starts.now) 0 ≡ true = sym c.is_empty.ensures ∙ c.if-is_empty.true in
    rw (c.new.ensures, e)

pub returns-then-starts-gt1024 : goal.returns-then-starts-gt1024
unfolding check_of
returns-then-starts-gt1024 c =
    let s = c.args.starts.now in
    let e : eqb (length s) 0 ≡ false = sym c.is_empty.ensures ∙ c.if-is_empty.false in
    let g : ltb 1024 (vertices s) ≡ true = lt-ltb 1024 (vertices s) (omega arith) in
    rw (c.new-then-starts-gt1024.ensures, e, g)

pub returns-then-links-gt16384 : goal.returns-then-links-gt16384
unfolding check_of
returns-then-links-gt16384 c =
    let s = c.args.starts.now in
    let l = c.args.links.now in
    let e : eqb (length s) 0 ≡ false = sym c.is_empty.ensures ∙ c.if-is_empty.false in
    let g : ltb 1024 (vertices s) ≡ false = le-ltb 1024 (vertices s) (omega arith) in
    let m : ltb 16384 (length l) ≡ true = lt-ltb 16384 (length l) (omega arith) in
    rw (c.new-then-links-gt16384.ensures, e, g, m)

pub returns-in_err-refuse : goal.returns-in_err-refuse
returns-in_err-refuse c =
    let s = c.args.starts.now in
    let l = c.args.links.now in
    let place = c.first_bad_start.ensures in
    let p = err_from_is_err_and c.from_residual.result c.from_residual.ensures.1 in
    let some = some_start s (sym c.is_empty.ensures ∙ c.if-is_empty.false) in
    rw (p.1, p.2) (sym (starts-refused s l some (omega arith) (omega arith) (rw place at (sym c.refuse.ensures ∙ c.in_err-refuse.was))))

pub all_paired-requires-clause-framed : goal.all_paired-requires-clause-framed
all_paired-requires-clause-framed c =
    let place = c.first_bad_start.ensures in
    started-framed c.args.starts.now c.args.links.now (some_start c.args.starts.now (sym c.is_empty.ensures ∙ c.if-is_empty.false)) (rw place at (goes_on c.refuse.ensures c.in_ok-refuse.was))

pub returns-then-all_paired : goal.returns-then-all_paired
returns-then-all_paired c =
    let place = c.first_bad_start.ensures in
    sym (started-sound c.args.starts.now c.args.links.now (rw place at (goes_on c.refuse.ensures c.in_ok-refuse.was)) (c.all_paired.ensures c.if-all_paired.true))

pub test_links-requires : goal.test_links-requires
test_links-requires c =
    let place = c.first_bad_start.ensures in
    started-framed c.args.starts.now c.args.links.now (some_start c.args.starts.now (sym c.is_empty.ensures ∙ c.if-is_empty.false)) (rw place at (goes_on c.refuse.ensures c.in_ok-refuse.was))

pub returns : goal.returns
returns c =
    let s = c.args.starts.now in
    let l = c.args.links.now in
    let place = c.first_bad_start.ensures in
    let some = some_start s (sym c.is_empty.ensures ∙ c.if-is_empty.false) in
    c.test_links.ensures ∙ sym (started s l some (omega arith) (omega arith) (rw place at (goes_on c.refuse.ensures c.in_ok-refuse.was)))
