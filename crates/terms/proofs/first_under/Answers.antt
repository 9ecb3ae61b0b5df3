use Rattle.std.proofs.Common.{arith, ◌≡◌, ◌<◌, ℕ, Bool, List, length, ltb, sym, ap, subst, ◌∙◌}
use Rattle.anchored.specs.Graph.{Graph}
use Rattle.anchored.specs.Core.{level}
use Rattle.anchored.specs.Terms.{Terms, terms, under, first_under}
use Rattle.anchored.proofs.Terms.{next-after, next-none, pass_over}
use Rattle.pool.specs.Input.{graph_of, anchored_by}
use Rattle.pool.proofs.Laws.{simple}
use Rattle.terms.specs.Days.{Shows}
use Rattle.terms.proofs.Days.{shows_start, shows_anchors, found_day, no_day}
use Rattle.terms.proofs.first_under.Goals as goal

-- whether a day is under, by its bytes and by the definition
told : (t : Terms) (G : Graph) (x k day : ℕ) {bytes : List ℕ} {is : Bool} → Shows t day bytes (length t.vertices) → is ≡ ltb (level G (anchored_by bytes) x) k → is ≡ under t G x k day
unfolding under
told t G x k day shows e = e ∙ ap (λ A. ltb (level G A x) k) (shows_anchors t day _ shows)

pub set_anchors-requires-clause-shows : goal.set_anchors-requires-clause-shows
set_anchors-requires-clause-shows c = shows_start _ _

pub returns-then-is_under : goal.returns-then-is_under
unfolding first_under
returns-then-is_under c =
    let a = c.args in
    let at = c.loop-day in
    let t = terms a.vertices.now a.firsts.now a.ends.now in
    let G = graph_of a.starts.now a.links.now in
    let hit = sym (told t G a.x a.k at.day c.set_anchors.ensures c.is_under.ensures) ∙ c.if-is_under.true in
    sym (found_day (under t G a.x a.k) a.from a.until at.day at.invariant.begun at.invariant.none c.loop-day-test.true hit)

pub loop-day-smaller : goal.loop-day-smaller
loop-day-smaller c =
    let day = c.loop-day.day in
    let before = c.loop-day-test.true in
    let later : day < c.next_end-day.result = subst (λ next. day < next) (sym c.next_end-day.ensures) (next-after _ day c.args.until before) in
    omega (arith, later, before)

pub loop-day-preserved : goal.loop-day-preserved
loop-day-preserved c =
    let a = c.args in
    let at = c.loop-day in
    let ends = a.ends.now in
    let t = terms a.vertices.now a.firsts.now ends in
    let G = graph_of a.starts.now a.links.now in
    let before = c.loop-day-test.true in
    let next = c.next_end-day.ensures in
    let miss = sym (told t G a.x a.k at.day c.set_anchors.ensures c.is_under.ensures) ∙ c.if-is_under.false in
    record {
      begun = omega (arith, at.invariant.begun, next, next-after ends at.day a.until before);
      none = pass_over t G (simple c.requires.sound_table) a.x a.k c.requires.x_bound (omega (arith, c.ranges.k)) a.from at.day c.next_end-day.result
          at.invariant.none miss (λ d lo hi. next-none ends at.day a.until before d lo (omega (arith, next)));
    }

pub returns : goal.returns
unfolding first_under
returns c =
    let a = c.args in
    let at = c.loop-day in
    sym (no_day (under (terms a.vertices.now a.firsts.now a.ends.now) (graph_of a.starts.now a.links.now) a.x a.k) a.from a.until at.day at.invariant.begun at.invariant.none c.loop-day-test.false)
