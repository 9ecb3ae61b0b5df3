use Rattle.std.proofs.Common.{◌≡◌, ℕ, ◌+◌, ◌<◌, List, [], ◌∷◌, ◌++◌, length, get_or, set, take, ◌∙◌, subst, arith}
use Rattle.std.proofs.lemmas.List.{take_more}
use Rattle.finite.specs.Count.{In}
use Rattle.finite.proofs.Count.{in_at}
use Rattle.flood.proofs.Flooding.{visit-bounds, visit-room, visits_pass, visits_label}
use Rattle.flood.proofs.Numbering.visit.Goals as goal
use Rattle.flood.proofs.Numbering.visit.Goals.{then-self-w, else-self-w}

-- the neighbor looked at is one of u
listed : (part all : List ℕ) (j : ℕ) → part ≡ all → j < length part → In (get_or part j 0) all
listed part all j e h = subst (In (get_or part j 0)) e (in_at part j 0 h)

pub offset_bounds-self-w : goal.offset_bounds-self-w
offset_bounds-self-w c =
    let state = c.requires.state in
    let now = c.loop-neighbor.invariant.visits.moves _ state in
    omega (arith, visit-bounds state now.0 now.1 _ (listed _ _ _ c.neighbors-part.ensures c.loop-neighbor-test.true))

pub bounds-self-w : goal.bounds-self-w
bounds-self-w c =
    let state = c.requires.state in
    let now = c.loop-neighbor.invariant.visits.moves _ state in
    omega (arith, visit-bounds state now.0 now.1 _ (listed _ _ _ c.neighbors-part.ensures c.loop-neighbor-test.true))

pub number-requires : goal.number-requires
number-requires c =
    let state = c.requires.state in
    let now = c.loop-neighbor.invariant.visits.moves _ state in
    let i = listed _ _ _ c.neighbors-part.ensures c.loop-neighbor-test.true in
    omega (arith, visit-bounds state now.0 now.1 _ i, visit-room state now.0 now.1 _ i (omega (arith, c.if-self-w.true)))

pub loop-neighbor-preserved : goal.loop-neighbor-preserved
loop-neighbor-preserved c =
    let part = c.neighbors-part.result.now in
    let j = c.loop-neighbor.neighbor-index in
    let inv = c.loop-neighbor.invariant in
    let more : take (j + 1) part ≡ take j part ++ get_or part j 0 ∷ [] = take_more part j 0 c.loop-neighbor-test.true in
    let i = listed _ _ _ c.neighbors-part.ensures c.loop-neighbor-test.true in
    elim c.if-self-w.branch [
      | then-self-w way ↦
          let e = way.number.ensures in
          let component : way.number.new.self.component.now ≡ set c.loop-neighbor.self.component.now (get_or part j 0) c.args.start = cc in
          rw (more, way.self-is, way.end-is, e.pending, component, e.queue)
          (record { same_numbers = e.same_numbers ∙ inv.same_numbers; visits = visits_label inv.visits _ i (omega (arith, way.if-self-w.true)) })
      | else-self-w way ↦ rw (more, way.self-is, way.end-is) (record { same_numbers = inv.same_numbers; visits = visits_pass inv.visits _ i way.if-self-w.false })
    ]
