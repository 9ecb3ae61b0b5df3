-- The marks that the passes of an event leave are the recomputed rows. Assumes nothing.
use mathlib.Core.Path.{◌≡◌, refl, sym, ap, ap₂, subst, ◌∙◌}
use mathlib.Core.Bool.{Bool, true, false, not, ◌&&◌, ◌||◌, or-false, or-true, or_comm, or_assoc, and-true, and-false, and_comm}
use mathlib.Core.List.{List}
use Prim.Native.Nat.{ℕ, ◌≤◌, ◌<◌}
use native.Mathlib.Omega.{arith}
use lib.ListN.{length, get_or, replicate}
use lib.Dec.{T, eqb, eqb→eq}
use borrow.Author.Tests.{ne_eqb, lt-ltb}
use Rattle.finite.specs.Count.{In, below}
use Rattle.finite.specs.Search.{any}
use Rattle.finite.specs.Pairs.{pair_le}
use Rattle.finite.proofs.Tests.{split, same, true_of, false_of, and_i, and_l, and_r, or_l, or_r, or-e}
use Rattle.finite.proofs.Count.{in_at, in_below, zeros-at, count_cong, count-length}
use Rattle.finite.proofs.Search.{any_i, any-e, any_none, any_cong}
use Rattle.anchored.specs.Graph.{Graph, Simple}
use Rattle.anchored.specs.Core.{level, layer, greater, higher}
use Rattle.anchored.specs.Component.{component}
use Rattle.anchored.specs.Yield.{bare_level}
use Rattle.anchored.specs.Step.{above, sees_disturbed, sees_new, moved, recomputed}
use Rattle.anchored.specs.Changed.{steady, changed}
use Rattle.anchored.proofs.Core.{level-lt, level-anchored}
use Rattle.anchored.proofs.Changed.{component-anchored, component-lt, sees_changed}
use Rattle.table.specs.Table.{vertices, neighbors, SoundTable}
use Rattle.table.proofs.Laws.{neighbors-few}
use Rattle.pool.specs.Input.{graph_of}
use Rattle.pool.specs.Arrays.{Holds}
use Rattle.pool.proofs.Laws.{simple}
use Rattle.stale.specs.Marks.{marked, Added, up_to, differs, carried, looks_through, looks}
use Rattle.stale.specs.Columns.{higher_by, above_by, ColumnsOf, Known, Finds}
use Rattle.stale.specs.declared.Columns.{Columns}
use Rattle.stale.proofs.Marks.{added_twice, added_thrice}

-- ---- tests

-- where c holds, a and b are alike
under : (a b c : Bool) → (T c → a ≡ b) → a && c ≡ b && c
under a b true e = ap (λ z. z && true) (e tt)
under a b false e = and-false a ∙ sym (and-false b)

de_morgan : (a b : Bool) → not (a && b) ≡ not a || not b
de_morgan true b = refl
de_morgan false b = refl

differ_or : (a b c d : Bool) → not (a && b && c && not d) ≡ d || not a || not b || not c
differ_or a b c true = ap not (and-false (a && b && c))
differ_or a b c false = ap not (and-true (a && b && c)) ∙ de_morgan (a && b) c ∙ ap (λ z. z || not c) (de_morgan a b)

-- the reasons for a row in either order; whether it was seen matters only if it is no end
reasons : (bare end level seen other new : Bool) → (T (not end) → seen ≡ other) → bare || end || level || seen || new ≡ other || new || (level || bare) || end
reasons bare true level seen other new e = rw (or-true bare) (sym (or-true (other || new || (level || bare))))
reasons bare false level seen other new e = rw (or-false bare, e tt, or-false (other || new || (level || bare)))
    (or_assoc (bare || level) other new ∙ or_comm (bare || level) (other || new) ∙ ap (λ z. other || new || z) (or_comm bare level))

any-or : (p q r : ℕ → Bool) (l : List ℕ) → any (λ v. p v && (q v || r v)) l ≡ any (λ v. p v && q v) l || any (λ v. p v && r v) l
any-or p q r l = same (any (λ v. p v && (q v || r v)) l) (any (λ v. p v && q v) l || any (λ v. p v && r v) l)
    (λ t.
    let e = any-e (λ v. p v && (q v || r v)) l t in
    let v = e.0 in
    let own = and_l (p v) (q v || r v) e.2 in
    or-e (q v) (r v) (and_r (p v) (q v || r v) e.2)
    (λ s. or_l (any (λ v. p v && q v) l) _ (any_i (λ v. p v && q v) l v e.1 (and_i (p v) (q v) own s)))
    (λ s. or_r (any (λ v. p v && q v) l) _ (any_i (λ v. p v && r v) l v e.1 (and_i (p v) (r v) own s))))
    (λ t. or-e (any (λ v. p v && q v) l) (any (λ v. p v && r v) l) t
    (λ s. let e = any-e (λ v. p v && q v) l s in let v = e.0 in
    any_i (λ v. p v && (q v || r v)) l v e.1 (and_i (p v) _ (and_l (p v) (q v) e.2) (or_l (q v) (r v) (and_r (p v) (q v) e.2))))
    (λ s. let e = any-e (λ v. p v && r v) l s in let v = e.0 in
    any_i (λ v. p v && (q v || r v)) l v e.1 (and_i (p v) _ (and_l (p v) (r v) e.2) (or_r (q v) (r v) (and_r (p v) (r v) e.2)))))

-- ---- the numbers above

-- counted by levels, the neighbors above a vertex not anchored are those of the definition
above_means : (s l : List ℕ) → SoundTable s l → (A : ℕ → Bool) (lev : List ℕ) → Holds lev (vertices s) (level (graph_of s l) A) → (v : ℕ) → v < vertices s → T (not (A v))
    → above_by s l lev v ≡ above (graph_of s l) A v
unfolding above higher
above_means s l table A lev levels v h a =
    let G = graph_of s l in
    let own = level-lt G (simple table) A v h a in
    let small = table.small in
    count_cong (higher_by lev v) (higher G A (level G A v)) (neighbors s l v)
    (λ w i.
    let k = table.range v w h i in
    rw (levels v h, levels w k) (split (A w)
    (λ t. rw (level-anchored G (simple table) A w t, true_of (A w) t) (lt-ltb (level G A v) 65535 (omega arith)))
    (λ t. rw (false_of (A w) t))))

-- a vertex has fewer than 1,025 neighbors
pub above-few : (s l : List ℕ) → SoundTable s l → (lev : List ℕ) (v : ℕ) → v < vertices s → above_by s l lev v ≤ 1024
above-few s l table lev v h =
    omega (arith, count-length (higher_by lev v) (neighbors s l v), neighbors-few s l table v h, table.small)

-- and all of them fit the columns
pub near_part : {s l : List ℕ} → SoundTable s l → (v : ℕ) → v < vertices s → (part : List ℕ) → part ≡ neighbors s l v → (i d : ℕ) → i < length part → get_or part i d < 1024
near_part {s} {l} table v h part e i d b = omega (arith, table.small, table.range v (get_or part i d) h (subst (In (get_or part i d)) e (in_at part i d b)))

-- so the columns are the defined ones where levels, layers and components are, and the numbers above are counted by the levels
pub columns-defined : {s l : List ℕ} {A : ℕ → Bool} {x : Columns} → SoundTable s l → Holds x.level (vertices s) (level (graph_of s l) A) → Holds x.layer (vertices s) (layer (graph_of s l) A)
    → Holds x.component (vertices s) (component (graph_of s l) A) → Holds x.above (vertices s) (above_by s l x.level) → ColumnsOf (graph_of s l) A x
columns-defined {s} {l} {A} {x} table levels layers components aboves = record {
  levels = levels;
  layers = layers;
  components = components;
  aboves = λ v h free. aboves v h ∙ above_means s l table A x.level levels v h free;
}

-- ---- changed numbers

module _ (G H : Graph) (L : Simple G) (M : Simple H) (sz : G.size ≡ H.size) (small : G.size ≤ 1024) {A B : ℕ → Bool} (bound : ℕ → Bool) {x y : Columns}
    (before : ColumnsOf G A x) (later : ColumnsOf H B y) where
  -- v is bound, or some column differs at v
  abbrev unsteady : ℕ → Bool
  unsteady v = bound v || differs x.level y.level v || differs x.component y.component v || differs x.above y.above v

  -- of a vertex anchored neither before nor after the columns tell whether it is steady
  free-unsteady : (v : ℕ) → v < G.size → T (not (A v)) → T (not (B v)) → not (steady G H A B bound v) ≡ unsteady v
  unfolding steady
  free-unsteady v h a b =
      let k : v < H.size = omega arith in
      rw (false_of (A v) a, false_of (B v) b, before.levels v h, later.levels v k, before.components v h, later.components v k, before.aboves v h a, later.aboves v k b)
      (differ_or (eqb (level G A v) (level H B v)) (eqb (component G A v) (component H B v)) (eqb (above G A v) (above H B v)) (bound v))

  -- where the component numbers differ, it is not
  numbers-unsteady : (v : ℕ) → v < G.size → (component G A v ≡ component H B v → ⊥) → unsteady v ≡ true
  numbers-unsteady v h other =
      let k : v < H.size = omega arith in
      rw (before.components v h, later.components v k, ne_eqb (component G A v) (component H B v) other, or-true (bound v || differs x.level y.level v))

  -- a vertex with a component number c, before or after, is unsteady by its columns exactly when it is not steady
  number-unsteady : (c v : ℕ) → c < G.size → v < G.size → T (eqb (component G A v) c || eqb (component H B v) c) → not (steady G H A B bound v) ≡ unsteady v
  unfolding steady
  number-unsteady c v k h t = split (A v)
      (λ a. split (B v)
      (λ b. absurd (or-e (eqb (component G A v) c) (eqb (component H B v) c) t
      (λ q. omega (arith, eqb→eq (component G A v) c q, component-anchored G A v a))
      (λ q. omega (arith, eqb→eq (component H B v) c q, component-anchored H B v b))))
      (λ b. rw (true_of (A v) a) (sym (numbers-unsteady v h (λ e. absurd (omega (arith, component-anchored G A v a, component-lt H M B v (omega arith) b)))))))
      (λ a. split (B v)
      (λ b. rw (false_of (A v) a, true_of (B v) b) (sym (numbers-unsteady v h (λ e. absurd (omega (arith, component-anchored H B v b, component-lt G L A v h a))))))
      (λ b. free-unsteady v h a b))

  -- the changed numbers are those that unsteady vertices carry, before or after
  changed-carried : (c : ℕ) → c < G.size
      → changed G H A B bound c ≡ any (λ v. unsteady v && eqb (get_or x.component v 0) c) (below G.size) || any (λ v. unsteady v && eqb (get_or y.component v 0) c) (below G.size)
  unfolding changed
  changed-carried c k =
      any_cong (λ v. not (steady G H A B bound v) && (eqb (component G A v) c || eqb (component H B v) c)) (λ v. unsteady v && (eqb (get_or x.component v 0) c || eqb (get_or y.component v 0) c))
      (below G.size)
      (λ v i.
      let h = (in_below G.size v).0 i in
      under (not (steady G H A B bound v)) (unsteady v) (eqb (component G A v) c || eqb (component H B v) c) (number-unsteady c v k h)
      ∙ ap (λ z. unsteady v && z) (ap₂ (λ (x y : ℕ). eqb x c || eqb y c) (sym (before.components v h)) (sym (later.components v (omega arith)))))
      ∙ any-or unsteady (λ v. eqb (get_or x.component v 0) c) (λ v. eqb (get_or y.component v 0) c) (below G.size)

-- ---- marks

-- below n a pass adds what passes its test
up_to-below : (p : ℕ → Bool) (n v : ℕ) → v < n → up_to p n v ≡ p v
up_to-below p n v h = rw (lt-ltb v n h)

-- who looks into a component whose number is marked, by a record's columns
abbrev looking : List ℕ → List ℕ → Columns → List ℕ → ℕ → Bool
looking s l columns marks = looks s l columns.level columns.layer columns.component marks

-- and by the definitions
module _ (G : Graph) (L : Simple G) (small : G.size ≤ 1024) {A C : ℕ → Bool} {columns : Columns} (defined : ColumnsOf G A columns) (marks : List ℕ)
    (numbers : (c : ℕ) → c < G.size → marked marks c ≡ C c) where
  abbrev leads : ℕ → ℕ → Bool
  leads u v = not (A v) && greater G A v u && C (component G A v)

  -- an anchored vertex has the greatest pair
  blind : (u v : ℕ) → v < G.size → T (A u) → leads u v ≡ false
  unfolding greater pair_le
  blind u v k a = split (A v)
      (λ t. rw (true_of (A v) t))
      (λ t. rw (false_of (A v) t, lt-ltb (level G A v) (level G A u) (omega (arith, level-lt G L A v k t, level-anchored G L A u a))))

  through : (u v : ℕ) → u < G.size → v < G.size → looks_through columns.level columns.layer columns.component marks u v ≡ leads u v
  unfolding greater
  through u v h k = split (A v)
      (λ a. rw (defined.components v k, component-anchored G A v a, true_of (A v) a))
      (λ a.
      let number = component G A v in
      let low = component-lt G L A v k a in
      let e : up_to (marked marks) 1024 number ≡ C number = up_to-below (marked marks) 1024 number (omega arith) ∙ numbers number low in
      rw (defined.levels v k, defined.layers v k, defined.levels u h, defined.layers u h, defined.components v k, false_of (A v) a)
      (ap (λ z. z && greater G A v u) e ∙ and_comm (C number) (greater G A v u)))

  -- whatever vertices the table has for the neighbors of u
  looks_means : (s l : List ℕ) (u : ℕ) → u < G.size → ((v : ℕ) → In v (neighbors s l u) → v < G.size) → looking s l columns marks u ≡ any (leads u) (neighbors s l u)
  looks_means s l u h range = let part = neighbors s l u in split (A u)
      (λ a. rw (defined.components u h, component-anchored G A u a) (sym (any_none (leads u) part (λ i b. blind u (get_or part i 0) (range (get_or part i 0) (in_at part i 0 b)) a))))
      (λ a.
      let near : component G A u < 1024 = omega (arith, component-lt G L A u h a) in
      rw (defined.components u h, lt-ltb (component G A u) 1024 near) (any_cong (looks_through columns.level columns.layer columns.component marks u) (leads u) part (λ v i. through u v h (range v i))))

-- ---- an event

module _ {s l : List ℕ} (table : SoundTable s l) {x y : Columns} {bound brought : List ℕ} {G : Graph} {A B ends : ℕ → Bool} (event : Known s l x y bound brought G A B ends)
    (unsteadies changes stales : List ℕ)
    (compared : (v : ℕ) → v < vertices s
    → marked unsteadies v ≡ marked bound v || differs x.level y.level v || differs x.component y.component v || differs x.above y.above v)
    (numbered : (c : ℕ) → c < vertices s → marked changes c ≡ carried x.component unsteadies (vertices s) c || carried y.component unsteadies (vertices s) c)
    (looked : (u : ℕ) → u < vertices s → marked stales u ≡ marked brought u || differs x.level y.level u || looking s l x changes u || looking s l y changes u) where
  abbrev H : Graph
  H = graph_of s l

  small : G.size ≤ 1024
  small = omega (arith, table.small, event.size)

  -- the numbers that are marked are those that changed
  changes_changed : (c : ℕ) → c < G.size → marked changes c ≡ changed G H A B (marked bound) c
  changes_changed c h =
      let sz = event.size in
      let differ = unsteady G H event.simple (simple table) sz small (marked bound) event.before event.later in
      let carries : (xs : List ℕ) → carried xs unsteadies (vertices s) c ≡ any (λ v. differ v && eqb (get_or xs v 0) c) (below G.size)
      = λ xs. any_cong (λ v. marked unsteadies v && eqb (get_or xs v 0) c) (λ v. differ v && eqb (get_or xs v 0) c) (below (vertices s))
      (λ v i. ap (λ z. z && eqb (get_or xs v 0) c) (compared v ((in_below (vertices s) v).0 i)))
      ∙ ap (λ n. any (λ v. differ v && eqb (get_or xs v 0) c) (below n)) (sym sz) in
      numbered c (omega arith) ∙ ap₂ ◌||◌ (carries x.component) (carries y.component)
      ∙ sym (changed-carried G H event.simple (simple table) sz small (marked bound) event.before event.later c h)

  -- the level or the bare level changed
  moves : (u : ℕ) → u < vertices s → differs x.level y.level u || not (eqb (bare_level G u) (bare_level H u)) ≡ moved G H A B u
  unfolding moved
  moves u h =
      let k : u < G.size = omega (arith, event.size) in
      rw (event.before.levels u k, event.later.levels u h) (sym (de_morgan (eqb (level G A u) (level H B u)) (eqb (bare_level G u) (bare_level H u))))

  -- the rows of an event that are recomputed are the stale ones, and not anchored
  stale-recomputed : (u : ℕ) → u < vertices s → recomputed G H A B ends u ≡ not (B u) && marked stales u
  unfolding recomputed moved
  stale-recomputed u h =
      let sz = event.size in
      let k : u < G.size = omega arith in
      let by_level = differs x.level y.level u in
      let by_Bare = not (eqb (bare_level G u) (bare_level H u)) in
      let sees = sees_changed G H event.simple (simple table) sz (omega (arith, small)) A B (marked bound) event.tells u k in
      let seen : T (not (ends u)) → looking s l x changes u ≡ sees_disturbed G H A B u = λ n.
      looks_means G event.simple small event.before changes changes_changed s l u k (λ v i. subst (λ m. v < m) (sym sz) (table.range u v h i))
      ∙ ap (any (leads G event.simple small event.before changes changes_changed u)) (sym (event.lists u h n)) ∙ sym sees.0 in
      let new : looking s l y changes u ≡ sees_new G H A B u
      = looks_means H (simple table) table.small event.later changes (λ c b. changes_changed c (omega arith)) s l u h (λ v i. table.range u v h i) ∙ sym sees.1 in
      ap (λ z. not (B u) && z) (sym (looked u h
      ∙ ap₂ (λ (p q : Bool). p || by_level || looking s l x changes u || q) (event.brought u h) new
      ∙ reasons by_Bare (ends u) by_level (looking s l x changes u) (sees_disturbed G H A B u) (sees_new G H A B u) seen
      ∙ ap (λ z. sees_disturbed G H A B u || sees_new G H A B u || z || ends u) (moves u h)))

-- so the passes of an event, one after the other, find its rows
module _ {s l : List ℕ} (table : SoundTable s l) (x y : Columns) (bound brought : List ℕ) where
  pub passes_find : {by_level by_number unsteadies old-numbers changes by_move old-lookers stales : List ℕ}
      → Added (up_to (differs x.level y.level) (vertices s)) bound by_level → Added (up_to (differs x.component y.component) (vertices s)) by_level by_number
      → Added (up_to (differs x.above y.above) (vertices s)) by_number unsteadies
      → Added (up_to (carried x.component unsteadies (vertices s)) 1024) (replicate 1024 0) old-numbers → Added (up_to (carried y.component unsteadies (vertices s)) 1024) old-numbers changes
      → Added (up_to (differs x.level y.level) (vertices s)) brought by_move → Added (up_to (looking s l x changes) (vertices s)) by_move old-lookers
      → Added (up_to (looking s l y changes) (vertices s)) old-lookers stales
      → Finds s l x y bound brought stales
  passes_find {unsteadies = unsteadies} {changes = changes} {stales = stales} levels numbers aboves carriers carriers' moves lookers lookers' G A B ends event =
      let n = vertices s in
      let small = table.small in
      let numbered : (c : ℕ) → c < n → marked changes c ≡ carried x.component unsteadies n c || carried y.component unsteadies n c
      = λ c h. rw (lt-ltb c 1024 (omega arith), zeros-at 1024 c) at (added_twice carriers carriers' c) in
      stale-recomputed table event unsteadies changes stales
      (λ v h. rw (lt-ltb v n h) at (added_thrice levels numbers aboves v))
      numbered
      (λ u h. rw (lt-ltb u n h) at (added_thrice moves lookers lookers' u))
