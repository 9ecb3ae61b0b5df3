-- The record of a pool: its bytes say who is anchored, the search accepts it, and its yields, reached counts and climbs are the defined ones.
-- Assumes nothing.
use mathlib.Core.Path.{◌≡◌, sym, ap, ap₂, ◌∙◌, subst, fun_ext}
use mathlib.Core.Bool.{Bool, not, cond}
use mathlib.Core.List.{List}
use Prim.Native.Nat.{ℕ, ◌-◌, ◌<◌}
use native.Mathlib.Omega.{arith}
use lib.ListN.{length, take, get_or, get_or-eq_default}
use lib.IntN.{pos, ◌-ℤ◌}
use lib.Dec.{T, leb, leb→le, nleb→lt}
use Rattle.finite.specs.Count.{bit, tabulate, sum, below}
use Rattle.finite.proofs.Tests.{split, true_of, false_of, neqb}
use Rattle.finite.proofs.Count.{bit_le, bit-one, length-tabulate, tabulate_reads, tabulate-at, sum_cong, in_below}
use Rattle.table.specs.Size.{size_of}
use Rattle.table.specs.Guard.{clear}
use Rattle.table.proofs.Laws.{sound}
use Rattle.anchored.specs.Graph.{Graph, Simple}
use Rattle.anchored.specs.Core.{level, layer}
use Rattle.anchored.specs.Followers.{followers, reached, reached_count}
use Rattle.anchored.specs.Yield.{least, bare_level, climb, net, net_yield, climbed}
use Rattle.anchored.specs.Events.{Pool}
use Rattle.pool.specs.Input.{anchored_by, admit_of}
use Rattle.pool.proofs.Laws.{simple, admits}
use Rattle.level_sheet.specs.SheetCheck.{Accepted}
use Rattle.level_sheet.proofs.Laws.{accepts}
use Rattle.marking.proofs.Marking.{vertex-within, marking-vertex}
use Rattle.search.specs.Answers.{followers_of}
use Rattle.search.proofs.Answers.{search-free, followers-found}
use Rattle.edit.specs.Edit.{last_start, starts_of, links_of}
use Rattle.session.specs.Claim.{found_with}
use Rattle.session.proofs.Tables.{Standing}

module _ {n : ℕ} {P : Pool} (stands : Standing n P) where
  abbrev G : Graph
  G = P.graph

  abbrev A : ℕ → Bool
  A = P.plain.anchors

  abbrev starts : List ℕ
  starts = starts_of G

  abbrev links : List ℕ
  links = take (last_start starts) (links_of G)

  abbrev bytes : List ℕ
  bytes = tabulate (λ v. bit (A v)) n

  abbrev levels : List ℕ
  levels = tabulate (level G A) n

  abbrev layers : List ℕ
  layers = tabulate (layer G A) n

  -- the graph is simple, of n vertices
  pub pool-simple : Simple G
  pool-simple = subst Simple stands.cut (simple (sound starts links stands.checked))

  pub pool-size : G.size ≡ n
  pool-size = ap (λ g. g.size) (sym stands.cut) ∙ stands.vertices

  bytes_long : length bytes ≡ n
  bytes_long = length-tabulate (λ v. bit (A v)) n

  -- a byte is 1 exactly for a vertex in the plain session's set
  pub set_is : anchored_by bytes ≡ A
  set_is = fun_ext (λ v. split (leb n v)
      (λ h. let past = leb→le n v h in rw (get_or-eq_default bytes 0 {n = v} (omega (arith, bytes_long)), stands.beyond v past))
      (λ h. rw (tabulate-at (λ w. bit (A w)) n v (nleb→lt n v h)) (bit-one (A v))))

  -- table and bytes are admitted by every other operation
  pub bytes-admitted : admit_of starts links bytes ≡ clear
  bytes-admitted =
      let same = stands.vertices in
      admits starts links bytes stands.checked (bytes_long ∙ sym same) record {
        table = sound starts links stands.checked;
        long = omega (arith, bytes_long);
        bytes = λ v b. rw (tabulate-at (λ w. bit (A w)) n v (omega arith)) (bit_le (A v));
      }

  -- levels and layers are the defined sheet
  sheet : Accepted starts links bytes levels layers
  sheet =
      let same = stands.vertices in
      record {
        levels_long = length-tabulate (level G A) n ∙ sym same;
        layers_long = length-tabulate (layer G A) n ∙ sym same;
        levels_hold = λ v b. tabulate-at (level G A) n v (omega arith) ∙ ap₂ (λ g B. level g B v) (sym stands.cut) (sym set_is);
        layers_hold = λ v b. tabulate-at (layer G A) n v (omega arith) ∙ ap₂ (λ g B. layer g B v) (sym stands.cut) (sym set_is);
      }

  -- the search from a vertex that is not anchored accepts the record
  search-at : (x : ℕ) → x < n → T (not (A x)) → followers_of starts links bytes levels layers x n ≡ found_with (followers G A x) (reached G A x) (size_of starts links)
  search-at x b free =
      let same = stands.vertices in
      let table = sound starts links stands.checked in
      let marking = marking-vertex starts links bytes levels layers x n bytes-admitted (sym same)
      ∙ vertex-within starts links bytes levels layers x (accepts starts links bytes levels layers table sheet) (omega arith) in
      let unanchored = neqb (get_or bytes x 0) 1 (subst (λ B. T (not (B x))) (sym set_is) free) in
      followers-found starts links bytes levels layers x n (search-free starts links bytes levels layers x n marking unanchored)
      ∙ ap₂ (λ g B. found_with (followers g B x) (reached g B x) (size_of starts links)) stands.cut set_is

  -- the yield of an anchored vertex, and of any other
  pub yield_anchored : (v : ℕ) → v < n → T (A v) → get_or (tabulate (net_yield G A) n) v (pos 0) ≡ least
  unfolding net_yield
  yield_anchored v b t = tabulate_reads (net_yield G A) (pos 0) n v b ∙ rw (true_of (A v) t)

  pub yield_free : (v : ℕ) → v < n → T (not (A v)) → get_or (tabulate (net_yield G A) n) v (pos 0) ≡ net G A v
  unfolding net_yield
  yield_free v b t = tabulate_reads (net_yield G A) (pos 0) n v b ∙ rw (false_of (A v) t)

  -- the reached count of an anchored vertex, and of any other
  pub reached-anchored : (v : ℕ) → v < n → T (A v) → get_or (tabulate (reached_count G A) n) v 0 ≡ 65535
  unfolding reached_count
  reached-anchored v b t = tabulate-at (reached_count G A) n v b ∙ rw (true_of (A v) t)

  reached-free : (v : ℕ) → v < n → T (not (A v)) → get_or (tabulate (reached_count G A) n) v 0 ≡ reached G A v
  unfolding reached_count
  reached-free v b t = tabulate-at (reached_count G A) n v b ∙ rw (false_of (A v) t)

  -- so the search answers the record's own reached count
  pub search-reached : (x : ℕ) → x < n → T (not (A x)) → followers_of starts links bytes levels layers x n ≡ found_with (followers G A x) (get_or (tabulate (reached_count G A) n) x 0) (size_of starts links)
  search-reached x b free = search-at x b free ∙ ap (λ k. found_with (followers G A x) k (size_of starts links)) (sym (reached-free x b free))

  -- the net yield by the record's level
  pub yield_made : (v : ℕ) → v < n → net G A v ≡ pos (followers G A v) -ℤ pos (get_or levels v 0 - bare_level G v)
  unfolding net climb
  yield_made v b = rw (tabulate-at (level G A) n v b)

  -- the climbs by the record's levels
  pub climbs_are : sum (λ v. cond (A v) 0 (get_or levels v 0 - bare_level G v)) (below n) ≡ climbed G A
  unfolding climbed climb
  climbs_are = sum_cong _ _ (below n) (λ v j. ap (λ (k : ℕ). cond (A v) 0 (k - bare_level G v)) (tabulate-at (level G A) n v ((in_below n v).0 j)))
      ∙ ap (λ k. sum (λ v. cond (A v) 0 (level G A v - bare_level G v)) (below k)) (sym pool-size)
