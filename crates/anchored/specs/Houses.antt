-- Document 02, card 9: houses share the lines of a sheet. They take turns, whatever each of them chooses at its turn; then the real choice.
use Rattle.std.specs.Prelude.{◌≡◌, Bool, not, cond, ◌&&◌, ◌||◌, ℕ, zero, suc, ◌+◌, ◌-◌, ◌≤◌, ◌<◌, T, ltb, eqb}
use Rattle.finite.specs.Count.{tabulate, below, count, sum}
use Rattle.finite.specs.Search.{any, first}
use Rattle.anchored.specs.Graph.{Graph}
use Rattle.anchored.specs.Yield.{choice_of}
use Rattle.anchored.specs.Session.{Plain, status_of, turn, after}

-- how many houses there are, and the house of each vertex
pub record Houses : Type 0 where
  pub count : ℕ
  pub house : ℕ → ℕ

-- whose turn is next, and what is left of each house's quota
pub record Turns : Type 0 where
  pub next : ℕ
  pub left : ℕ → ℕ

-- between two lines: the session so far, and the turns
pub record Sharing : Type 0 where
  pub session : Plain
  pub turns : Turns

-- as many lines as the quotas sum to
abbrev pub line_count : Houses → (ℕ → ℕ) → ℕ
line_count H quota = sum quota (below H.count)

-- the house d turns after house c, of so many houses
unfoldable pub turns_after : ℕ → ℕ → ℕ → ℕ
turns_after count c d = cond (ltb (c + d) count) (c + d) (c + d - count)

-- the turns after house c is served: next is the house after it; they stay if c is none of so many houses
unfoldable pub after_turn : ℕ → ℕ → Turns → Turns
after_turn count c t = cond (ltb c count) (record { next = turns_after count c 1; left = λ e. cond (eqb c e) (t.left e - 1) (t.left e) }) t

module _ (H : Houses) where
  -- v is a vertex of house c that is not anchored
  abbrev pub free_in : (ℕ → Bool) → ℕ → ℕ → Bool
  free_in A c v = eqb (H.house v) c && not (A v)

  -- of n vertices, anchored by A
  module _ (n : ℕ) (A : ℕ → Bool) (t : Turns) where
    -- a house is passed: its quota is spent, or nobody of it is left to anchor
    unfoldable pub is_passed : ℕ → Bool
    is_passed c = eqb (t.left c) 0 || not (any (free_in A c) (below n))

    -- how many houses are passed before one is served; all of them if none is
    unfoldable pub skipped : ℕ
    skipped = first (λ d. not (is_passed (turns_after H.count t.next d))) H.count

    -- the house that the line serves; the number of houses if every house is passed
    unfoldable pub served : ℕ
    served = cond (ltb skipped H.count) (turns_after H.count t.next skipped) H.count

module _ (G : Graph) (H : Houses) where
  -- the house that the next line on S serves, and whether one is passed
  abbrev pub served_on : Sharing → ℕ
  served_on S = served H G.size S.session.anchors S.turns

  abbrev pub passed_on : Sharing → ℕ → Bool
  passed_on S c = is_passed H G.size S.session.anchors S.turns c

  -- what a line leaves that names x for the house served: a turn of the session
  unfoldable pub after_line : ℕ → ℕ → Sharing → Sharing
  after_line number x S = record { session = turn G number x S.session; turns = after_turn H.count (served_on S) S.turns }

  -- `pick i A c`: whom house c anchors in the line after i lines, with the anchors A
  module _ (pick : ℕ → (ℕ → Bool) → ℕ → ℕ) where
    -- whom that line names: the pick of the house served; no vertex when every house is passed
    unfoldable pub named : ℕ → Sharing → ℕ
    named i S = cond (ltb (served_on S) H.count) (pick i S.session.anchors (served_on S)) G.size

    -- after i lines; at the start house 0 is next, and every quota whole
    unfoldable pub after_lines : (ℕ → ℕ) → (ℕ → Bool) → ℕ → Sharing
    after_lines quota A zero = record { session = record { anchors = A; stamps = λ v. 0 }; turns = record { next = 0; left = quota } }
    after_lines quota A (suc i) = after_line (suc i) (named i (after_lines quota A i)) (after_lines quota A i)

  -- what a choice function owes: a vertex of the house it is asked for that is not anchored, if there is one
  abbrev pub Picks : (ℕ → (ℕ → Bool) → ℕ → ℕ) → Type 0
  Picks pick = (i : ℕ) (A : ℕ → Bool) (c : ℕ) → T (any (free_in H A c) (below G.size)) → (pick i A c < G.size) × T (free_in H A c (pick i A c))

  -- what is claimed of the lines, with `pick` choosing for every house
  pub record Fair (pick : ℕ → (ℕ → Bool) → ℕ → ℕ) (quota : ℕ → ℕ) (A : ℕ → Bool) : Type 0 where
    -- a house not to be passed is served within as many lines as there are houses, and before the lines end
    pub soon : (c i : ℕ) → c < H.count → T (not (passed_on (after_lines pick quota A i) c))
        → (j : ℕ) × (i ≤ j) × (j < i + H.count) × (j < line_count H quota) × (served_on (after_lines pick quota A j) ≡ c)
    -- none exceeds its quota
    pub limited : (c : ℕ) → c < H.count → (m : ℕ) → count (λ i. eqb (served_on (after_lines pick quota A i)) c) (below m) ≤ quota c
    -- a line that serves a house names a vertex of it, which a session accepts
    pub accepted : (i : ℕ) → let S = after_lines pick quota A i in served_on S < H.count
        → (H.house (named pick i S) ≡ served_on S) × (status_of G S.session.anchors (named pick i S) ≡ 0)
    -- the lines are the session of their names
    pub session : (m i : ℕ) → i ≤ m → after G A (tabulate (λ k. named pick k (after_lines pick quota A k)) m) i ≡ (after_lines pick quota A i).session
    -- once every house is passed nobody is named any more
    pub ended : (i : ℕ) → served_on (after_lines pick quota A i) ≡ H.count → (k : ℕ) → named pick (i + k) (after_lines pick quota A (i + k)) ≡ G.size

  -- the real choice: of the house's vertices not anchored the one of the greatest net yield, the lowest of equals
  unfoldable pub house_choice : ℕ → (ℕ → Bool) → ℕ → ℕ
  house_choice i A c = choice_of G A (free_in H A c)
