-- Support over plain lists: who supports whom, a candidate struck out, and what weighing and settling promise.
use Rattle.std.specs.Prelude.{◌≡◌, Bool, not, cond, ◌&&◌, ◌||◌, List, ℕ, ◌+◌, ◌-◌, ◌≤◌, ◌<◌, length, take, get_or, set, T, ltb, eqb}
use Rattle.finite.specs.Count.{count, In, Distinct}
use Rattle.finite.specs.Search.{member}
use Rattle.table.specs.Table.{vertices, neighbors}
use Rattle.candidates.specs.Reaching.{alike}
use Rattle.support.specs.declared.Support.{Support}

-- ---- support

-- p supports v: anchored, or x, or of higher level, or of v's level and in M
unfoldable pub supports_of : List ℕ → List ℕ → (ℕ → Bool) → ℕ → ℕ → ℕ → Bool
supports_of a levels M x v p = eqb (get_or a p 0) 1 || eqb x p || ltb (get_or levels v 0) (get_or levels p 0) || (M p && alike levels p v)

-- the candidates: those whose mark is not 0
abbrev pub marked : List ℕ → ℕ → Bool
marked marks v = not (eqb (get_or marks v 0) 0)

-- ---- striking out

-- marks, support, and the vertices struck out, which are the first `end` of `struck`
pub record State : Type 0 where
  pub marks : List ℕ
  pub support : List ℕ
  pub struck : List ℕ
  pub end : ℕ

abbrev pub state : List ℕ → List ℕ → List ℕ → ℕ → State
state m p z e = record { marks = m; support = p; struck = z; end = e }

-- what the marks and the support say together
abbrev pub state_of : List ℕ → Support → State
state_of m p = state m p.counts p.struck.places p.struck.tail

-- those struck out, in order
abbrev pub out : State → List ℕ
out st = take st.end st.struck

-- v has c supporters
abbrev pub store : ℕ → ℕ → State → State
store v c st = state st.marks (set st.support v c) st.struck st.end

-- v struck out
abbrev pub cross : ℕ → State → State
cross v st = state (set st.marks v 1) st.support (set st.struck st.end v) (st.end + 1)

-- v struck out if its support does not exceed its level
unfoldable pub strike_of : List ℕ → ℕ → State → State
strike_of levels v st = cond (ltb (get_or levels v 0) (get_or st.support v 0)) st (cross v st)

-- u, struck out, no longer supports w: if w is of its level and still in, it has one supporter less
unfoldable pub weaken_of : List ℕ → ℕ → ℕ → State → State
weaken_of levels u w st =
    cond (eqb (get_or st.marks w 0) 2 && alike levels w u)
    (strike_of levels w (store w (get_or st.support w 0 - 1) st)) st

-- those struck out are in C, below n, each once; marks are 1 for these, 2 for the others in C, 0 else
pub record Listed (n : ℕ) (C : ℕ → Bool) (st : State) : Type 0 where
  pub marks_long : n ≤ length st.marks
  pub support_long : n ≤ length st.support
  pub struck_long : n ≤ length st.struck
  pub room : st.end ≤ length st.struck
  pub small : (v : ℕ) → T (C v) → v < n
  pub distinct : Distinct (out st)
  pub within : (v : ℕ) → In v (out st) → T (C v)
  pub marked : (v : ℕ) → get_or st.marks v 0 ≡ cond (member v (out st)) 1 (cond (C v) 2 0)

-- p stands in z and is of the level of v
abbrev pub gone : List ℕ → List ℕ → ℕ → ℕ → Bool
gone levels z v p = member p z && alike levels p v

-- how many supporters v loses with those in z
abbrev pub loss_of : List ℕ → List ℕ → List ℕ → List ℕ → ℕ → ℕ
loss_of s l levels z v = count (gone levels z v) (neighbors s l v)

-- an order of striking out: S is the support at the start, and each was left with too little by those before it
abbrev pub Ordered : List ℕ → List ℕ → List ℕ → (ℕ → ℕ) → List ℕ → Type 0
Ordered s l levels S z = (i : ℕ) → i < length z → S (get_or z i 0) ≤ get_or levels (get_or z i 0) 0 + loss_of s l levels (take i z) (get_or z i 0)

-- those whose support does not exceed their level are struck out
pub record Weighed (n : ℕ) (levels : List ℕ) (C : ℕ → Bool) (st : State) : Type 0 where
  pub listed : Listed n C st
  pub weak : (v : ℕ) → In v (out st) → get_or st.support v 0 ≤ get_or levels v 0
  pub strong : (v : ℕ) → T (C v) → (In v (out st) → ⊥) → get_or levels v 0 < get_or st.support v 0

-- no more is to be struck out: with S the support at the start, the others keep enough
pub record Settled (s l levels : List ℕ) (S : ℕ → ℕ) (C : ℕ → Bool) (st : State) : Type 0 where
  pub listed : Listed (vertices s) C st
  pub ordered : Ordered s l levels S (out st)
  pub enough : (v : ℕ) → T (C v) → (In v (out st) → ⊥) → get_or levels v 0 + loss_of s l levels (out st) v < S v
