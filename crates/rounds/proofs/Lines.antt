-- The line of a round: by the marks of a search, and of nobody. Assumes nothing.
use Rattle.std.proofs.Common.{Option, Some, None}
use mathlib.Core.Path.{◌≡◌, sym, ap, ◌∙◌}
use mathlib.Core.Bool.{Bool, false}
use mathlib.Core.List.{List, ◌++◌}
use Prim.Native.Nat.{ℕ, ◌<◌}
use native.Mathlib.Omega.{arith}
use lib.Dec.{eqb}
use borrow.Author.Tests.{lt-ltb, le-ltb}
use Rattle.finite.specs.Bytes.{bytes}
use Rattle.finite.proofs.Count.{tabulate_cong}
use Rattle.anchored.specs.Graph.{Graph}
use Rattle.anchored.specs.Followers.{follows, mark}
use Rattle.anchored.specs.Session.{Plain, row_of}
use Rattle.anchored.proofs.Session.{mark_two}
use Rattle.pool.specs.Arrays.{Holds}
use Rattle.sheet.specs.Line.{sign, sign_at, lifted_by, round_part, retain_part, redone_part, line_of}
use Rattle.rounds.specs.Rounds.{round_for, shown}

-- a line shows who is lifted below n alone
pub line_same : (number : ℕ) (chosen : Option ℕ) (p q : ℕ → Bool) (n redone : ℕ) → ((v : ℕ) → v < n → p v ≡ q v) → line_of number chosen p n redone ≡ line_of number chosen q n redone
unfolding line_of
line_same number chosen p q n redone e =
    ap (λ (z : List ℕ). round_part number ++ retain_part chosen ++ (bytes " (marks " ++ z ++ bytes ")") ++ redone_part redone)
    (tabulate_cong (sign_at p) (sign_at q) n (λ v h. ap sign (e v h)))

module _ (G : Graph) (S : Plain) (x : ℕ) where
  -- the round that names a vertex, and no vertex
  pub round_some : x < G.size → round_for G S x ≡ record { chosen = Some x; lifted = follows G S.anchors x; redone = (row_of G S x).redone }
  unfolding round_for
  round_some h = rw (lt-ltb x G.size h)

  pub round_none : x ≡ G.size → round_for G S x ≡ record { chosen = None; lifted = λ v. false; redone = 0 }
  unfolding round_for
  round_none z = rw (le-ltb x G.size (omega arith))

  -- the marks of the search from x give its line
  pub line_some : (number redone : ℕ) (marks : List ℕ) → x < G.size → Holds marks G.size (mark G S.anchors x) → redone ≡ (row_of G S x).redone
      → line_of number (Some x) (lifted_by marks) G.size redone ≡ shown G.size number (round_for G S x)
  line_some number redone marks h holds row =
      line_same number (Some x) (lifted_by marks) (follows G S.anchors x) G.size redone (λ v b. ap (λ z. eqb z 2) (holds v b) ∙ mark_two G S.anchors x v)
      ∙ ap (line_of number (Some x) (follows G S.anchors x) G.size) row
      ∙ ap (shown G.size number) (sym (round_some h))

  -- no marks give the line of nobody
  pub line_none : (number : ℕ) (marks : List ℕ) → x ≡ G.size → Holds marks G.size (λ v. 0) → line_of number None (lifted_by marks) G.size 0 ≡ shown G.size number (round_for G S x)
  line_none number marks z holds =
      line_same number None (lifted_by marks) (λ v. false) G.size 0 (λ v b. ap (λ (k : ℕ). eqb k 2) (holds v b))
      ∙ ap (shown G.size number) (sym (round_none z))
