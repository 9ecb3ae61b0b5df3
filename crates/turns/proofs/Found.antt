-- What a search answers: the number found, or none. Assumes nothing.
use Rattle.std.proofs.Common.{Option, Some, None, unwrap_or, IfSome, ℕ, ◌<◌, ◌≤◌, ◌≡◌, ltb, refl, arith}
use borrow.Author.Tests.{lt-ltb, le-ltb}
use lib.Dec.{ltb→lt, nltb→le}
use Rattle.finite.proofs.Tests.{split, true_of, false_of}
use Rattle.turns.specs.Found.{found_below}

module _ (n : ℕ) {x : ℕ} where
  pub found_some : {y : ℕ} → y ≡ x → x < n → Some y ≡ found_below n x
  found_some e h = rw (lt-ltb x n h, e)

  pub found_none : n ≤ x → None ≡ found_below n x
  found_none h = rw (le-ltb x n h)

-- a search that held the bound for none
pub found_held : (n : ℕ) (o : Option ℕ) {x : ℕ} → IfSome o (λ v. v < n) → unwrap_or o n ≡ x → o ≡ found_below n x
found_held n (Some v) h e = found_some n e (omega arith)
found_held n None h e = found_none n (omega arith)

-- what an answer says of the number searched for
module _ (n x : ℕ) where
  pub found_value : x ≤ n → unwrap_or (found_below n x) n ≡ x
  found_value h = split (ltb x n)
      (λ t. rw (true_of (ltb x n) t) refl)
      (λ t. rw (false_of (ltb x n) t) (omega (arith, nltb→le x n t)))

  pub found_meets : (P : ℕ → Type 0) → (x < n → P x) → IfSome (found_below n x) P
  found_meets P f = split (ltb x n)
      (λ t. rw (true_of (ltb x n) t) (f (ltb→lt x n t)))
      (λ t. rw (false_of (ltb x n) t) tt)
