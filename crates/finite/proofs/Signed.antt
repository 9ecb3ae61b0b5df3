-- Signed numbers: their order, and differences of two numbers, what they add and their bounds. Assumes nothing.
use mathlib.Core.Path.{◌≡◌, refl, sym, ap, ◌∙◌, subst}
use mathlib.Core.Bool.{not, cond}
use Prim.Native.Nat.{ℕ, zero, suc, ◌+◌, ◌-◌, ◌≤◌, ◌<◌, zero-le}
use native.Mathlib.Omega.{arith}
use lib.IntN.{ℤ, pos, negsuc, neg_ℤ, sub_ℕ, ◌+ℤ◌, ◌-ℤ◌, +ℤ_assoc, +ℤ-neg_ℤ_cancel}
use lib.Signed.{mag, le_z}
use lib.Dec.{T, ltb, leb→le, le→leb, nleb→lt, ltb→lt, nltb→le}
use borrow.Author.Tests.{le-ltb}
use Rattle.finite.proofs.Tests.{split, true_of, false_of}

less : (a b : ℕ) → pos a -ℤ pos b ≡ sub_ℕ a b
less a zero = let q : pos (a + 0) ≡ pos (a - 0) = ap pos (omega arith) in rw (le-ltb a 0 zero-le) q
less a (suc b) = refl

-- a difference is a number, or what is missing
pub sub_cases : (C : ℤ → Type 0) (a b : ℕ) → (b ≤ a → C (pos (a - b))) → (a < b → C (negsuc (b - suc a))) → C (pos a -ℤ pos b)
sub_cases C a b f g = subst C (sym (less a b)) (split (ltb a b)
    (λ t. subst (λ q. C (cond q (negsuc (b - suc a)) (pos (a - b)))) (sym (true_of (ltb a b) t)) (g (ltb→lt a b t)))
    (λ t. subst (λ q. C (cond q (negsuc (b - suc a)) (pos (a - b)))) (sym (false_of (ltb a b) t)) (f (nltb→le a b t))))

-- signed numbers compare, and comparisons chain
pub le_z_total : (a b : ℤ) → T (not (le_z a b)) → T (le_z b a)
le_z_total (pos a) (pos b) t = le→leb b a (omega (arith, nleb→lt a b t))
le_z_total (pos a) (negsuc b) t = tt
le_z_total (negsuc a) (pos b) t = t
le_z_total (negsuc a) (negsuc b) t = le→leb a b (omega (arith, nleb→lt b a t))

pub le_z_chains : (a b c : ℤ) → T (le_z a b) → T (le_z b c) → T (le_z a c)
le_z_chains (pos a) (pos b) (pos c) s t = le→leb a c (omega (arith, leb→le a b s, leb→le b c t))
le_z_chains (pos a) (pos b) (negsuc c) s t = t
le_z_chains (pos a) (negsuc b) c s t = absurd s
le_z_chains (negsuc a) (pos b) (pos c) s t = tt
le_z_chains (negsuc a) (pos b) (negsuc c) s t = absurd t
le_z_chains (negsuc a) (negsuc b) (pos c) s t = tt
le_z_chains (negsuc a) (negsuc b) (negsuc c) s t = le→leb c a (omega (arith, leb→le b a s, leb→le c b t))

-- what a difference adds to a number
pub add-sub : (s t f c : ℕ) → t + c ≡ s + f → pos t ≡ pos s +ℤ (pos f -ℤ pos c)
add-sub s t f c e = sym (sym (+ℤ_assoc (pos s) (pos f) (neg_ℤ (pos c))) ∙ ap (λ (n : ℕ). pos n -ℤ pos c) (sym e) ∙ +ℤ-neg_ℤ_cancel (pos t) (pos c))

-- of two numbers below a bound it is within the bound
pub mag-sub : (a b k : ℕ) → a < k → b < k → mag (pos a -ℤ pos b) < k
mag-sub a b k h g = sub_cases (λ z. mag z < k) a b (λ q. omega arith) (λ q. omega arith)

-- what is taken from two numbers leaves their order
pub sub_mono : (a b c : ℕ) → a ≤ b → T (le_z (pos a -ℤ pos c) (pos b -ℤ pos c))
sub_mono a b c h = sub_cases (λ z. T (le_z z (pos b -ℤ pos c))) a c
    (λ q. sub_cases (λ z. T (le_z (pos (a - c)) z)) b c (λ r. le→leb (a - c) (b - c) (omega arith)) (λ r. absurd (omega arith)))
    (λ q. sub_cases (λ z. T (le_z (negsuc (c - suc a)) z)) b c (λ r. tt) (λ r. le→leb (c - suc b) (c - suc a) (omega arith)))
