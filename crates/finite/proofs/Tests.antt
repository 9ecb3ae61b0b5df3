-- Bool tests and the facts that they stand for. Assumes nothing.
use mathlib.Core.Path.{◌≡◌, refl, sym, ap, ◌∙◌, subst}
use mathlib.Core.Bool
use mathlib.Core.Bool.{Bool, true, false, not, ◌&&◌, ◌||◌, beq}
use Prim.Native.Nat.{ℕ, suc}
use native.Mathlib.Omega.{arith}
use lib.Dec.{T, leb, ltb, eqb, leb→le, le→leb, nleb→lt, T_not, not_T, eqb→eq, eqb_refl}

pub and_i : (a b : Bool) → T a → T b → T (a && b)
and_i true b p q = q
and_i false b p q = p

pub and_l : (a b : Bool) → T (a && b) → T a
and_l true b p = tt
and_l false b p = p

pub and_r : (a b : Bool) → T (a && b) → T b
and_r true b p = p
and_r false b p = absurd p

pub or_l : (a b : Bool) → T a → T (a || b)
or_l true b p = tt
or_l false b p = absurd p

pub or_r : (a b : Bool) → T b → T (a || b)
or_r true b p = tt
or_r false b p = p

pub or-e : {C : Type 0} (a b : Bool) → T (a || b) → (T a → C) → (T b → C) → C
or-e true b p f g = f tt
or-e false b p f g = g p

pub not-or : (a b : Bool) → T (not (a || b)) → T (not a) × T (not b)
not-or true b p = absurd p
not-or false b p = (tt, p)

pub or-not : (a b : Bool) → T (not a) → T (not b) → T (not (a || b))
or-not true b p q = p
or-not false b p q = q

pub nand : (a b : Bool) → T (not (a && b)) → T a → T (not b)
nand true b p q = p
nand false b p q = absurd q

pub nand_i : (a b : Bool) → (T a → T (not b)) → T (not (a && b))
nand_i true b f = f tt
nand_i false b f = tt

pub not-not : (b : Bool) → T (not (not b)) → T b
not-not true t = tt
not-not false t = t

-- by cases on a test
pub split : {C : Type 0} (b : Bool) → (T b → C) → (T (not b) → C) → C
split true f g = f tt
split false f g = g tt

-- a test that passes, as the code's flags have it
pub true_of : (b : Bool) → T b → b ≡ true
true_of true p = refl
true_of false p = absurd p

pub of_true : (b : Bool) → b ≡ true → T b
of_true b e = rw e tt

pub false_of : (b : Bool) → T (not b) → b ≡ false
false_of true p = absurd p
false_of false p = refl

pub of_false : (b : Bool) → b ≡ false → T (not b)
of_false b e = rw e tt

pub eqb_of : (m n : ℕ) → m ≡ n → T (eqb m n)
eqb_of m n e = subst (λ z. T (eqb m z)) e (eqb_refl m)

pub neqb : (m n : ℕ) → T (not (eqb m n)) → m ≡ n → ⊥
neqb m n t e = T_not (eqb m n) t (eqb_of m n e)

-- two tests that imply each other are equal
pub same : (a b : Bool) → (T a → T b) → (T b → T a) → a ≡ b
same true b f g = sym (true_of b (f tt))
same false true f g = absurd (g tt)
same false false f g = refl

pub beq_e : (a b : Bool) → T (beq a b) → a ≡ b
beq_e true true t = refl
beq_e true false t = absurd t
beq_e false true t = absurd t
beq_e false false t = refl

pub beq_of : (a b : Bool) → a ≡ b → T (beq a b)
beq_of true b e = subst (λ z. T (beq true z)) e tt
beq_of false b e = subst (λ z. T (beq false z)) e tt

pub eqb_sym : (m n : ℕ) → eqb m n ≡ eqb n m
eqb_sym m n = same (eqb m n) (eqb n m) (λ t. eqb_of n m (sym (eqb→eq m n t))) (λ t. eqb_of m n (sym (eqb→eq n m t)))

pub not-leb : (m n : ℕ) → not (leb m n) ≡ ltb n m
not-leb m n = same (not (leb m n)) (ltb n m)
    (λ t. le→leb (suc n) m (nleb→lt m n t))
    (λ t. not_T (leb m n) (λ s. absurd (omega (arith, leb→le m n s, leb→le (suc n) m t))))

pub not-ltb : (m n : ℕ) → not (ltb n m) ≡ leb m n
not-ltb m n = ap not (sym (not-leb m n)) ∙ Bool.not-not (leb m n)
