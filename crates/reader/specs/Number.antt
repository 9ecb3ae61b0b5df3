-- A number at a place of the text: decimal, without leading zeros, at most 65,535. The laws are in proofs/Numbers.
use Rattle.std.specs.Prelude.{Bool, true, false, not, cond, ◌&&◌, List, [], ◌∷◌, ℕ, ◌+◌, ◌*◌, ◌-◌, length, get_or, drop, ltb, leb, eqb, Option, Some, None}

-- a byte as a digit, 10 where it is none
abbrev pub digit_of : ℕ → ℕ
digit_of b = cond (ltb b 48) 10 (cond (leb b 57) (b - 48) 10)

-- the digit at a place of the text, 10 where there is none
unfoldable pub digit_at : List ℕ → ℕ → ℕ
digit_at t p = digit_of (get_or t p 0)

-- the digit at a place of the text, if there is one
abbrev pub digit_found : List ℕ → ℕ → Option ℕ
digit_found t p = cond (ltb (digit_at t p) 10) (Some (digit_at t p)) None

-- the digits that some bytes begin with
unfoldable pub digits : List ℕ → List ℕ
digits [] = []
digits (b ∷ bs) = cond (ltb (digit_of b) 10) (digit_of b ∷ digits bs) []

-- the decimal value of digits that stand behind those of v
abbrev pub value : ℕ → List ℕ → ℕ
value v [] = v
value v (d ∷ ds) = value (v * 10 + d) ds

-- one digit or more, and no leading zero
abbrev pub unpadded : List ℕ → Bool
unpadded [] = false
unpadded (d ∷ []) = true
unpadded (d ∷ e ∷ ds) = not (eqb d 0)

-- the number that digits from place p on make, with the place behind them
unfoldable pub number_of : ℕ → List ℕ → Option (ℕ × ℕ)
number_of p ds = cond (unpadded ds && leb (value 0 ds) 65535) (Some (value 0 ds, p + length ds)) None

-- the number taken off the front of the text from place p on
abbrev pub number_at : List ℕ → ℕ → Option (ℕ × ℕ)
number_at t p = number_of p (digits (drop p t))

-- what is answered of a number and the place behind it, and where there is none
abbrev pub on_number : {A : Type 0} → Option (ℕ × ℕ) → (ℕ → ℕ → A) → A → A
on_number (Some r) found missing = found r.0 r.1
on_number None found missing = missing

-- what was read, with the place behind it
abbrev pub placed : {A : Type 0} → Option A → ℕ → Option (A × ℕ)
placed (Some a) p = Some (a, p)
placed None p = None
