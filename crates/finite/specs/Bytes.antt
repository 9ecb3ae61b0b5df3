-- Texts as bytes: a quoted text, and a number in decimal. The laws are in proofs/Bytes.
use Rattle.std.specs.Prelude.{cond, List, [], ◌∷◌, ◌++◌, ℕ, zero, suc, ◌+◌, ◌/◌, ◌%◌, ltb}
use Prim.Native.Char.{code}
use Prim.Native.String.{String, [] as []ˢ, ◌∷◌ as ◌∷ˢ◌}

-- every text quoted is of ASCII characters, whose codes are their bytes
abbrev pub bytes : String → List ℕ
bytes []ˢ = []
bytes (c ∷ˢ s) = code c ∷ bytes s

-- the last digit of a number, as its byte
abbrev pub digit : ℕ → ℕ
digit v = 48 + v % 10

-- the digits of v without leading zeros, if at most `more` stand before the last
unfoldable pub decimal_from : ℕ → ℕ → List ℕ
decimal_from zero v = digit v ∷ []
decimal_from (suc more) v = cond (ltb v 10) (digit v ∷ []) (decimal_from more (v / 10) ++ digit v ∷ [])

-- the digits of v without leading zeros: fewer than v stand before the last, or none
unfoldable pub decimal : ℕ → List ℕ
decimal v = decimal_from v v
