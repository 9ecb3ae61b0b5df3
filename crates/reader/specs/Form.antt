-- Constant bytes at a place of the text, and the form that has one number between them. The laws are in proofs/Forms.
use Rattle.std.specs.Prelude.{Bool, true, false, cond, ◌&&◌, List, [], ◌∷◌, ℕ, ◌+◌, length, drop, eqb, Option, Some, None}
use Rattle.reader.specs.Number.{number_at, on_number}

-- the second list begins with the first
unfoldable pub begins : List ℕ → List ℕ → Bool
begins [] ys = true
begins (x ∷ xs) [] = false
begins (x ∷ xs) (y ∷ ys) = eqb y x && begins xs ys

-- past constant bytes
abbrev pub skip_at : List ℕ → ℕ → List ℕ → Option ℕ
skip_at t p bs = cond (begins bs (drop p t)) (Some (p + length bs)) None

-- what is answered of the place where the text goes on, and where it departs
abbrev pub on_next : {A : Type 0} → Option ℕ → (ℕ → A) → A → A
on_next (Some next) further departs = further next
on_next None further departs = departs

-- a number between constant bytes
unfoldable pub form_at : List ℕ → ℕ → List ℕ → List ℕ → Option (ℕ × ℕ)
form_at t p head tail =
    on_next (skip_at t p head)
    (λ first. on_number (number_at t first)
    (λ v last. on_next (skip_at t last tail)
    (λ next. Some (v, next))
    None)
    None)
    None
