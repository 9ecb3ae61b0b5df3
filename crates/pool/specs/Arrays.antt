-- Scratch arrays: what their first n places hold.
use Rattle.std.specs.Prelude.{◌≡◌, List, ℕ, ◌<◌, get_or}

-- place v holds f v, for each v below n
abbrev pub Holds : List ℕ → ℕ → (ℕ → ℕ) → Type 0
Holds xs n f = (v : ℕ) → v < n → get_or xs v 0 ≡ f v
