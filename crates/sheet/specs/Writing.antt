-- A writer of the answer sheet, and what each of its methods does.
use Rattle.std.specs.Prelude.{List, ℕ, ◌+◌, ◌≤◌, length}
use Rattle.sheet.specs.Written.{Written}
use Rattle.sheet.specs.declared.line.Writer.{Writer}

-- so many bytes fit behind its place
abbrev pub HasRoom : Writer → ℕ → Type 0
HasRoom w k = w.at + k ≤ length w.out.now

-- it wrote a text, and is behind it
abbrev pub Wrote : Writer → List ℕ → Writer → Type 0
Wrote before text after = Written before.out.now before.at text after.out.now after.at
