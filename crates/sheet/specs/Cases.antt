-- The definitions compute: document 01's listing, nobody left, no vertices, the greatest numbers, and refusals. Assumes nothing.
use Rattle.std.specs.Prelude.{◌≡◌, refl, List, [], ◌∷◌, ℕ, Some, None}
use Rattle.finite.specs.Count.{tabulate}
use Rattle.finite.specs.Bytes.{bytes, decimal_from, decimal}
use Rattle.sheet.specs.Line.{lifted_by, line_of, sheet_from, sheet_of, refused_line}

-- A mark of 1 prints a dot. With no vertices there is a space and no sign. A refusal's 0 is one digit.
texts :
    ◌≡◌ {A = List (List ℕ)}
    (line_of 1 (Some 0) (lifted_by (0 ∷ 0 ∷ 0 ∷ 0 ∷ [])) 4 2
    ∷ line_of 2 (Some 3) (lifted_by (0 ∷ 2 ∷ 2 ∷ 0 ∷ [])) 4 2
    ∷ line_of 3 None (lifted_by (0 ∷ 0 ∷ 0 ∷ 0 ∷ [])) 4 0
    ∷ line_of 1 None (lifted_by []) 0 0
    ∷ line_of 60 (Some 1023) (lifted_by (1 ∷ 2 ∷ 1 ∷ [])) 3 1023
    ∷ sheet_of 4
    (record { chosen = Some 0; lifted = lifted_by (0 ∷ 0 ∷ 0 ∷ 0 ∷ []); redone = 2 }
    ∷ record { chosen = Some 3; lifted = lifted_by (0 ∷ 2 ∷ 2 ∷ 0 ∷ []); redone = 2 }
    ∷ [])
    ∷ refused_line 18 1027
    ∷ refused_line 2 0
    ∷ [])
    (bytes "(round 01 (retain 0000) (marks ....) (redone 0002))\n"
    ∷ bytes "(round 02 (retain 0003) (marks .++.) (redone 0002))\n"
    ∷ bytes "(round 03 (retain ----) (marks ....) (redone 0000))\n"
    ∷ bytes "(round 01 (retain ----) (marks ) (redone 0000))\n"
    ∷ bytes "(round 60 (retain 1023) (marks .+.) (redone 1023))\n"
    ∷ bytes "(round 01 (retain 0000) (marks ....) (redone 0002))\n(round 02 (retain 0003) (marks .++.) (redone 0002))\n"
    ∷ bytes "(refused 18 1027)\n"
    ∷ bytes "(refused 2 0)\n"
    ∷ [])
unfolding line_of sheet_from refused_line decimal decimal_from tabulate
texts = refl
