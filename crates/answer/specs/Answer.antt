-- Document 01, "Rounds and the answer sheet" and "Who can cause a refusal": the text-to-sheet call.
use Rattle.std.specs.Prelude.{Bool, cond, List, ℕ, ◌+◌, ◌*◌, length, ltb, Result, Ok, Err}
use Rattle.finite.specs.Search.{member}
use Rattle.table.specs.Table.{vertices, check_of}
use Rattle.table.specs.Rule.{Refusal}
use Rattle.table.specs.Guard.{Guard, refused, refused_at, answer, past}
use Rattle.pool.specs.Input.{graph_of}
use Rattle.text.specs.Text.{reading_of, starts_read, links_read, retained_read}
use Rattle.text.specs.declared.read.Summary.{Summary}
use Rattle.sheet.specs.Line.{sheet_of, refused_line}
use Rattle.rounds.specs.Rounds.{rounds_of}

-- the bytes of a sheet: 48 and one a vertex in each line
abbrev pub size_of : Summary → ℕ
size_of asked = asked.rounds * (48 + asked.riders)

-- 11 for more than 60 rounds, 12 for less room than the sheet needs, 15 for a retained number of n or more
abbrev pub room_of : Summary → ℕ → Guard
room_of asked room =
    cond (ltb 60 asked.rounds) (refused 11 0)
    (cond (ltb room (size_of asked)) (refused 12 0)
    (refused_at 15 asked.beyond))

-- 2 and 3 for the numbers of vertices and links read, 5 to 8 for the table, then the rest
unfoldable pub asked_of : Summary → List ℕ → List ℕ → ℕ → Guard
asked_of asked s l room =
    cond (ltb 1024 asked.riders) (refused 2 0)
    (cond (ltb 16384 asked.links) (refused 3 0)
    (past (check_of s l) (room_of asked room)))

-- what the call refuses of a text and so much room: 17, 18, then the rest
unfoldable pub text_of : List ℕ → ℕ → Guard
text_of t room = cond (ltb 65536 (length t)) (refused 17 0) (elim (reading_of t) [
  | Ok asked ↦ asked_of asked (starts_read t) (links_read t) room
  | Err line ↦ refused 18 line
])

-- the rounds that a text asks for
unfoldable pub rounds_asked : List ℕ → ℕ
rounds_asked t = elim (reading_of t) [
  | Ok asked ↦ asked.rounds
  | Err line ↦ 0
]

-- the sheet of some rounds on a table
abbrev pub rounds_sheet : List ℕ → List ℕ → (ℕ → Bool) → ℕ → List ℕ
rounds_sheet s l A rounds = sheet_of (vertices s) (rounds_of (graph_of s l) A rounds)

-- the sheet of a text: its rounds on its table, with its retained as the first anchors
unfoldable pub sheet_of_text : List ℕ → List ℕ
sheet_of_text t = rounds_sheet (starts_read t) (links_read t) (λ v. member v (retained_read t)) (rounds_asked t)

-- the answer of the call: the length of the sheet, or the refusal
unfoldable pub answer_of : List ℕ → ℕ → Result ℕ Refusal
answer_of t room = answer (text_of t room) (Ok (length (sheet_of_text t))) Err

-- what the program prints for an answer: the sheet, or the line of the refusal
abbrev pub printed : Result ℕ Refusal → List ℕ → List ℕ
printed (Ok size) sheet = sheet
printed (Err x) sheet = refused_line x.number x.place
