-- The definitions compute: document 01's listing, texts that are refused later, and a text for each way to depart. Assumes nothing.
use Rattle.std.specs.Prelude.{◌≡◌, refl, ℕ, Some, None, Result, Ok, Err}
use mathlib.Core.List.{List, [], ◌∷◌, flatten}
use Prim.Native.String.{String}
use Rattle.finite.specs.Bytes.{bytes, decimal_from, decimal}
use Rattle.finite.specs.Count.{tabulate, below}
use Rattle.finite.specs.Search.{all, ascending}
use Rattle.reader.specs.Number.{digits, number_of}
use Rattle.reader.specs.Form.{begins, form_at}
use Rattle.lines.specs.List.{list_from, list_at}
use Rattle.lines.specs.Line.{rider_at, retained_at}
use Rattle.text.specs.Text.{rider_lines_from, starts_from, rest_of, reading_of, rider_lines_read, retained_line_read, starts_read, links_read, retained_read}
use Rattle.text.specs.declared.read.Summary.{Summary}
use Rattle.text.specs.Spelling.{spelled_list, riders_line, rider_line, retained_line, rounds_line, rider_lines, Content, lines_of, spell}

-- what a text says, with the arrays that it fills
record Said : Type 0 where
  reading : Result Summary ℕ
  starts : List ℕ
  links : List ℕ
  retained : List ℕ

abbrev said : List ℕ → Said
said t = record { reading = reading_of t; starts = starts_read t; links = links_read t; retained = retained_read t }

abbrev read : String → Result Summary ℕ
read t = reading_of (bytes t)

-- document 01's listing, and what it says
abbrev listing : String
listing = "(riders 4)\n(rider 0 (with 1))\n(rider 1 (with 0 2))\n(rider 2 (with 1 3))\n(rider 3 (with 2))\n(retained)\n(rounds 2)\n"

abbrev chain : Content
chain = record { lists = (1 ∷ []) ∷ (0 ∷ 2 ∷ []) ∷ (1 ∷ 3 ∷ []) ∷ (2 ∷ []) ∷ []; retained = []; rounds = 2 }

-- Read whole: the listing, which the chain spells; a retained number of n or more, a link of n or more and the largest numbers, refused later; no riders.
-- Line 1 departs: nothing there, no byte 10, a leading zero, two spaces, byte 13, above 65,535. A missing line has the number it would have had,
-- and anything behind the last line is line n + 4. Then: the retained in order, riders' lines in order and one each, lists with single spaces.
answers :
    (spell chain ≡ bytes listing)
    × (said (bytes listing)
    ≡ record { reading = Ok (record { riders = 4; links = 6; beyond = None; rounds = 2 }); starts = 0 ∷ 1 ∷ 3 ∷ 5 ∷ 6 ∷ []; links = 1 ∷ 0 ∷ 2 ∷ 1 ∷ 3 ∷ 2 ∷ []; retained = [] })
    × (said (bytes "(riders 1)\n(rider 0 (with 65535))\n(retained 0 7 65535)\n(rounds 65535)\n")
    ≡ record { reading = Ok (record { riders = 1; links = 1; beyond = Some 7; rounds = 65535 }); starts = 0 ∷ 1 ∷ []; links = 65535 ∷ []; retained = 0 ∷ 7 ∷ 65535 ∷ [] })
    × (said (bytes "(riders 2)\n(rider 0 (with 1))\n(rider 1 (with 0 01))\n") ≡ record { reading = Err 3; starts = 0 ∷ 1 ∷ []; links = 1 ∷ 0 ∷ []; retained = [] })
    × ◌≡◌ {A = List (Result Summary ℕ)}
    (read "(riders 0)\n(retained)\n(rounds 0)\n"
    ∷ read ""
    ∷ read "(riders 0)"
    ∷ read "(riders 00)\n(retained)\n(rounds 0)\n"
    ∷ read "(riders  0)\n(retained)\n(rounds 0)\n"
    ∷ read "(riders 0)\r\n(retained)\r\n(rounds 0)\r\n"
    ∷ read "(riders 65536)\n(retained)\n(rounds 0)\n"
    ∷ read "(riders 0)\n"
    ∷ read "(riders 0)\n(retained)\n(rounds 0)"
    ∷ read "(riders 0)\n(retained)\n(rounds 0)\n\n"
    ∷ read "(riders 0)\n(retained)\n(rounds 0)\nx"
    ∷ read "(riders 0)\n(retained 3 3)\n(rounds 0)\n"
    ∷ read "(riders 0)\n(retained 3 2)\n(rounds 0)\n"
    ∷ read "(riders 0)\n(retained )\n(rounds 0)\n"
    ∷ read "(riders 0)\n(rider 0 (with))\n(retained)\n(rounds 0)\n"
    ∷ read "(riders 2)\n(rider 0 (with 1))\n(retained)\n(rounds 0)\n"
    ∷ read "(riders 2)\n(rider 0 (with 1))\n(rider 2 (with))\n(retained)\n(rounds 0)\n"
    ∷ read "(riders 2)\n(rider 0 (with 01))\n(rider 1 (with))\n(retained)\n(rounds 0)\n"
    ∷ read "(riders 1)\n(rider 0 (with 65536))\n(retained)\n(rounds 0)\n"
    ∷ read "(riders 1)\n(rider 0 (with 70000000000000))\n(retained)\n(rounds 0)\n"
    ∷ read "(riders 1)\n(rider 0 (with  1))\n(retained)\n(rounds 0)\n"
    ∷ read "(riders 1)\n(rider 0 (with 1 ))\n(retained)\n(rounds 0)\n"
    ∷ read "(riders 1)\n(rider 0 (with 1)\n(retained)\n(rounds 0)\n"
    ∷ [])
    (Ok (record { riders = 0; links = 0; beyond = None; rounds = 0 })
    ∷ Err 1
    ∷ Err 1
    ∷ Err 1
    ∷ Err 1
    ∷ Err 1
    ∷ Err 1
    ∷ Err 2
    ∷ Err 3
    ∷ Err 4
    ∷ Err 4
    ∷ Err 2
    ∷ Err 2
    ∷ Err 2
    ∷ Err 2
    ∷ Err 3
    ∷ Err 3
    ∷ Err 2
    ∷ Err 2
    ∷ Err 2
    ∷ Err 2
    ∷ Err 2
    ∷ Err 2
    ∷ [])
unfolding reading_of rest_of rider_lines_read retained_line_read rider_lines_from starts_from rider_at retained_at list_at list_from form_at begins number_of digits flatten ascending all below tabulate spell lines_of rider_lines riders_line rider_line retained_line rounds_line spelled_list decimal decimal_from
answers = (refl, refl, refl, refl, refl)
