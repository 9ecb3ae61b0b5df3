-- Document 02, card 9: the rounds that houses share, each a session's name.
use Rattle.std.specs.Prelude.{Bool, not, ◌&&◌, List, ℕ}
use Rattle.finite.specs.Count.{tabulate}
use Rattle.anchored.specs.Graph.{Graph}
use Rattle.anchored.specs.Yield.{choice_of}
use Rattle.anchored.specs.Houses.{Houses, Sharing, free_in, named, after_lines, house_choice}
use Rattle.sheet.specs.Line.{Round}
use Rattle.records.specs.Record.{plain_of}
use Rattle.records.specs.declared.Record.{Record}
use Rattle.turns.specs.Turns.{turns_by}
use Rattle.turns.specs.declared.next.Turns.{Turns}
use Rattle.rounds.specs.Rounds.{round_for}

-- whom the next line on S names: the choice of the house served
abbrev pub name_on : Graph → Houses → Sharing → ℕ
name_on G H S = named G H (house_choice G H) 0 S

-- what the first i lines leave
abbrev pub shared_after : Graph → Houses → (ℕ → ℕ) → (ℕ → Bool) → ℕ → Sharing
shared_after G H quota A i = after_lines G H (house_choice G H) quota A i

-- the rounds of the first m lines
unfoldable pub shared_rounds : Graph → Houses → (ℕ → ℕ) → (ℕ → Bool) → ℕ → List Round
shared_rounds G H quota A m = tabulate (λ i. let S = shared_after G H quota A i in round_for G S.session (name_on G H S)) m

-- card 11: the choice of house c among those of it whose search is not left out; `skip A c v` says whose is
unfoldable pub skipping_choice : Graph → Houses → ((ℕ → Bool) → ℕ → ℕ → Bool) → ℕ → (ℕ → Bool) → ℕ → ℕ
skipping_choice G H skip i A c = choice_of G A (λ v. free_in H A c v && not (skip A c v))

-- the rounds of the first m lines with those searches left out
unfoldable pub skipping_rounds : Graph → Houses → ((ℕ → Bool) → ℕ → ℕ → Bool) → (ℕ → ℕ) → (ℕ → Bool) → ℕ → List Round
skipping_rounds G H skip quota A m = tabulate (λ i.
    let pick = skipping_choice G H skip in
    let S = after_lines G H pick quota A i in
    round_for G S.session (named G H pick i S)) m

-- what the code holds between two lines
abbrev pub sharing_by : Record → Turns → Sharing
sharing_by kept t = record { session = plain_of kept; turns = turns_by t }
