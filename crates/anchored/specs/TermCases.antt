-- Document 02, card 8: terms on a chain of four vertices, in one computed test.
use Rattle.std.specs.Prelude.{◌≡◌, refl, List, [], ◌∷◌, ℕ}
use Rattle.finite.specs.Count.{bit, tabulate, below, count}
use Rattle.finite.specs.Search.{any, first_from, largest}
use Rattle.finite.specs.Sets.{keep, rounds}
use Rattle.anchored.specs.Core.{batch, core, level}
use Rattle.anchored.specs.Terms.{Terms, terms, next_end, anchored_on, changes_on, under, first_under, first_under_on}
use Rattle.anchored.specs.Cases.{chain}

-- vertex 0 from day 2 up to 5, vertex 3 from day 4 up to 9
abbrev both : Terms
both = terms (0 ∷ 3 ∷ []) (2 ∷ 4 ∷ []) (5 ∷ 9 ∷ [])

-- vertex 1 three times: the second term meets the first, the third overlaps the second
abbrev renewed : Terms
renewed = terms (1 ∷ 1 ∷ 1 ∷ []) (2 ∷ 5 ∷ 6 ∷ []) (5 ∷ 7 ∷ 8 ∷ [])

-- days from 0 up to 9 on which v is anchored
abbrev days : Terms → ℕ → List ℕ
days t v = tabulate (λ day. bit (anchored_on t day v)) 10

pub term-cases :
    -- a term runs on its first day, and not on its end day; terms that meet or overlap leave no gap
    (days both 0 ∷ days both 3 ∷ days both 1 ∷ days renewed 1 ∷ [] ≡ (0 ∷ 0 ∷ 1 ∷ 1 ∷ 1 ∷ 0 ∷ 0 ∷ 0 ∷ 0 ∷ 0 ∷ []) ∷ (0 ∷ 0 ∷ 0 ∷ 0 ∷ 1 ∷ 1 ∷ 1 ∷ 1 ∷ 1 ∷ 0 ∷ [])
    ∷ (0 ∷ 0 ∷ 0 ∷ 0 ∷ 0 ∷ 0 ∷ 0 ∷ 0 ∷ 0 ∷ 0 ∷ []) ∷ (0 ∷ 0 ∷ 1 ∷ 1 ∷ 1 ∷ 1 ∷ 1 ∷ 1 ∷ 0 ∷ 0 ∷ []) ∷ [])
    -- days on which some term starts or ends, and the next one on which one ends
    × (tabulate (λ day. bit (changes_on both day)) 10 ≡ 0 ∷ 0 ∷ 1 ∷ 0 ∷ 1 ∷ 1 ∷ 0 ∷ 0 ∷ 0 ∷ 1 ∷ [])
    × (next_end (5 ∷ 9 ∷ []) 0 20 ∷ next_end (5 ∷ 9 ∷ []) 4 20 ∷ next_end (5 ∷ 9 ∷ []) 5 20 ∷ next_end (9 ∷ 5 ∷ []) 4 20 ∷ next_end (5 ∷ 9 ∷ []) 5 8 ∷ next_end (5 ∷ 9 ∷ []) 9 20 ∷ [] ≡ 5 ∷ 5 ∷ 9 ∷ 5 ∷ 8 ∷ 20 ∷ [])
    -- both ends of the chain are anchored on day 4 alone: 1 has level 2 then, and level 1 on every other day
    × (first_under both chain 1 2 0 10 ∷ first_under both chain 1 2 4 5 ∷ first_under both chain 1 2 4 6 ∷ first_under both chain 1 1 0 10 ∷ [] ≡ 0 ∷ 5 ∷ 5 ∷ 10 ∷ [])
    -- an anchored vertex is under no k; a span with no days, and one whose end is before its first day
    × (first_under renewed chain 1 60000 2 10 ∷ first_under renewed chain 0 9 3 3 ∷ first_under renewed chain 0 9 5 3 ∷ [] ≡ 8 ∷ 3 ∷ 5 ∷ [])
    -- the same over the days on which some term starts or ends
    × (first_under_on both chain 1 2 (changes_on both) 0 10 ∷ first_under_on both chain 1 2 (changes_on both) 4 6 ∷ first_under_on renewed chain 1 60000 (changes_on renewed) 2 10 ∷ [] ≡ 0 ∷ 5 ∷ 8 ∷ [])
unfolding tabulate below count any first_from largest keep rounds batch core level next_end anchored_on under first_under first_under_on
term-cases = (refl, refl, refl, refl, refl, refl)
