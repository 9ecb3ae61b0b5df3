-- Document 01, "Pools to test by": cases A to J with the reached counts of document 02, card 10, and a session of card 6, in one computed
-- test, about the definitions that the operations' contracts cite, over tables.
use Rattle.std.specs.Prelude.{◌≡◌, refl, List, [], ◌∷◌, ◌++◌, ℕ, ◌-◌, length, replicate, ℤ, pos, negsuc}
use Rattle.finite.specs.Count.{tabulate, below, count, sum}
use Rattle.finite.specs.Search.{any, all, first_from, first, largest, greatest_of, ascending}
use Rattle.finite.specs.Sets.{keep, having, rounds, grow}
use Rattle.finite.specs.Pairs.{pair_le}
use Rattle.finite.specs.Edits.{insert, remove}
use Rattle.table.specs.Table.{neighbors, bad_start, beyond, looped, unsorted, unreturned, check_of}
use Rattle.table.specs.Size.{edges_of, size_of}
use Rattle.table.specs.Guard.{refused, answer}
use Rattle.table.specs.Guard.{Guard}
use Rattle.table.specs.Guard.{clear}
use Rattle.anchored.specs.Edge.{link_count}
use Rattle.anchored.specs.Core.{batch, core, level, shell, layer, greater, higher}
use Rattle.anchored.specs.Component.{joins, around, component, together}
use Rattle.anchored.specs.Followers.{follows, followers, first_step, onward, candidates, reached, reached_count, mark}
use Rattle.anchored.specs.Yield.{bare_level, climb, net, net_yield}
use Rattle.anchored.specs.Sheet.{misplaced, too_high, too_low, too_late}
use Rattle.anchored.specs.Step.{above, same_inside, undisturbed, sees_disturbed, sees_new, moved, recomputed}
use Rattle.anchored.specs.Session.{status_of, row_of, turn}
use Rattle.anchored.specs.Events.{edge_status, event_status, event_row, event_turn, after_events}
use Rattle.pool.specs.Input.{admit_of}
use Rattle.level_sheet.specs.SheetCheck.{sheet_of, check_sheet_of}
use Rattle.marking.specs.Marking.{vertex_of, marking_of}
use Rattle.search.specs.Answers.{search_of, followers_of, marks_of}
use Rattle.edit.specs.Lent.{check_lent}
use Rattle.session.specs.Run.{Lists, lists, slices, admit_run, run_of, ended}
use Rattle.session.specs.Claim.{found_with}

-- a table: its starts and its links
record Table : Type 0 where
  starts : List ℕ
  links : List ℕ

abbrev table : List ℕ → List ℕ → Table
table starts links = record { starts = starts; links = links }

abbrev chain : Table
chain = table (0 ∷ 1 ∷ 3 ∷ 5 ∷ 6 ∷ []) (1 ∷ 0 ∷ 2 ∷ 1 ∷ 3 ∷ 2 ∷ [])

abbrev star : Table
star = table (0 ∷ 3 ∷ 4 ∷ 5 ∷ 6 ∷ []) (1 ∷ 2 ∷ 3 ∷ 0 ∷ 0 ∷ 0 ∷ [])

-- nobody of four is anchored
abbrev none : List ℕ
none = 0 ∷ 0 ∷ 0 ∷ 0 ∷ []

-- each of these vertices is to be anchored; the second numbers do not matter
abbrev anchoring : List ℕ → Lists
anchoring names = lists (replicate (length names) 0) names names

-- levels, layers, components and reached counts, and yields, at the start of a session
abbrev rows : Table → List ℕ → List (List ℕ) × List ℤ
rows t a = let start = ended t.starts t.links a (anchoring []) in (start.levels ∷ start.layers ∷ start.components ∷ start.reached ∷ [], start.yields)

-- -32,768
abbrev anchor : ℤ
anchor = negsuc 32767

-- status, lifted and redone of each event, and the stamps and reached counts at the end
abbrev session : Table → List ℕ → Lists → List (List ℕ)
session t a events = let end = ended t.starts t.links a events in end.status ∷ end.lifted ∷ end.redone ∷ end.stamps ∷ end.reached ∷ []

-- what the call refuses that is handed slices of these lengths, and the table with sevens in the places past the last start
abbrev called : Table → List ℕ → Lists → Guard
called t a events =
    let links = t.links ++ replicate (16384 - length t.links) 7 in
    let numbers = events.kinds in
    run_of a events (slices t.starts links a a a a (tabulate (λ v. pos 0) (length a)) a a numbers numbers numbers)

pub cases :
    -- A
    (rows (table (0 ∷ 0 ∷ []) []) (0 ∷ []) ≡ ((0 ∷ []) ∷ (1 ∷ []) ∷ (0 ∷ []) ∷ (0 ∷ []) ∷ [], pos 0 ∷ []))
    -- B
    × (rows (table (0 ∷ 1 ∷ 2 ∷ []) (1 ∷ 0 ∷ [])) (0 ∷ 0 ∷ []) ≡ ((1 ∷ 1 ∷ []) ∷ (1 ∷ 1 ∷ []) ∷ (0 ∷ 0 ∷ []) ∷ (0 ∷ 0 ∷ []) ∷ [], pos 0 ∷ pos 0 ∷ []))
    -- C
    × (rows chain none ≡ ((1 ∷ 1 ∷ 1 ∷ 1 ∷ []) ∷ (1 ∷ 2 ∷ 2 ∷ 1 ∷ []) ∷ (0 ∷ 0 ∷ 0 ∷ 0 ∷ []) ∷ (1 ∷ 0 ∷ 0 ∷ 1 ∷ []) ∷ [], pos 0 ∷ pos 0 ∷ pos 0 ∷ pos 0 ∷ []))
    -- D
    × (rows chain (1 ∷ 0 ∷ 0 ∷ 0 ∷ []) ≡ ((65535 ∷ 1 ∷ 1 ∷ 1 ∷ []) ∷ (0 ∷ 3 ∷ 2 ∷ 1 ∷ []) ∷ (65535 ∷ 1 ∷ 1 ∷ 1 ∷ []) ∷ (65535 ∷ 0 ∷ 1 ∷ 2 ∷ []) ∷ [], anchor ∷ pos 0 ∷ pos 1 ∷ pos 2 ∷ []))
    -- E
    × (rows chain (1 ∷ 0 ∷ 0 ∷ 1 ∷ []) ≡ ((65535 ∷ 2 ∷ 2 ∷ 65535 ∷ []) ∷ (0 ∷ 1 ∷ 1 ∷ 0 ∷ []) ∷ (65535 ∷ 1 ∷ 1 ∷ 65535 ∷ []) ∷ (65535 ∷ 0 ∷ 0 ∷ 65535 ∷ []) ∷ [], anchor ∷ negsuc 0 ∷ negsuc 0 ∷ anchor ∷ []))
    -- F
    × (rows (table (0 ∷ 2 ∷ 4 ∷ 6 ∷ 8 ∷ []) (1 ∷ 3 ∷ 0 ∷ 2 ∷ 1 ∷ 3 ∷ 0 ∷ 2 ∷ [])) none ≡ ((2 ∷ 2 ∷ 2 ∷ 2 ∷ []) ∷ (1 ∷ 1 ∷ 1 ∷ 1 ∷ []) ∷ (0 ∷ 0 ∷ 0 ∷ 0 ∷ []) ∷ (0 ∷ 0 ∷ 0 ∷ 0 ∷ []) ∷ [], pos 0 ∷ pos 0 ∷ pos 0 ∷ pos 0 ∷ []))
    -- G
    × (followers_of star.starts star.links (0 ∷ 1 ∷ 0 ∷ 0 ∷ []) (1 ∷ 65535 ∷ 1 ∷ 1 ∷ []) (2 ∷ 0 ∷ 1 ∷ 1 ∷ []) 2 4 ≡ found_with 1 1 (record { edges = 3; max_degree = 3 }))
    × (marks_of star.starts star.links (0 ∷ 1 ∷ 0 ∷ 0 ∷ []) 2 ≡ 2 ∷ 0 ∷ 0 ∷ 0 ∷ [])
    -- H
    × (rows (table (0 ∷ 3 ∷ 6 ∷ 9 ∷ 12 ∷ []) (1 ∷ 2 ∷ 3 ∷ 0 ∷ 2 ∷ 3 ∷ 0 ∷ 1 ∷ 3 ∷ 0 ∷ 1 ∷ 2 ∷ [])) none ≡ ((3 ∷ 3 ∷ 3 ∷ 3 ∷ []) ∷ (1 ∷ 1 ∷ 1 ∷ 1 ∷ []) ∷ (0 ∷ 0 ∷ 0 ∷ 0 ∷ []) ∷ (0 ∷ 0 ∷ 0 ∷ 0 ∷ []) ∷ [], pos 0 ∷ pos 0 ∷ pos 0 ∷ pos 0 ∷ []))
    -- I, and the call is not refused
    × (session chain none (anchoring (0 ∷ 0 ∷ 3 ∷ 9 ∷ [])) ≡ (0 ∷ 16 ∷ 0 ∷ 15 ∷ []) ∷ (0 ∷ 0 ∷ 2 ∷ 0 ∷ []) ∷ (2 ∷ 0 ∷ 2 ∷ 0 ∷ []) ∷ (1 ∷ 3 ∷ 3 ∷ 3 ∷ []) ∷ (65535 ∷ 0 ∷ 0 ∷ 65535 ∷ []) ∷ [])
    × (called chain none (anchoring (0 ∷ 0 ∷ 3 ∷ 9 ∷ [])) ≡ clear)
    -- J, and the defined sheet
    × (check_sheet_of chain.starts chain.links none (1 ∷ 1 ∷ 1 ∷ 1 ∷ []) (1 ∷ 2 ∷ 3 ∷ 1 ∷ []) ≡ refused 21 2)
    × (check_sheet_of chain.starts chain.links none (1 ∷ 1 ∷ 1 ∷ 1 ∷ []) (1 ∷ 2 ∷ 2 ∷ 1 ∷ []) ≡ clear)
    -- card 6: 0 anchored, an edge between 0 and 3 added, that between 1 and 2 dropped
    × (session chain none (lists (0 ∷ 1 ∷ 2 ∷ []) (0 ∷ 0 ∷ 1 ∷ []) (7 ∷ 3 ∷ 2 ∷ [])) ≡ (0 ∷ 0 ∷ 0 ∷ []) ∷ (0 ∷ 0 ∷ 0 ∷ []) ∷ (2 ∷ 3 ∷ 3 ∷ []) ∷ (1 ∷ 3 ∷ 3 ∷ 3 ∷ []) ∷ (65535 ∷ 0 ∷ 1 ∷ 0 ∷ []) ∷ [])
    -- 9 for lists not of one length comes before 10
    × (called chain (0 ∷ 2 ∷ 0 ∷ 0 ∷ []) (lists (0 ∷ []) (0 ∷ []) []) ∷ called chain (0 ∷ 2 ∷ 0 ∷ 0 ∷ []) (anchoring []) ∷ [] ≡ refused 9 0 ∷ refused 10 1 ∷ [])
unfolding answer tabulate below count sum any all first_from first largest greatest_of ascending keep having rounds grow pair_le insert remove neighbors bad_start beyond looped unsorted unreturned check_of edges_of size_of check_lent link_count batch core level shell layer greater higher joins around component together follows followers first_step onward candidates reached reached_count mark bare_level climb net net_yield misplaced too_high too_low too_late above same_inside undisturbed sees_disturbed sees_new moved recomputed status_of row_of turn edge_status event_status event_row event_turn after_events admit_of sheet_of check_sheet_of vertex_of marking_of search_of followers_of admit_run
cases = (refl, refl, refl, refl, refl, refl, refl, refl, refl, refl, refl, refl, refl, refl, refl)
