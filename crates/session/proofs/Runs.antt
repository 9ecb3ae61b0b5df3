-- What a run that is not refused promises, that the run on a prefix of its events promises it too, and that what promises it is not
-- refused. Assumes nothing.
use mathlib.Core.Path.{◌≡◌, refl, sym, ap, ap₂, ◌∙◌}
use mathlib.Core.Logic.{inl, inr, ⊎_elim}
use mathlib.Core.Bool.{Bool, not}
use mathlib.Core.List.{List}
use Prim.Native.Nat.{ℕ, ◌≤◌}
use native.Mathlib.Omega.{arith}
use lib.ListN.{length, take, get_or}
use lib.Seq.{length-take-le, take-length}
use lib.Dec.{T, ltb, eqb}
use borrow.Author.Tests.{le-ltb, ltb-false, eq-eqb, eqb-true, not-false}
use Rattle.finite.specs.Search.{all}
use Rattle.finite.proofs.Tests.{true_of, of_true, and_l, and_r, eqb_of}
use Rattle.finite.proofs.Search.{all_i}
use Rattle.table.specs.Table.{vertices}
use Rattle.table.specs.Guard.{clear}
use Rattle.table.proofs.Guards.{both-passed, cleared}
use Rattle.table.proofs.Laws.{went_on, went_past, pass}
use Rattle.pool.proofs.Lengths.{passed, each}
use Rattle.edit.specs.Lent.{check_lent}
use Rattle.session.specs.Run.{Lists, lists, size, matched, prefix, Slices, records, numbers, sized, admit_run}
use Rattle.session.specs.Runs.{Runs, Fits}

module _ (s l given : List ℕ) (events : Lists) (fits : Bool) where
  abbrev n : ℕ
  n = vertices s

  abbrev m : ℕ
  m = size events

  abbrev high : ℕ → Bool
  high v = ltb 1 (get_or given v 0)

  -- what is not refused
  pub run_sound : admit_run s l given m (matched events) fits ≡ clear → Runs s l given events × T fits
  unfolding admit_run
  run_sound e =
      let table = both-passed (check_lent s l) _ e in
      let number = went_on (not (eqb (length given) n)) 9 0 _ table.1 in
      let matching = went_on (not (matched events)) 9 0 _ number.1 in
      let bytes = went_past 10 high n _ matching.1 in
      let few = went_on (ltb 4096 m) 11 0 _ bytes.1 in
      let lengths = each m _ (of_true (matched events) (not-false (matched events) matching.0)) in (
        record {
          table = table.0;
          long = eqb-true (length given) n (not-false (eqb (length given) n) number.0);
          bytes = λ v h. ltb-false 1 (get_or given v 0) (bytes.0 v h);
          firsts = lengths _ (inl refl);
          seconds = lengths _ (inr (inl refl));
          few = ltb-false 4096 m few.0;
        },
        (passed fits _ clear few.1).0,
      )

  -- the converse, with slices that fit
  pub run_passes : Runs s l given events → T fits → admit_run s l given m (matched events) fits ≡ clear
  unfolding admit_run
  run_passes runs lent =
      let matches = true_of (matched events) (all_i (eqb m) _ (λ k i. ⊎_elim
      (λ e. eqb_of m k (omega (arith, runs.firsts)))
      (⊎_elim (λ e. eqb_of m k (omega (arith, runs.seconds))) (λ f. absurd f)) i)) in
      cleared _ _ runs.table
      ∙ rw (eq-eqb (length given) n runs.long, matches)
      (pass 10 high n _ (λ v h. le-ltb 1 (get_or given v 0) (runs.bytes v h)) ∙ rw (le-ltb 4096 m runs.few, true_of fits lent))

-- slices that fit are of their lengths one by one
pub sized-fits : {n m : ℕ} {lent : Slices} → T (sized n m lent) → Fits n m lent
sized-fits {n} {m} {lent} t =
    let record-long = each n (records lent) (and_l (all (eqb n) (records lent)) (all (eqb m) (numbers lent)) t) in
    let number-long = each m (numbers lent) (and_r (all (eqb n) (records lent)) (all (eqb m) (numbers lent)) t) in
    record {
      anchored = record-long _ (inl refl);
      levels = record-long _ (inr (inl refl));
      layers = record-long _ (inr (inr (inl refl)));
      components = record-long _ (inr (inr (inr (inl refl))));
      yields = record-long _ (inr (inr (inr (inr (inl refl)))));
      reached = record-long _ (inr (inr (inr (inr (inr (inl refl))))));
      stamps = record-long _ (inr (inr (inr (inr (inr (inr (inl refl)))))));
      status = number-long _ (inl refl);
      lifted = number-long _ (inr (inl refl));
      redone = number-long _ (inr (inr (inl refl)));
    }

-- the first i events are so many
pub prefix-size : (events : Lists) (i : ℕ) → i ≤ size events → size (prefix i events) ≡ i
prefix-size events i h = length-take-le i events.kinds h

-- with all of them it is the whole list
pub prefix-all : {s l given : List ℕ} {events : Lists} → Runs s l given events → prefix (size events) events ≡ events
prefix-all {events = events} runs =
    let firsts : take (size events) events.firsts ≡ events.firsts = ap (λ k. take k events.firsts) (sym runs.firsts) ∙ take-length events.firsts in
    let seconds : take (size events) events.seconds ≡ events.seconds = ap (λ k. take k events.seconds) (sym runs.seconds) ∙ take-length events.seconds in
    ap₂ (λ k f. lists k f (take (size events) events.seconds)) (take-length events.kinds) firsts ∙ ap (lists events.kinds events.firsts) seconds

-- of what promises this every prefix of the events does
pub runs-prefix : {s l given : List ℕ} {events : Lists} → Runs s l given events → (i : ℕ) → i ≤ size events → Runs s l given (prefix i events)
runs-prefix {events = events} runs i h =
    let long = prefix-size events i h in
    record {
      table = runs.table;
      long = runs.long;
      bytes = runs.bytes;
      firsts = omega (arith, length-take-le i events.firsts (omega (arith, runs.firsts)));
      seconds = omega (arith, length-take-le i events.seconds (omega (arith, runs.seconds)));
      few = omega (arith, runs.few);
    }
