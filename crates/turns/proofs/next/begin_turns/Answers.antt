-- The quotas are copied, and zeros stand behind them. Assumes nothing.
use Rattle.std.proofs.Common.{◌≡◌, List, ℕ, ◌++◌, length, drop, get_or, refl, ap, subst}
use mathlib.Core.Path.{fun_ext}
use lib.ListN.{replicate}
use Rattle.finite.proofs.Count.{tabulate-self, copied_in}
use Rattle.turns.proofs.next.begin_turns.Goals as goal

pub returns : goal.returns
returns c =
    let quotas = c.args.quotas.now in
    let reads : List ℕ → ℕ → ℕ = λ xs e. get_or (xs ++ drop (length quotas) (replicate 16 0)) e 0 in
    ap (λ f. record { next = 0; left = f }) (fun_ext (λ e.
    rw c.copy_from_slice.ensures.after (subst (λ xs. reads xs e ≡ get_or quotas e 0) (tabulate-self quotas (length quotas) refl) (copied_in quotas 16 e))))
