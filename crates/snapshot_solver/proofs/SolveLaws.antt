-- From what a search answers to what a snapshot's solution answers.
use Rattle.std.proofs.Common.{◌≡◌, ℕ, List, sym, subst, inl, inr, arith, Result, Ok, Err}
use Rattle.std.specs.Prelude.{◌⊎◌, pos, IfOk}
use Rattle.std.proofs.lemmas.Int.{ints}
use Rattle.elevator_model.specs.Snapshot.{Snapshot}
use Rattle.search_model.specs.declared.StopReason.TheVariants.{Told}
use Rattle.search_model.specs.Sums.{rounded_up}
use Rattle.search_model.specs.Prices.{scaled}
use Rattle.search_model.specs.Solving.{IsSolveAnswer, floor_of_bound, start_prices}
use Rattle.search_model.proofs.RoundLemmas.{rounded_up-same}
use Rattle.search_tree.specs.Sheets.{PriceSheet}
use Rattle.node_search.specs.declared.found.Found.{Found}
use Rattle.node_search.specs.Reasons.{HasLastState, HasReason}
use Rattle.node_search.proofs.ToldLaws.{found_untold}
use Rattle.snapshot_solver.specs.Starts.{start_sheet, start_worths}
use Rattle.snapshot_solver.specs.Reasons.{HasReasonOf}

-- whole cost units, rounded up, are the same
pub rounded_scaled : (n : ℕ) → rounded_up (scaled n) ≡ pos n
rounded_scaled n = sym (rounded_up-same (scaled n) (pos n) (record { enough = omega (arith, ints); least = λ k le. omega (arith, ints, le) }))

pub if_ok : {X E : Type 0} (P Q : X → Type 0) → ((x : X) → P x → Q x) → (r : Result X E) → IfOk r P → IfOk r Q
if_ok P Q f (Ok x) h = f x h
if_ok P Q f (Err e) h = tt

pub if_both : {X E : Type 0} (P Q R : X → Type 0) → ((x : X) → P x → Q x → R x) → (r : Result X E) → IfOk r P → IfOk r Q → IfOk r R
if_both P Q R f (Ok x) p q = f x p q
if_both P Q R f (Err e) p q = tt

-- ---- why it ended

pub start_sheet_is : (s : Snapshot) (sheet : PriceSheet) → sheet.prices ≡ start_prices s → sheet.worths ≡ start_worths s → sheet ≡ start_sheet s
start_sheet_is s sheet prices worths = λ i. record { prices = prices i; worths = worths i }

pub reason_named : (s : Snapshot) (rounds most_tours : ℕ) (sheet : PriceSheet) (f : Found) → sheet ≡ start_sheet s → HasReason s rounds most_tours sheet f
    → (f.why ≡ Told) ⊎ HasReasonOf s rounds most_tours f
reason_named s rounds most_tours sheet f same (inl solved) = inr (inl solved)
reason_named s rounds most_tours sheet f same (inr (inl state)) = inr (inr (subst (λ (x : PriceSheet). HasLastState s rounds most_tours x f) same state))
reason_named s rounds most_tours sheet f same (inr (inr told)) = inl told

-- what was not told to stop has a reason of its own
pub named_untold : (s : Snapshot) (rounds most_tours : ℕ) (f : Found) → (f.why ≡ Told) ⊎ HasReasonOf s rounds most_tours f
    → IsSolveAnswer s rounds most_tours f.stated.plan f.stated.cost f.stated.bound f.tree.twigs f.turns f.why → HasReasonOf s rounds most_tours f
named_untold s rounds most_tours f (inl told) answer =
    absurd (found_untold (start_prices s) (pos (floor_of_bound s)) s rounds most_tours f.stated.plan f.stated.cost f.stated.bound f.tree.twigs f.turns f.why
    answer told)
named_untold s rounds most_tours f (inr named) answer = named
