-- The set has the calls that boarded the cars so far.
use Rattle.std.proofs.Common.{◌≡◌, ℕ, ◌||◌, drop}
use Rattle.std.specs.List.{list_any}
use Rattle.call_sets.specs.Counting.{has}
use Rattle.day_state.specs.Reaching.{has_boarded}
use Rattle.day_state.proofs.remaining.boarded_calls.Given as goal

abbrev pub invariant-loop-one : goal.invariant-loop-one
invariant-loop-one l = (j : ℕ)
    → (has l.boarded j || list_any (λ one. has_boarded one j) (drop l.one-index l.reached)) ≡ list_any (λ one. has_boarded one j) l.reached
