use Rattle.std.proofs.Common.{◌≡◌, ◌<◌, ℕ, false, get_or}
use Rattle.search_model.specs.Solving.{no_turn}
use Rattle.root_prices.proofs.reasons.spent_in.Given as goal

abbrev pub invariant-loop-car : goal.invariant-loop-car
invariant-loop-car l = record { none : (k : ℕ) → k < l.car → (get_or l.turn.cars k no_turn).priced.spent ≡ false }
