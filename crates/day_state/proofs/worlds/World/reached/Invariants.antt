-- The cars so far are where they are at the moment, and what happened to them stands behind the events.
use Rattle.std.proofs.Common.{◌≡◌, ℕ, ◌++◌, length, Some}
use Rattle.std.specs.List.{range_with_len, flat_map}
use Rattle.std.specs.Prelude.{slice_get}
use Rattle.search_model.specs.Advancing.{done_by, events_of_car}
use Rattle.day_state.specs.declared.rides.Reached.{Reached}
use Rattle.day_state.specs.Reaching.{IsReached}
use Rattle.day_state.proofs.worlds.World.reached.Given as goal

abbrev pub invariant-loop-car : goal.invariant-loop-car
invariant-loop-car l = record {
  count : length l.reached.items ≡ l.car;
  each : (c : ℕ) (one : Reached) → slice_get l.reached.items c ≡ Some one → IsReached l.self l.t c one;
  events : l.events.items ≡ l.fn.events.items ++ flat_map (λ c. events_of_car l.self.snapshot c (done_by l.self l.t c)) (range_with_len 0 l.car);
}
