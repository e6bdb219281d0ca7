-- What happens to the cars so far stands behind the events.
use Rattle.std.proofs.Common.{◌≡◌, ◌++◌}
use Rattle.std.specs.List.{range_with_len, flat_map}
use Rattle.elevator_model.specs.Plans.{tour_of}
use Rattle.search_model.specs.Advancing.{events_of_car}
use Rattle.day_state.proofs.worlds.World.run_out_into.Given as goal

abbrev pub invariant-loop-car : goal.invariant-loop-car
invariant-loop-car l = l.events.items ≡ l.fn.events.items ++ flat_map (λ c. events_of_car l.self.snapshot c (tour_of l.self.plan c)) (range_with_len 0 l.car)
