use Rattle.std.proofs.Common.{◌≡◌, ◌<◌, ℕ, length, Some, slice_index_or}
use Rattle.elevator_model.specs.Plans.{tour_of}
use Rattle.search_model.specs.Solving.{no_turn}
use Rattle.node_search.proofs.search.push_tours.Given as goal

abbrev pub invariant-loop-car : goal.invariant-loop-car
invariant-loop-car l =
    record {
      count : length l.plan ≡ l.car;
      tours : (c : ℕ) → c < l.car → (slice_index_or l.cars c no_turn).tour ≡ Some (tour_of l.plan c);
    }
