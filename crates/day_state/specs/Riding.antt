-- A car on its tour with those aboard, as the code keeps it, against the definition.
use Rattle.std.specs.Prelude.{◌≡◌, ℕ, ◌<◌, List, length, slice_index, slice_get, Some}
use Rattle.elevator_model.specs.declared.Stop.{Stop}
use Rattle.elevator_model.specs.Building.{floor_count}
use Rattle.elevator_model.specs.Snapshot.{Snapshot, call_count}
use Rattle.elevator_model.specs.Tours.{Progress, start_of, after_stops}
use Rattle.search_model.specs.Advancing.{done_from, riders_at_start, riders_after_all}
use Rattle.tour_rules.specs.Walking.{Walks}
use Rattle.day_state.specs.declared.rides.Ride.{Ride}

-- The ride is where this progress is, and these are aboard, in the order in which they boarded.
pub record Rides (s : Snapshot) (c : ℕ) (ride : Ride) (p : Progress) (riders : List ℕ) : Type 0 where
  pub walks : Walks s c ride.walker p
  pub aboard : ride.riders.items ≡ riders
  pub counted : length ride.boarded_at.items ≡ call_count s
  pub boarded : (j : ℕ) → j < call_count s → slice_index ride.boarded_at.items j ≡ p.boarded_at j

-- each of these stops is at a floor of the building
abbrev pub AreFloorsOf : Snapshot → List Stop → Type 0
AreFloorsOf s stops = (k : ℕ) (stop : Stop) → slice_get stops k ≡ Some stop → stop.floor < floor_count s.building

-- the stops of the tour that the car reaches at the moment t or before
abbrev pub stops_by : Snapshot → (c t : ℕ) → List Stop → List Stop
stops_by s c t tour = done_from s c t (start_of s c) tour

-- The ride is where these stops lead from the start of the car's tour.
abbrev pub RidesAfter : Snapshot → ℕ → Ride → List Stop → Type 0
RidesAfter s c ride stops =
    Rides s c ride (after_stops s c (start_of s c) stops) (riders_after_all s (riders_at_start s c) stops)
