-- How far each car of a world is at a moment, as the code keeps it, against the definition.
use Rattle.std.specs.Prelude.{◌≡◌, ℕ, Bool, ◌<◌, ◌≤◌, List, map, length, slice_get, Some}
use Rattle.call_sets.specs.Counting.{has}
use Rattle.elevator_model.specs.declared.Stop.{Stop}
use Rattle.elevator_model.specs.Building.{floor_count}
use Rattle.elevator_model.specs.Snapshot.{car_count}
use Rattle.elevator_model.specs.Plans.{tour_of}
use Rattle.search_model.specs.Advancing.{World, done_by, progress_at, riders_after_all, riders_at_start}
use Rattle.day_state.specs.declared.rides.Reached.{Reached}
use Rattle.day_state.specs.Riding.{Rides}

-- The car has done this many stops by the moment t, and is where they lead.
pub record IsReached (w : World) (t c : ℕ) (reached : Reached) : Type 0 where
  pub done : reached.done ≡ length (done_by w t c)
  pub within : reached.done ≤ length (tour_of w.plan c)
  pub ride : Rides w.snapshot c reached.ride (progress_at w t c) (riders_after_all w.snapshot (riders_at_start w.snapshot c) (done_by w t c))
  pub floor : reached.ride.walker.place.floor < floor_count w.snapshot.building
  pub early : reached.ride.walker.leaves ≤ 100000000000

-- So it is for each car.
pub record AreReached (w : World) (t : ℕ) (reached : List Reached) : Type 0 where
  pub count : length reached ≡ car_count w.snapshot
  pub each : (c : ℕ) (one : Reached) → slice_get reached c ≡ Some one → IsReached w t c one

-- each car has done no more stops than its tour has
abbrev pub AreWithin : List (List Stop) → List Reached → Type 0
AreWithin plan reached = (c : ℕ) (one : Reached) → slice_get reached c ≡ Some one → one.done ≤ length (tour_of plan c)

-- the stop, where each call has the index that the function gives
abbrev pub renamed_stop : (ℕ → ℕ) → Stop → Stop
renamed_stop index stop = record { floor = stop.floor; boards = map index stop.boards }

-- a call has boarded the car
abbrev pub has_boarded : Reached → ℕ → Bool
has_boarded reached j = has reached.ride.walker.place.boarded j
