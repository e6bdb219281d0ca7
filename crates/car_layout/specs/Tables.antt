-- What a layout keeps. No public clause cites this module.
use Rattle.std.specs.Prelude.{◌≡◌, ℕ, ◌<◌, Bool, List, length, slice_index}
use Rattle.call_sets.specs.Counting.{has}
use Rattle.elevator_model.specs.Snapshot.{Snapshot, car_count, state_of, may_stop_first, serves}
use Rattle.elevator_model.specs.Tours.{is_call_for}
use Rattle.car_layout.specs.Layouts.{any_group_to, persons_to, moments_to}

-- a list of sets, by floor, by call or by number of persons
pub record IsTable (size : ℕ) (test : ℕ → ℕ → Bool) (sets : List ℕ) : Type 0 where
  pub size_is : length sets ≡ size
  pub each : (k j : ℕ) → k < size → has (slice_index sets k) j ≡ test k j

-- the sets and sums of a car
pub record IsForCar (s : Snapshot) (c possible served first destinations : ℕ) (persons moments : List ℕ) : Type 0 where
  pub car : c < car_count s
  pub possible_are : (j : ℕ) → has possible j ≡ is_call_for s c j
  pub served_are : (g : ℕ) → has served g ≡ serves s.building c g
  pub first_are : (g : ℕ) → g < 64 → has first g ≡ may_stop_first s.building c s.moment (state_of s c) g
  pub destinations_are : (g : ℕ) → has destinations g ≡ any_group_to s.aboard c g
  pub persons_size : length persons ≡ 64
  pub moments_size : length moments ≡ 64
  pub persons_are : (g : ℕ) → g < 64 → slice_index persons g ≡ persons_to s.aboard c g
  pub moments_are : (g : ℕ) → g < 64 → slice_index moments g ≡ moments_to s.aboard c g
