-- Snapshots: where each car is, who is aboard, which calls are open.
use Rattle.std.specs.Prelude.{◌≡◌, ℕ, ◌+◌, ◌-◌, ◌≤◌, ◌<◌, ◌==◌, ◌&&◌, ◌||◌, not, List, length, Bool, true, false, nat_le, nat_lt, IsTrue, slice_index}
use Rattle.std.specs.Prelude.{slice_index_or, if◌then◌else◌, Option, Some, None}
use Rattle.elevator_model.specs.declared.CarSpec.{CarSpec}
use Rattle.elevator_model.specs.declared.CarState.{CarState}
use Rattle.elevator_model.specs.declared.CarState.TheVariants.{Idle, Coming, Moving}
use Rattle.elevator_model.specs.declared.Aboard.{Aboard}
use Rattle.elevator_model.specs.declared.Call.{Call}
use Rattle.call_sets.specs.Counting.{has, any_below, sum_where}
use Rattle.elevator_model.specs.Travel.{can_stop, difference, time_between}
use Rattle.elevator_model.specs.Building.{Building, IsBuilding, floor_count, car_of, most_calls}

pub record Snapshot : Type 0 where
  pub version : ℕ
  pub building : Building
  -- the moment that the snapshot shows
  pub moment : ℕ
  -- one per car
  pub states : List CarState
  pub aboard : List Aboard
  pub calls : List Call

abbrev pub no_state : CarState
no_state = Idle 0 0

abbrev pub no_group : Aboard
no_group = record { id = 0; car = 0; destination = 0; persons = 0; boarded = 0 }

abbrev pub no_call : Call
no_call = record { id = 0; origin = 0; destination = 0; persons = 0; released = 0; pin = None }

abbrev pub car_count : Snapshot → ℕ
car_count s = length s.building.cars

abbrev pub call_count : Snapshot → ℕ
call_count s = length s.calls

abbrev pub spec_of : Snapshot → ℕ → CarSpec
spec_of s c = car_of s.building c

abbrev pub state_of : Snapshot → ℕ → CarState
state_of s c = slice_index_or s.states c no_state

abbrev pub group_of : Snapshot → ℕ → Aboard
group_of s k = slice_index_or s.aboard k no_group

abbrev pub call_of : Snapshot → ℕ → Call
call_of s j = slice_index_or s.calls j no_call

-- the floor where the car stands, comes to or left
abbrev pub floor_of : CarState → ℕ
floor_of (Idle floor free) = floor
floor_of (Coming floor arrives) = floor
floor_of (Moving from up left) = from

-- the moment from which the car's tour is timed: it may leave, arrives or left
abbrev pub moment_of : CarState → ℕ
moment_of (Idle floor free) = free
moment_of (Coming floor arrives) = arrives
moment_of (Moving from up left) = left

abbrev pub is_coming : CarState → Bool
is_coming (Idle floor free) = false
is_coming (Coming floor arrives) = true
is_coming (Moving from up left) = false

abbrev pub is_idle : CarState → Bool
is_idle (Idle floor free) = true
is_idle (Coming floor arrives) = false
is_idle (Moving from up left) = false

abbrev pub is_moving : CarState → Bool
is_moving (Idle floor free) = false
is_moving (Coming floor arrives) = false
is_moving (Moving from up left) = true

-- the car serves this floor of the building
abbrev pub serves : Building → ℕ → ℕ → Bool
serves b c f = nat_lt f (floor_count b) && has (car_of b c).serves f

-- Where a moving car can still stop first, at the moment t: a served floor ahead of it, far enough to
-- brake, that it would not have reached yet.
abbrev pub is_open : Building → ℕ → ℕ → CarState → ℕ → Bool
is_open b c t (Idle floor free) g = false
is_open b c t (Coming floor arrives) g = false
is_open b c t (Moving from up left) g =
    serves b c g && (if up then nat_lt from g else nat_lt g from)
    && can_stop b.speed b.accel (t - left) (difference (slice_index b.heights from) (slice_index b.heights g))
    && nat_le t (left + time_between b.travel from g)

-- the car may make its first stop here
abbrev pub may_stop_first : Building → ℕ → ℕ → CarState → ℕ → Bool
may_stop_first b c t (Idle floor free) g = true
may_stop_first b c t (Coming floor arrives) g = g == floor
may_stop_first b c t (Moving from up left) g = is_open b c t (Moving from up left) g

-- the car's size and floors allow the call
abbrev pub can_take : Building → ℕ → Call → Bool
can_take b c call = nat_le call.persons (car_of b c).capacity && serves b c call.origin && serves b c call.destination

abbrev pub is_pinned_elsewhere : Option ℕ → ℕ → Bool
is_pinned_elsewhere None c = false
is_pinned_elsewhere (Some p) c = not (p == c)

-- the car is one of the call's possible cars: its pin alone, or all that can take it
abbrev pub is_possible : Snapshot → ℕ → Call → Bool
is_possible s c call = not (is_pinned_elsewhere call.pin c) && can_take s.building c call

-- the persons aboard the car
abbrev pub persons_aboard : Snapshot → ℕ → ℕ
persons_aboard s c = sum_where (length s.aboard) (λ k. (group_of s k).car == c) (λ k. (group_of s k).persons)

-- The car can deliver its passengers without a turn: standing, all go to one side of its floor; coming,
-- all but those for that floor do; moving, each destination is open.
abbrev pub AreOnOneSide : Snapshot → ℕ → CarState → Type 0
AreOnOneSide s c (Idle floor free) =
    (k m : ℕ) → k < length s.aboard → m < length s.aboard → (group_of s k).car ≡ c → (group_of s m).car ≡ c
    → IsTrue ((nat_lt (group_of s k).destination floor && nat_lt (group_of s m).destination floor)
    || (nat_lt floor (group_of s k).destination && nat_lt floor (group_of s m).destination))
AreOnOneSide s c (Coming floor arrives) =
    (k m : ℕ) → k < length s.aboard → m < length s.aboard → (group_of s k).car ≡ c → (group_of s m).car ≡ c
    → IsTrue ((nat_le (group_of s k).destination floor && nat_le (group_of s m).destination floor)
    || (nat_le floor (group_of s k).destination && nat_le floor (group_of s m).destination))
AreOnOneSide s c (Moving from up left) =
    (k : ℕ) → k < length s.aboard → (group_of s k).car ≡ c → IsTrue (is_open s.building c s.moment (Moving from up left) (group_of s k).destination)

-- the moments of a car's state fit the snapshot's
abbrev pub IsTimely : Snapshot → ℕ → CarState → Type 0
IsTimely s c (Idle floor free) = (s.moment ≤ free) × (free ≤ s.moment + 100000000)
IsTimely s c (Coming floor arrives) = (s.moment ≤ arrives) × (arrives ≤ s.moment + 100000000)
IsTimely s c (Moving from up left) =
    (left ≤ s.moment) × IsTrue (any_below (floor_count s.building) (is_open s.building c s.moment (Moving from up left)))

abbrev pub IsUnmoving : CarState → Type 0
IsUnmoving (Idle floor free) = Unit {0}
IsUnmoving (Coming floor arrives) = Unit {0}
IsUnmoving (Moving from up left) = ⊥

pub record IsCarPlaced (s : Snapshot) (c : ℕ) : Type 0 where
  pub served : IsTrue (serves s.building c (floor_of (state_of s c)))
  pub timely : IsTimely s c (state_of s c)
  pub capacity : persons_aboard s c ≤ (spec_of s c).capacity
  pub one_side : AreOnOneSide s c (state_of s c)

pub record IsGroupAccepted (s : Snapshot) (group : Aboard) : Type 0 where
  pub car : group.car < car_count s
  pub persons_low : 1 ≤ group.persons
  pub persons_high : group.persons ≤ 8
  pub served : IsTrue (serves s.building group.car group.destination)
  pub boarded : group.boarded ≤ s.moment + (spec_of s group.car).opening

pub record IsCallAccepted (s : Snapshot) (call : Call) : Type 0 where
  pub persons_low : 1 ≤ call.persons
  pub persons_high : call.persons ≤ 8
  pub origin : call.origin < floor_count s.building
  pub destination : call.destination < floor_count s.building
  pub travels : call.origin ≡ call.destination → ⊥
  pub released : call.released ≤ s.moment
  pub possible : IsTrue (any_below (car_count s) (λ c. is_possible s c call))

-- A snapshot is accepted where all of this holds.
pub record IsAccepted (s : Snapshot) : Type 0 where
  pub building : IsBuilding s.building
  pub version_low : 1 ≤ s.version
  pub version_high : s.version ≤ 2
  pub moment : s.moment ≤ 1000000000
  pub states : length s.states ≡ car_count s
  pub placed : (c : ℕ) → c < car_count s → IsCarPlaced s c
  pub unmoving : s.version ≡ 1 → (c : ℕ) → c < car_count s → IsUnmoving (state_of s c)
  pub groups : (k : ℕ) → k < length s.aboard → IsGroupAccepted s (group_of s k)
  pub calls_high : call_count s ≤ most_calls s.building.version
  pub calls : (j : ℕ) → j < call_count s → IsCallAccepted s (call_of s j)
  pub ids : (j k : ℕ) → j < k → k < call_count s → (call_of s j).id ≡ (call_of s k).id → ⊥
  pub group_ids : (j k : ℕ) → j < k → k < length s.aboard → (group_of s j).id ≡ (group_of s k).id → ⊥
  pub ids_apart : (j k : ℕ) → j < call_count s → k < length s.aboard → (call_of s j).id ≡ (group_of s k).id → ⊥
