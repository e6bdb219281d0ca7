-- Where a partial tour is, as the code keeps it, against the definition.
use Rattle.std.specs.Prelude.{◌≡◌, ℕ, ◌+◌, ◌<◌, ◌≤◌, ◌==◌, ◌&&◌, not, Bool, true, false, nat_lt, nat_le, List, [], ◌∷◌, ◌++◌, Option, Some, None, is_some}
use Rattle.std.specs.List.{list_all}
use Rattle.elevator_model.specs.declared.Stop.{Stop}
use Rattle.elevator_model.specs.declared.Move.{Move}
use Rattle.call_sets.specs.Counting.{has, any_below}
use Rattle.elevator_model.specs.Snapshot.{Snapshot, call_count, call_of, spec_of}
use Rattle.elevator_model.specs.Tours.{Progress, rider_count, persons_where, stays_on, boards_at, gets_off, is_call_for, overtakes, is_later_in_queue}
use Rattle.elevator_model.specs.Tours.{persons_of}
use Rattle.elevator_model.specs.Partial.{Course, progress_after, may_stand, may_be_left, boards_allowed, move_on}
use Rattle.partial_tours.specs.declared.points.Point.{Point}
use Rattle.tour_rules.specs.Leaving.{IsKept}
use Rattle.tour_rules.specs.Places.{Tracks}

-- where the car is with the present stop made by those who boarded there so far
abbrev pub reached : Snapshot → ℕ → Course → Progress
reached s c x = progress_after s c x.before x.present

-- the index comes after the last one
abbrev pub is_after : Option ℕ → ℕ → Bool
is_after None j = true
is_after (Some last) j = nat_lt last j

-- the calls that boarded at the present stop, as a list and as a test
abbrev pub boards_of : Option Stop → List ℕ
boards_of None = []
boards_of (Some stop) = stop.boards

abbrev pub boards_present : Snapshot → Option Stop → ℕ → Bool
boards_present s None j = false
boards_present s (Some stop) j = boards_at s stop j

-- the calls that boarded at the present stop break no rule
abbrev pub Stands : Snapshot → ℕ → Progress → Option Stop → Type 0
Stands s c before None = Unit {0}
Stands s c before (Some stop) = may_stand s c before stop ≡ true

-- a later call of the queue of call j boarded at the present stop
abbrev pub is_passed : Snapshot → Option Stop → ℕ → Bool
is_passed s present j = any_below (call_count s) (λ k. boards_present s present k && is_later_in_queue (call_of s k) (call_of s j))

-- the car may take call j, which has not boarded, nor a later one of its queue at an earlier stop
abbrev pub is_waiting : Snapshot → ℕ → Course → ℕ → Bool
is_waiting s c x j = is_call_for s c j && not ((reached s c x).boarded j) && not (overtakes s x.before j)

-- the present stop, if there is one, may be left
abbrev pub may_leave : Snapshot → ℕ → Progress → Option Stop → Bool
may_leave s c before None = true
may_leave s c before (Some stop) = may_be_left s c before stop

-- someone carried goes to floor g
abbrev pub any_goes_to : Snapshot → Progress → ℕ → Bool
any_goes_to s p g = any_below (rider_count s) (gets_off s p g)

-- what the point tells of a partial tour that goes on
pub record GoesOn (s : Snapshot) (c : ℕ) (point : Point) (x : Course) : Type 0 where
  pub started : point.place.begun ≡ is_some x.present
  pub stands : Stands s c x.before x.present
  pub last : (j : ℕ) → list_all (λ i. nat_lt i j) (boards_of x.present) ≡ is_after point.last j
  pub useful : point.useful ≡ may_leave s c x.before x.present
  pub waiting : (j : ℕ) → has point.waiting j ≡ is_waiting s c x j
  pub passed : (j : ℕ) → j < call_count s → has point.passed j ≡ is_passed s x.present j

-- the point stands for where the moves lead
pub record TracksCourse (s : Snapshot) (c : ℕ) (point : Point) (x : Course) : Type 0 where
  pub place : Tracks s c point.place (reached s c x)
  pub ended : point.ended ≡ x.ended
  pub kept : IsKept s c x.before
  pub room : point.room + persons_where s (reached s c x).carried ≡ (spec_of s c).capacity
  pub bound_for : (g : ℕ) → has point.bound_for g ≡ any_goes_to s (reached s c x) g
  pub goes_on : x.ended ≡ false → GoesOn s c point x

abbrev pub empty_stop : ℕ → Stop
empty_stop g = record { floor = g; boards = [] }

-- what a call needs to board at a stop that stands
abbrev pub board_test : Snapshot → ℕ → Progress → Stop → ℕ → Bool
board_test s c q p j =
    is_call_for s c j && not (q.boarded j) && ((call_of s j).origin == p.floor) && not (overtakes s q j)
    && nat_le (persons_where s (stays_on s q p.floor) + persons_where s (boards_at s p) + persons_of s j) (spec_of s c).capacity

-- a move that boards allowed calls only and is lawful
abbrev pub may_be_next : Snapshot → ℕ → Course → (allowed : ℕ → Bool) → Move → Bool
may_be_next s c x allowed m = boards_allowed allowed m && is_some (move_on s c x m)

-- the stop with one board more
abbrev pub with_call_on : Stop → ℕ → Stop
with_call_on stop j = record { floor = stop.floor; boards = stop.boards ++ j ∷ [] }

-- the move is lawful where the point stands
abbrev pub LeadsOn : Snapshot → ℕ → Point → Move → Type 0
LeadsOn s c point m = (x : Course) × (y : Course) × TracksCourse s c point x × (move_on s c x m ≡ Some y)

-- no way from floor f to floor g leads past or away from floor d
pub record IsOnWay (f g d : ℕ) : Type 0 where
  pub up : f < g → g ≤ d
  pub down : g < f → d ≤ g
