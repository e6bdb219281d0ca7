-- What the test asks of a point, against the definition.
use Rattle.std.specs.Prelude.{◌≡◌, ℕ, ◌+◌, ◌<◌, ◌&&◌, not, Bool, true, false, nat_lt, if◌then◌else◌, Some, is_some}
use Rattle.std.specs.List.{list_all}
use Rattle.elevator_model.specs.declared.Stop.{Stop}
use Rattle.call_sets.specs.Counting.{has, any_below}
use Rattle.elevator_model.specs.Snapshot.{Snapshot, call_count, call_of, spec_of}
use Rattle.elevator_model.specs.Tours.{Progress, make_stop, overtakes, is_call_for, is_later_in_queue, persons_where}
use Rattle.elevator_model.specs.Partial.{Course, may_stand, may_be_left}
use Rattle.search_model.specs.Extending.{any_above, any_under, is_passed_at, none_left, none_skipped, all_fit}
use Rattle.partial_tours.specs.Courses.{is_after, any_goes_to}
use Rattle.partial_tours.specs.declared.points.Point.{Point}
use Rattle.tour_extension.specs.declared.sides.Sides.{Sides}

-- the point is that of a car at this stop, made after q with those who boarded there so far
pub record IsAtStop (s : Snapshot) (c : ℕ) (point : Point) (q : Progress) (stop : Stop) : Type 0 where
  pub stands : may_stand s c q stop ≡ true
  pub floor : point.place.floor ≡ stop.floor
  pub useful : point.useful ≡ may_be_left s c q stop
  pub last : (j : ℕ) → list_all (λ i. nat_lt i j) stop.boards ≡ is_after point.last j
  pub room : point.room + persons_where s (make_stop s c q stop).carried ≡ (spec_of s c).capacity
  pub boarded : (j : ℕ) → j < call_count s → has point.place.boarded j ≡ (make_stop s c q stop).boarded j
  pub waiting : (j : ℕ) → has point.waiting j ≡ (is_call_for s c j && not ((make_stop s c q stop).boarded j) && not (overtakes s q j))
  pub passed : (j : ℕ) → j < call_count s → has point.passed j ≡ is_passed_at s stop j
  pub bound_for : (g : ℕ) → has point.bound_for g ≡ any_goes_to s (make_stop s c q stop) g

-- the point is that of a car where the moves lead
pub record StandsFor (s : Snapshot) (c : ℕ) (point : Point) (x : Course) : Type 0 where
  pub ended : point.ended ≡ x.ended
  pub begun : x.ended ≡ false → point.place.begun ≡ is_some x.present
  pub at_end : x.ended ≡ true → (j : ℕ) → j < call_count s → has point.place.boarded j ≡ x.before.boarded j
  pub at_stop : (stop : Stop) → x.ended ≡ false → x.present ≡ Some stop → IsAtStop s c point x.before stop

-- whether someone carried goes above the car, and below it
pub record AreSides (s : Snapshot) (p : Progress) (sides : Sides) : Type 0 where
  pub above : sides.above ≡ any_above s p
  pub below : sides.below ≡ any_under s p

-- the missing calls can board: none was left behind, and those that have to board at the stop can do so there
abbrev pub missing_can_board : Snapshot → ℕ → (required : ℕ → Bool) → Progress → Stop → Bool
missing_can_board s c required q stop =
    let p = make_stop s c q stop in
    none_left s required q p && none_skipped s required p stop && all_fit s c required p stop

-- no member of the set is an earlier call of the queue of call j
abbrev pub passes_none : Snapshot → (missing : ℕ) → ℕ → Bool
passes_none s missing j = not (any_below (call_count s) (λ i. has missing i && is_later_in_queue (call_of s j) (call_of s i)))

-- a call from floor f that goes to floor g goes the way of all that are carried
abbrev pub goes_with : Sides → (f g : ℕ) → Bool
goes_with sides f g = if nat_lt f g then not sides.below else not sides.above

-- what the call has to be beside a call that may board
abbrev pub keeps_queue_and_way : Snapshot → (missing : ℕ) → Sides → (f j : ℕ) → Bool
keeps_queue_and_way s missing sides f j = passes_none s missing j && goes_with sides f (call_of s j).destination
