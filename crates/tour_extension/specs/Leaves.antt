-- Leaves to floors where nothing can happen, and the moves that are left without them.
use Rattle.std.specs.Prelude.{ℕ, Bool, false, ◌&&◌, not}
use Rattle.call_sets.specs.Counting.{any_below}
use Rattle.car_layout.specs.Layouts.{starts_at}
use Rattle.elevator_model.specs.declared.Move.{Move}
use Rattle.elevator_model.specs.declared.Move.TheVariants.{Board, Leave, End}
use Rattle.elevator_model.specs.Snapshot.{Snapshot, call_count}
use Rattle.elevator_model.specs.Tours.{overtakes}
use Rattle.elevator_model.specs.Partial.{Course}
use Rattle.partial_tours.specs.declared.following.Followers.{Followers}
use Rattle.partial_tours.specs.Courses.{reached, any_goes_to, may_be_next}
use Rattle.partial_tours.specs.Followers.{ArePassing}

-- an allowed call starts at floor g and has not boarded, nor has a later one of its queue
abbrev pub may_board_at : Snapshot → ℕ → Course → (allowed : ℕ → Bool) → (g j : ℕ) → Bool
may_board_at s c x allowed g j = allowed j && starts_at s g j && not ((reached s c x).boarded j) && not (overtakes s (reached s c x) j)

-- the car has stopped, nobody carried goes to floor g, and no allowed call can board there
abbrev pub is_for_nobody : Snapshot → ℕ → Course → (allowed : ℕ → Bool) → (g : ℕ) → Bool
is_for_nobody s c x allowed g = (reached s c x).begun && not (any_goes_to s (reached s c x) g) && not (any_below (call_count s) (may_board_at s c x allowed g))

-- a leave to such a floor
abbrev pub is_useless : Snapshot → ℕ → Course → (allowed : ℕ → Bool) → Move → Bool
is_useless s c x allowed (Board j) = false
is_useless s c x allowed (Leave g) = is_for_nobody s c x allowed g
is_useless s c x allowed End = false

-- a move that may come next and is none of these leaves
abbrev pub is_useful : Snapshot → ℕ → Course → (allowed : ℕ → Bool) → Move → Bool
is_useful s c x allowed m = may_be_next s c x allowed m && not (is_useless s c x allowed m)

-- They are the moves that may follow, without the useless leaves.
abbrev pub AreUseful : Snapshot → ℕ → Course → (allowed : ℕ → Bool) → Followers → Type 0
AreUseful s c x allowed next = ArePassing s (is_useful s c x allowed) next
