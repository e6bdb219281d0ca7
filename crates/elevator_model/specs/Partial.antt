-- Partial tours: the beginning of a tour, as a list of moves.
use Rattle.std.specs.Prelude.{ℕ, ◌&&◌, List, [], ◌∷◌, ◌++◌, map, flat_map, Bool, true, false, nat_lt, IsSome, is_some, is_none, filter, if◌then◌else◌, Option}
use Rattle.std.specs.Prelude.{Some, None}
use Rattle.std.specs.List.{list_all, range_with_len}
use Rattle.elevator_model.specs.declared.Stop.{Stop}
use Rattle.elevator_model.specs.declared.Move.{Move}
use Rattle.elevator_model.specs.declared.Move.TheVariants.{Board, Leave, End}
use Rattle.call_sets.specs.Counting.{is_among}
use Rattle.elevator_model.specs.Building.{floor_count}
use Rattle.elevator_model.specs.Snapshot.{Snapshot, call_count}
use Rattle.elevator_model.specs.Costs.{settled_cost}
use Rattle.elevator_model.specs.Tours.{Progress, start_of, make_stop, breaks, first_rule, rules_but_useless, broken_at, broken_at_end, none_taken}

-- Where a partial tour is: the stops that were left, the stop begun with the calls that boarded there so
-- far, and whether the tour has ended.
pub record Course : Type 0 where
  pub left : List Stop
  pub before : Progress
  pub present : Option Stop
  pub ended : Bool

abbrev pub course_start : Snapshot → ℕ → Course
course_start s c = record { left = []; before = start_of s c; present = None; ended = false }

-- the calls that boarded so far break no rule, and more may board
abbrev pub may_stand : Snapshot → ℕ → Progress → Stop → Bool
may_stand s c p stop = is_none (first_rule (breaks s c none_taken p stop) rules_but_useless)

-- the stop breaks no rule
abbrev pub may_be_left : Snapshot → ℕ → Progress → Stop → Bool
may_be_left s c p stop = is_none (broken_at s c none_taken p stop)

abbrev pub may_end : Snapshot → ℕ → Progress → Bool
may_end s c p = is_none (broken_at_end s c p)

abbrev pub course_if : Bool → Course → Option Course
course_if true x = Some x
course_if false x = None

-- The car goes to a stop at floor g.
abbrev pub go_on : Snapshot → ℕ → Course → Option Stop → ℕ → Option Course
go_on s c x None g =
    course_if (may_stand s c x.before (record { floor = g; boards = [] }))
    (record { left = x.left; before = x.before; present = Some (record { floor = g; boards = [] }); ended = false })
go_on s c x (Some p) g =
    let after = make_stop s c x.before p in
    course_if (may_be_left s c x.before p && may_stand s c after (record { floor = g; boards = [] }))
    (record { left = x.left ++ p ∷ []; before = after; present = Some (record { floor = g; boards = [] }); ended = false })

-- A call boards at the present stop; calls board by rising index.
abbrev pub board_on : Snapshot → ℕ → Course → Option Stop → ℕ → Option Course
board_on s c x None j = None
board_on s c x (Some p) j =
    let stop : Stop = record { floor = p.floor; boards = p.boards ++ j ∷ [] } in
    course_if (list_all (λ i. nat_lt i j) p.boards && may_stand s c x.before stop)
    (record { left = x.left; before = x.before; present = Some stop; ended = false })

-- The tour ends.
abbrev pub end_on : Snapshot → ℕ → Course → Option Stop → Option Course
end_on s c x None = course_if (may_end s c x.before) (record { left = x.left; before = x.before; present = None; ended = true })
end_on s c x (Some p) =
    let after = make_stop s c x.before p in
    course_if (may_be_left s c x.before p && may_end s c after) (record { left = x.left ++ p ∷ []; before = after; present = None; ended = true })

-- One more move, where it is lawful; nothing comes after the end.
abbrev pub move_on : Snapshot → ℕ → Course → Move → Option Course
move_on s c x (Board j) = if x.ended then None else board_on s c x x.present j
move_on s c x (Leave g) = if x.ended then None else go_on s c x x.present g
move_on s c x End = if x.ended then None else end_on s c x x.present

abbrev pub move_on_from : Snapshot → ℕ → Option Course → Move → Option Course
move_on_from s c None m = None
move_on_from s c (Some x) m = move_on s c x m

abbrev pub moves_on : Snapshot → ℕ → Option Course → List Move → Option Course
moves_on s c x [] = x
moves_on s c x (m ∷ ms) = moves_on s c (move_on_from s c x m) ms

-- Where the moves lead, and nothing where they are not lawful.
abbrev pub course_of : Snapshot → ℕ → List Move → Option Course
course_of s c moves = moves_on s c (Some (course_start s c)) moves

-- Where the car is with the present stop made by the calls that boarded there so far.
abbrev pub progress_after : Snapshot → ℕ → Progress → Option Stop → Progress
progress_after s c before None = before
progress_after s c before (Some stop) = make_stop s c before stop

-- the cost of those who got off within the partial tour
abbrev pub settled_of : Snapshot → ℕ → Course → ℕ
settled_of s c x = settled_cost s c (progress_after s c x.before x.present)

abbrev pub opened_of : Progress → Option ℕ
opened_of p = if p.begun then Some p.opened else None

-- the moment at which the doors of the last stop are open, and nothing where no stop has begun
abbrev pub moment_in : Snapshot → ℕ → Course → Option ℕ
moment_in s c x = opened_of (progress_after s c x.before x.present)

abbrev pub IsLawful : Snapshot → ℕ → List Move → Type 0
IsLawful s c moves = IsSome (course_of s c moves)

-- the calls of a list by rising index, each once
abbrev pub rising_boards : Snapshot → List ℕ → List ℕ
rising_boards s boards = filter (λ j. is_among j boards) (range_with_len 0 (call_count s))

abbrev pub moves_of_stop : Snapshot → Stop → List Move
moves_of_stop s stop = Leave stop.floor ∷ map Board (rising_boards s stop.boards)

-- The moves of a tour: per stop its `Leave` and its boards by rising index, and `End` at last.
abbrev pub moves_of : Snapshot → List Stop → List Move
moves_of s tour = flat_map (moves_of_stop s) tour ++ End ∷ []

-- All moves, in their order: boards by index, then leaves by floor, then the end.
abbrev pub all_moves : Snapshot → List Move
all_moves s = map Board (range_with_len 0 (call_count s)) ++ map Leave (range_with_len 0 (floor_count s.building)) ++ End ∷ []

abbrev pub boards_allowed : (ℕ → Bool) → Move → Bool
boards_allowed allowed (Board j) = allowed j
boards_allowed allowed (Leave g) = true
boards_allowed allowed End = true

-- The moves after which the partial tour is lawful, boards of allowed calls only, in order.
abbrev pub lawful_moves : Snapshot → ℕ → Course → (ℕ → Bool) → List Move
lawful_moves s c x allowed = filter (λ m. boards_allowed allowed m && is_some (move_on s c x m)) (all_moves s)
