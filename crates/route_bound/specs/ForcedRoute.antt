-- The bound of a partial tour along its forced route, in thousandths of a cost unit.
--
-- A car cannot turn with passengers. So the destinations of those carried are stops of every tour that the
-- partial tour can become, in the order of their distance, and none of them is reached sooner than on the way
-- that stops nowhere else: the forced route. No call boards sooner than this route lets it, nor rides for
-- less than the boarding of its own persons, the doors and the straight way.
use Rattle.std.specs.Prelude.{◌≡◌, ℕ, zero, suc, ◌+◌, ◌-◌, ◌*◌, ◌==◌, ◌&&◌, ◌||◌, not, ℤ, pos, ◌+ℤ◌, ◌-ℤ◌, int_lt, List, [], ◌∷◌, Bool, true, false, nat_le}
use Rattle.std.specs.Prelude.{nat_lt, if◌then◌else◌, Some}
use Rattle.std.specs.List.{list_all}
use Rattle.call_sets.specs.Counting.{sum_where}
use Rattle.elevator_model.specs.Building.{floor_count}
use Rattle.elevator_model.specs.Travel.{time_between}
use Rattle.elevator_model.specs.Snapshot.{Snapshot, call_count, call_of, spec_of}
use Rattle.elevator_model.specs.Tours.{Progress, rider_count, destination_of, has_leg, is_upward, make_stop, same_direction}
use Rattle.elevator_model.specs.Costs.{cost_of_rider, settled_cost}
use Rattle.elevator_model.specs.declared.Move.{Move}
use Rattle.elevator_model.specs.Partial.{Course, course_of, settled_of}
use Rattle.search_model.specs.Extending.{any_above}
use Rattle.search_model.specs.Prices.{scaled}
use Rattle.search_model.specs.Sums.{int_sum_where}
use Rattle.partial_tours.specs.Courses.{any_goes_to, boards_of, empty_stop, reached}
use Rattle.pricing_bound.specs.Aims.{Aim, IsLower, value_for}

-- ---- the route

-- a stop at floor g where nobody boards
abbrev pub halted : Snapshot → ℕ → Progress → (g : ℕ) → Progress
halted s c p g = make_stop s c p (empty_stop g)

-- Where a route begins: a coming car has to stop first where it comes to.
abbrev pub route_start : Snapshot → ℕ → Progress → Progress
route_start s c p = if has_leg s c p then p else halted s c p p.floor

-- the earliest moment at which the doors can be open at floor g: there already, or after the way and the
-- opening
abbrev pub next_open : Snapshot → ℕ → Progress → (g : ℕ) → ℕ
next_open s c p g =
    if p.begun && (g == p.floor) then p.opened else p.leaves + time_between s.building.travel p.floor g + (spec_of s c).opening

-- of this many floors from one on those that pass the test, rising
abbrev pub floors_up : (from count : ℕ) → (ℕ → Bool) → List ℕ
floors_up from zero test = []
floors_up from (suc n) test = let rest = floors_up (from + 1) n test in if test from then from ∷ rest else rest

-- the floors below one that pass the test, falling
abbrev pub floors_down : (below : ℕ) → (ℕ → Bool) → List ℕ
floors_down zero test = []
floors_down (suc n) test = let rest = floors_down n test in if test n then n ∷ rest else rest

-- the floors to which those carried go, by their distance, above the car or below it
abbrev pub forced_stops : Snapshot → (up : Bool) → Progress → List ℕ
forced_stops s up p =
    if up then floors_up (p.floor + 1) (floor_count s.building - (p.floor + 1)) (any_goes_to s p) else floors_down p.floor (any_goes_to s p)

-- where the car is after the forced stops
abbrev pub route_end : Snapshot → ℕ → Progress → List ℕ → Progress
route_end s c p [] = p
route_end s c p (f ∷ fs) = route_end s c (halted s c p f) fs

-- floor g lies on the way from one floor on, before another
abbrev pub is_before : (up : Bool) → (from to g : ℕ) → Bool
is_before true from to g = nat_le from g && nat_lt g to
is_before false from to g = nat_le g from && nat_lt to g

-- The earliest moment at which the doors can be open at floor g: on the way, where it lies before the last
-- forced stop or is one, and else after it.
abbrev pub opens_at : Snapshot → ℕ → (up : Bool) → Progress → List ℕ → (g : ℕ) → ℕ
opens_at s c up p [] g = next_open s c p g
opens_at s c up p (f ∷ fs) g =
    let rest = opens_at s c up (halted s c p f) fs g in if is_before up p.floor f g then next_open s c p g else rest

-- ---- calls that have not boarded

-- calls board by rising index, so after the last one at the present stop
abbrev pub may_still_board : Course → ℕ → Bool
may_still_board x j = list_all (λ i. nat_lt i j) (boards_of x.present)

-- the call can board on the way: it goes the same way, and can still board if it begins where the car is
abbrev pub rides_along : Snapshot → (up : Bool) → Progress → (still : ℕ → Bool) → (j : ℕ) → Bool
rides_along s up p still j = same_direction up (is_upward (call_of s j)) && (not ((call_of s j).origin == p.floor) || still j)

-- the earliest moment at which the call can board: on the way, or after the last forced stop
abbrev pub boards_from : Snapshot → ℕ → (up : Bool) → Progress → List ℕ → (still : ℕ → Bool) → (j : ℕ) → ℕ
boards_from s c up p fs still j =
    if rides_along s up p still j then opens_at s c up p fs (call_of s j).origin else next_open s c (route_end s c p fs) (call_of s j).origin

-- the least time from boarding to delivery: its persons board, the doors close, the straight way, the doors
-- open
abbrev pub least_ride : Snapshot → ℕ → (j : ℕ) → ℕ
least_ride s c j =
    (spec_of s c).boarding * (call_of s j).persons + (spec_of s c).closing + time_between s.building.travel (call_of s j).origin (call_of s j).destination +
    (spec_of s c).opening

-- what the call costs at least if it boards at the moment m
abbrev pub cost_if_boarded : Snapshot → ℕ → (j m : ℕ) → ℕ
cost_if_boarded s c j m = cost_of_rider s j m (m + least_ride s c j)

-- what it adds that is not less: a call that is not required counts only where that lowers the bound
abbrev pub part_if_boarded : Snapshot → ℕ → (price : ℕ → ℤ) → (required : ℕ → Bool) → (j m : ℕ) → ℤ
part_if_boarded s c price required j m =
    let term = scaled (cost_if_boarded s c j m) -ℤ price j in
    if required j then term else (if int_lt term (pos 0) then term else pos 0)

-- ---- the bound

-- what a rider carried costs who gets off at the forced stop
abbrev pub cost_on_route : Snapshot → ℕ → (up : Bool) → Progress → List ℕ → (r : ℕ) → ℕ
cost_on_route s c up p fs r = cost_of_rider s r (p.boarded_at r) (opens_at s c up p fs (destination_of s r))

-- What is settled; what those carried cost along the route; and for each allowed call that has not boarded
-- what it adds at the earliest moment; without the prices of the calls that boarded.
abbrev pub bound_on_route : Snapshot → ℕ → (price : ℕ → ℤ) → (allowed required still : ℕ → Bool) → (up : Bool) → Progress → List ℕ → ℤ
bound_on_route s c price allowed required still up p fs =
    ((scaled (settled_cost s c p) +ℤ scaled (sum_where (rider_count s) p.carried (cost_on_route s c up p fs))) -ℤ int_sum_where (call_count s) p.boarded price)
    +ℤ int_sum_where (call_count s) (λ j. allowed j && not (p.boarded j)) (λ j. part_if_boarded s c price required j (boards_from s c up p fs still j))

-- the bound where the tour goes on
abbrev pub bound_from : Snapshot → ℕ → (price : ℕ → ℤ) → (allowed required still : ℕ → Bool) → Progress → ℤ
bound_from s c price allowed required still p =
    bound_on_route s c price allowed required still (any_above s p) p (forced_stops s (any_above s p) p)

-- The bound of a partial tour along its forced route. One that has ended has what is settled, without the
-- prices.
abbrev pub route_bound : Snapshot → ℕ → (price : ℕ → ℤ) → (allowed required : ℕ → Bool) → Course → ℤ
route_bound s c price allowed required x =
    if x.ended then scaled (settled_of s c x) -ℤ int_sum_where (call_count s) (reached s c x).boarded price else bound_from s c price allowed required
    (may_still_board x) (route_start s c (reached s c x))

abbrev pub route_bound_for : Aim → Course → ℤ
route_bound_for a x = route_bound a.snapshot a.car a.price a.allowed a.required x

-- It is at most the value of each feasible tour that begins with the partial tour, boards each required call,
-- and allowed calls only.
abbrev pub RouteLaw : Type 0
RouteLaw = (a : Aim) → IsLower a (route_bound_for a)

-- Of a partial tour that has ended it is the value of its tour.
abbrev pub EndedRouteLaw : Type 0
EndedRouteLaw =
    (a : Aim) (moves : List Move) (x : Course) → course_of a.snapshot a.car moves ≡ Some x → x.ended ≡ true → route_bound_for a x ≡ value_for a x.left
