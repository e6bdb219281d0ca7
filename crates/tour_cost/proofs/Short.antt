-- Bounds on the number of calls, and of the stops of a feasible tour.
use Rattle.std.proofs.Common.{◌≡◌, ℕ, ◌+◌, ◌<◌, ◌≤◌, true, false, cond, eqb, List, [], ◌∷◌, map, length, length-append, arith, None}
use Rattle.std.specs.List.{flat_map}
use Rattle.elevator_model.specs.declared.Stop.{Stop}
use Rattle.elevator_model.specs.declared.Move.TheVariants.{End}
use Rattle.elevator_model.specs.Snapshot.{Snapshot, call_count, car_count, IsAccepted}
use Rattle.elevator_model.specs.Building.{most_calls}
use Rattle.elevator_model.specs.Tours.{Progress, IsFeasible, first_broken_from, none_taken, start_of, make_stop, broken_at, after_stops}
use Rattle.elevator_model.specs.Partial.{moves_of, moves_of_stop}
use Rattle.tour_rules.proofs.Reached.{moves_reach, ended_at, risen, broken_or-none}
use Rattle.tour_rules.proofs.Measure.{lawful_short}
use Rattle.tour_rules.proofs.Sound.{AllFine}
use Rattle.tour_rules.proofs.Stops.{groups_few}

pub AllFine-feasible : (s : Snapshot) (c : ℕ) (p : Progress) (k : ℕ) (stops : List Stop) → first_broken_from s c none_taken p k stops ≡ None
    → AllFine s c p stops
AllFine-feasible s c p k [] h = tt
AllFine-feasible s c p k (st ∷ stops) h =
    let parts = broken_or-none (broken_at s c none_taken p st) k (first_broken_from s c none_taken (make_stop s c p st) (k + 1) stops) h in
    (parts.0, AllFine-feasible s c (make_stop s c p st) (k + 1) stops parts.1)

stops_are_moves : (s : Snapshot) (stops : List Stop) → length stops ≤ length (flat_map (moves_of_stop s) stops)
stops_are_moves s [] = omega arith
stops_are_moves s (st ∷ stops) =
    let r = stops_are_moves s stops in
    let joined = length-append (moves_of_stop s st) (flat_map (moves_of_stop s) stops) in
    omega (arith, r, joined)

pub most_calls-le : (version : ℕ) → most_calls version ≤ 128
most_calls-le version = elim (eqb version 1) as (λ t. cond t 64 128 ≤ 128) [ true ↦ omega arith | false ↦ omega arith ]

pub calls-le : (s : Snapshot) → IsAccepted s → call_count s ≤ 128
calls-le s a = let high : call_count s ≤ most_calls s.building.version = a.calls_high in let m = most_calls-le s.building.version in omega arith

pub stops-le : (s : Snapshot) (c : ℕ) (tour : List Stop) → IsAccepted s → c < car_count s → IsFeasible s c tour → length tour ≤ 450
stops-le s c tour a b feasible =
    let moves = lawful_short s c (moves_of s tour) (ended_at (map (risen s) tour) (after_stops s c (start_of s c) tour)) (moves_reach s c tour feasible) in
    let stops = stops_are_moves s tour in
    let joined = length-append (flat_map (moves_of_stop s) tour) (End ∷ []) in
    let calls = calls-le s a in
    let groups = groups_few s c a b in
    omega (arith, moves, stops, joined, calls, groups)
