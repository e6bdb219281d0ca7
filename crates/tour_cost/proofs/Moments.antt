-- Moments stay small: each stop takes its time from what is left of a budget, which each stop still to come
-- and each person still to get on or off has a share of.
use Rattle.std.proofs.Common.{ℕ, ◌<◌, ◌≤◌, List, [], ◌∷◌, All, arith}
use Rattle.std.proofs.lemmas.List.Elements.{All-cons}
use Rattle.elevator_model.specs.declared.Stop.{Stop}
use Rattle.elevator_model.specs.declared.Times.{Times}
use Rattle.elevator_model.specs.Building.{floor_count}
use Rattle.elevator_model.specs.Snapshot.{Snapshot, IsAccepted, car_count}
use Rattle.elevator_model.specs.Tours.{Progress, start_of, arrival, make_stop, none_taken, IsFeasible}
use Rattle.elevator_model.specs.Costs.{times_from, timeline_of}
use Rattle.tour_rules.proofs.Sound.{AllFine}
use Rattle.tour_rules.proofs.Stops.{fine_floor}
use Rattle.tour_cost.proofs.Short.{AllFine-feasible}
use Rattle.tour_rules.proofs.Moments.{latest, latest_falls, latest_start}

early_from : (s : Snapshot) (c : ℕ) (p : Progress) (stops : List Stop) → IsAccepted s → c < car_count s → p.floor < floor_count s.building
    → latest s p < 10000000000 → AllFine s c p stops → All (λ (t : Times). t.leaves < 10000000000) (times_from s c p stops)
early_from s c p [] a lt from most fine = λ k d none. absurd (omega (arith, none))
early_from s c p (st ∷ stops) a lt from most fine =
    let next = make_stop s c p st in
    let falls = latest_falls s c p st a lt from fine.0 in
    let later : latest s next < 10000000000 = omega (arith, falls, most) in
    let here : next.leaves < 10000000000 = omega (arith, later) in
    All-cons (λ (t : Times). t.leaves < 10000000000) (record { arrival = arrival s c p st.floor; opened = next.opened; leaves = next.leaves })
    (times_from s c next stops) here (early_from s c next stops a lt (fine_floor s c none_taken p st fine.0) later fine.1)

pub tour_early : (s : Snapshot) (c : ℕ) (tour : List Stop) → IsAccepted s → c < car_count s → (start_of s c).leaves ≤ 1100000000
    → (start_of s c).floor < floor_count s.building → IsFeasible s c tour → All (λ (t : Times). t.leaves < 10000000000) (timeline_of s c tour)
tour_early s c tour a lt early from feasible =
    let low = latest_start s c a lt early in
    early_from s c (start_of s c) tour a lt from (omega (arith, low)) (AllFine-feasible s c (start_of s c) 1 tour feasible)
