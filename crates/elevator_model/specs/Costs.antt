-- Times and costs of tours. Moments in ms, costs in cost units.
use Rattle.std.specs.Prelude.{ℕ, ◌+◌, ◌-◌, ◌*◌, ◌&&◌, ◌||◌, not, List, [], ◌∷◌, Bool, nat_lt, if◌then◌else◌}
use Rattle.elevator_model.specs.declared.Stop.{Stop}
use Rattle.elevator_model.specs.declared.Times.{Times}
use Rattle.call_sets.specs.Counting.{sum_where}
use Rattle.elevator_model.specs.Building.{Building}
use Rattle.elevator_model.specs.Snapshot.{Snapshot, call_count, call_of}
use Rattle.elevator_model.specs.Tours.{Progress, start_of, make_stop, after_stops, arrival, is_aboard, rider_count, persons_of}

-- the moments of the stops that follow
abbrev pub times_from : Snapshot → ℕ → Progress → List Stop → List Times
times_from s c p [] = []
times_from s c p (stop ∷ stops) =
    let next = make_stop s c p stop in
    record { arrival = arrival s c p stop.floor; opened = next.opened; leaves = next.leaves } ∷ times_from s c next stops

-- arrival, opened and leaving moment of each stop
abbrev pub timeline_of : Snapshot → ℕ → List Stop → List Times
timeline_of s c tour = times_from s c (start_of s c) tour

-- what a person's wait costs: each ms, and each ms past the patience once more
abbrev pub cost_of_wait : Building → ℕ → ℕ
cost_of_wait b wait = b.wait_weight * wait + b.patience_weight * (wait - b.patience)

-- what a rider costs that boards and gets off at these moments; groups aboard wait no more
abbrev pub cost_of_rider : Snapshot → ℕ → (boarded delivered : ℕ) → ℕ
cost_of_rider s r boarded delivered =
    persons_of s r * ((if nat_lt r (call_count s) then cost_of_wait s.building (boarded - (call_of s r).released) else 0) + s.building.travel_weight *
    (delivered - boarded))

-- those who rode with the car and got off
abbrev pub is_delivered : Snapshot → ℕ → Progress → ℕ → Bool
is_delivered s c p r = (p.boarded r || is_aboard s c r) && not (p.carried r)

-- the cost of those who got off so far
abbrev pub settled_cost : Snapshot → ℕ → Progress → ℕ
settled_cost s c p = sum_where (rider_count s) (is_delivered s c p) (λ r. cost_of_rider s r (p.boarded_at r) (p.delivered_at r))

-- The cost of a feasible tour: that of its calls and of the car's groups aboard.
abbrev pub cost_of : Snapshot → ℕ → List Stop → ℕ
cost_of s c tour = settled_cost s c (after_stops s c (start_of s c) tour)
