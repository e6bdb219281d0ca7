-- The cost of a tour in a building without patience, as version 1 has it.
use Rattle.std.specs.Prelude.{ℕ, ◌+◌, ◌-◌, ◌*◌, List, nat_lt, if◌then◌else◌}
use Rattle.elevator_model.specs.declared.Stop.{Stop}
use Rattle.call_sets.specs.Counting.{sum_where}
use Rattle.elevator_model.specs.Snapshot.{Snapshot, call_count, call_of}
use Rattle.elevator_model.specs.Tours.{Progress, rider_count, persons_of, after_stops, start_of}
use Rattle.elevator_model.specs.Costs.{is_delivered}

-- each person's ms of waiting and of riding, with their weights; groups aboard wait no more
abbrev pub short_cost_of_rider : Snapshot → ℕ → (boarded delivered : ℕ) → ℕ
short_cost_of_rider s r boarded delivered =
    persons_of s r * ((if nat_lt r (call_count s) then s.building.wait_weight * (boarded - (call_of s r).released) else 0) + s.building.travel_weight *
    (delivered - boarded))

abbrev pub short_settled_cost : Snapshot → ℕ → Progress → ℕ
short_settled_cost s c p = sum_where (rider_count s) (is_delivered s c p) (λ r. short_cost_of_rider s r (p.boarded_at r) (p.delivered_at r))

abbrev pub short_cost_of : Snapshot → ℕ → List Stop → ℕ
short_cost_of s c tour = short_settled_cost s c (after_stops s c (start_of s c) tour)
