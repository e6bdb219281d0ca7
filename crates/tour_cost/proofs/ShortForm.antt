-- In a building of version 1 a tour costs what the short form says.
use Rattle.std.proofs.Common.{◌≡◌, ℕ, ◌+◌, ◌-◌, ◌*◌, cond, ltb, List, refl, ap, arith}
use Rattle.elevator_model.specs.declared.Stop.{Stop}
use Rattle.elevator_model.specs.Building.{Building, IsBuilding}
use Rattle.elevator_model.specs.Snapshot.{Snapshot, call_count, call_of}
use Rattle.elevator_model.specs.Tours.{rider_count, persons_of, after_stops, start_of}
use Rattle.elevator_model.specs.Costs.{cost_of_wait, cost_of_rider, is_delivered, cost_of}
use Rattle.tour_cost.specs.ShortForm.{short_cost_of_rider, short_cost_of}
use Rattle.call_sets.proofs.Sums.{sum_where-same}

no_weight : (b : Building) → IsBuilding b → b.version ≡ 1 → b.patience_weight ≡ 0
no_weight b built first = let none = built.patient first in omega (arith, none)

short_wait : (b : Building) (wait : ℕ) → IsBuilding b → b.version ≡ 1 → cost_of_wait b wait ≡ b.wait_weight * wait
short_wait b wait built first = let none = ap (λ (w : ℕ). w * (wait - b.patience)) (no_weight b built first) in omega (arith, none)

short_rider : (s : Snapshot) (r boarded delivered : ℕ) → IsBuilding s.building → s.building.version ≡ 1
    → cost_of_rider s r boarded delivered ≡ short_cost_of_rider s r boarded delivered
short_rider s r boarded delivered built first =
    ap (λ (w : ℕ). persons_of s r * (cond (ltb r (call_count s)) w 0 + s.building.travel_weight * (delivered - boarded)))
    (short_wait s.building (boarded - (call_of s r).released) built first)

pub short_form : (s : Snapshot) (c : ℕ) (tour : List Stop) → IsBuilding s.building → s.building.version ≡ 1 → cost_of s c tour ≡ short_cost_of s c tour
short_form s c tour built first =
    let p = after_stops s c (start_of s c) tour in
    sum_where-same (rider_count s) (is_delivered s c p) (is_delivered s c p) (λ r. cost_of_rider s r (p.boarded_at r) (p.delivered_at r))
    (λ r. short_cost_of_rider s r (p.boarded_at r) (p.delivered_at r)) (λ r b. refl)
    (λ r b e. short_rider s r (p.boarded_at r) (p.delivered_at r) built first)
