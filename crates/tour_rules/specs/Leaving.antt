-- Who gets off at a stop, and what they cost.
use Rattle.std.specs.Prelude.{◌≡◌, ℕ, ◌+◌, ◌*◌, ◌-◌, ◌<◌, ◌≤◌, ◌==◌, ◌&&◌, ◌||◌, Bool, List, length, slice_index, true}
use Rattle.elevator_model.specs.declared.Aboard.{Aboard}
use Rattle.elevator_model.specs.declared.Call.{Call}
use Rattle.call_sets.specs.Counting.{has, sum_where}
use Rattle.elevator_model.specs.Building.{Building}
use Rattle.elevator_model.specs.Snapshot.{Snapshot, call_count, call_of, group_of}
use Rattle.elevator_model.specs.Tours.{Progress, rider_count, gets_off, is_aboard}
use Rattle.tour_rules.specs.Places.{group_carried}
use Rattle.elevator_model.specs.Costs.{cost_of_wait, cost_of_rider}

-- a call of the set that gets off at floor g
abbrev pub is_call_off : Snapshot → (carried g j : ℕ) → Bool
is_call_off s carried g j = has carried j && ((call_of s j).destination == g)

-- a group that gets off at floor g
abbrev pub is_group_off : Snapshot → ℕ → (visited g k : ℕ) → Bool
is_group_off s c visited g k = group_carried s.aboard c visited k && ((group_of s k).destination == g)

-- who is carried: the calls of a set, and the groups at whose destinations the car has not stopped
pub record AreCarried (s : Snapshot) (c carried visited : ℕ) (p : Progress) : Type 0 where
  pub calls : (j : ℕ) → j < call_count s → p.carried j ≡ has carried j
  pub groups : (k : ℕ) → k < length s.aboard → p.carried (call_count s + k) ≡ group_carried s.aboard c visited k

-- what a call costs that boards and gets off at these moments
abbrev pub call_cost : Building → Call → (boarded delivered : ℕ) → ℕ
call_cost b call boarded delivered = call.persons * (cost_of_wait b (boarded - call.released) + b.travel_weight * (delivered - boarded))

abbrev pub cost_of_call : Snapshot → ℕ → (boarded delivered : ℕ) → ℕ
cost_of_call s j boarded delivered = call_cost s.building (call_of s j) boarded delivered

-- what a group aboard costs that gets off at this moment
abbrev pub group_cost : Building → Aboard → (delivered : ℕ) → ℕ
group_cost b group delivered = group.persons * (b.travel_weight * (delivered - group.boarded))

abbrev pub cost_of_group : Snapshot → ℕ → (delivered : ℕ) → ℕ
cost_of_group s k delivered = group_cost s.building (group_of s k) delivered

-- the cost of those who get off at floor g, where the doors are open at this moment
abbrev pub leaving_cost : Snapshot → Progress → (g opened : ℕ) → ℕ
leaving_cost s p g opened = sum_where (rider_count s) (gets_off s p g) (λ r. cost_of_rider s r (p.boarded_at r) opened)

-- what holds after stops that break no rule: who is carried boarded or was aboard, only calls board, a
-- group keeps the moment at which it boarded
pub record IsKept (s : Snapshot) (c : ℕ) (p : Progress) : Type 0 where
  pub carried : (r : ℕ) → p.carried r ≡ true → (p.boarded r || is_aboard s c r) ≡ true
  pub calls : (r : ℕ) → p.boarded r ≡ true → r < call_count s
  pub groups : (k : ℕ) → p.boarded_at (call_count s + k) ≡ (group_of s k).boarded

-- the moments in the list are those at which the calls that are carried boarded
pub record AreBoarded (s : Snapshot) (p : Progress) (moments : List ℕ) : Type 0 where
  pub each : (j : ℕ) → j < call_count s → p.carried j ≡ true → p.boarded_at j ≡ slice_index moments j

-- the moments at which riders boarded and got off
pub record AreEarly (s : Snapshot) (p : Progress) : Type 0 where
  pub boarded : (r : ℕ) → r < rider_count s → p.boarded_at r ≤ 100000000000
  pub delivered : (r : ℕ) → p.delivered_at r ≤ 100000000000
