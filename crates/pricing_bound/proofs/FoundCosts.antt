-- Costs of calls, as the code finds them.
use Rattle.std.proofs.Common.{◌≡◌, ℕ, ◌*◌, ◌<◌, ◌≤◌, List, get_or, sym, ap, ◌∙◌, arith}
use Rattle.std.proofs.Math.Nat.{mul-le-mul_left}
use Rattle.elevator_model.specs.declared.Call.{Call}
use Rattle.elevator_model.specs.Building.{Building}
use Rattle.elevator_model.specs.Snapshot.{Snapshot, call_count, call_of, no_call}
use Rattle.elevator_model.specs.Costs.{cost_of_rider}
use Rattle.tour_rules.specs.Leaving.{call_cost}
use Rattle.tour_rules.proofs.Settled.{cost_of_rider-call}

-- by its building, its list of calls and its moments
pub call_found : (s : Snapshot) (b : Building) (calls : List Call) (j boarded delivered m d cost : ℕ) → b ≡ s.building → calls ≡ s.calls → j < call_count s
    → boarded ≡ m → delivered ≡ d → cost ≡ call_cost b (get_or calls j no_call) boarded delivered → cost ≡ cost_of_rider s j m d
call_found s b calls j boarded delivered m d cost same_building same_calls lt at_boarded at_delivered is =
    is ∙ ap (λ (x : Building). call_cost x (get_or calls j no_call) boarded delivered) same_building
    ∙ ap (λ (xs : List Call). call_cost s.building (get_or xs j no_call) boarded delivered) same_calls
    ∙ ap (λ (n : ℕ). call_cost s.building (call_of s j) n delivered) at_boarded ∙ ap (λ (n : ℕ). call_cost s.building (call_of s j) m n) at_delivered
    ∙ sym (cost_of_rider-call s j m d lt)

-- what a ride costs at most
pub ride_small : (travel time : ℕ) → travel ≤ 8000 → time ≤ 100000000000 → travel * time ≤ 800000000000000
ride_small travel time rate short =
    let each = mul-le-mul_left travel short in
    omega (arith, each, rate)
