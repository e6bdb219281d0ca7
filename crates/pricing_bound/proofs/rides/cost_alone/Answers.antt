use Rattle.std.proofs.Common.{◌<◌, ◌≤◌, ◌+◌, ◌∙◌, ℕ, List, get_or, sym, ap, subst, arith}
use Rattle.elevator_model.specs.declared.Call.{Call}
use Rattle.elevator_model.specs.Building.{Building}
use Rattle.elevator_model.specs.Snapshot.{Snapshot, call_count, call_of, no_call}
use Rattle.elevator_model.specs.Travel.{Square, time_between}
use Rattle.partial_tours.specs.Courses.{reached}
use Rattle.pricing_bound.proofs.FoundCosts.{call_found}
use Rattle.pricing_bound.proofs.rides.cost_alone.Goals as goal

pub time-ride-requires-clause-from_floor : goal.time-ride-requires-clause-from_floor
time-ride-requires-clause-from_floor c =
    let a = c.calls.ensures.accepted in
    let call = a.calls c.args.call c.requires.call in
    let floors = ap (λ (b : Building). b.travel.floors) c.building.ensures.value in
    let travel = ap (λ (t : Square). t.floors) c.travel.ensures.value in
    let all = a.building.travel_floors in
    subst (λ (calls : List Call). (get_or calls c.args.call no_call).origin < c.travel.result.now.floors) (sym c.calls.ensures.value)
    (let below = call.origin in omega (arith, below, floors, travel, all))

pub time-ride-requires-clause-to_floor : goal.time-ride-requires-clause-to_floor
time-ride-requires-clause-to_floor c =
    let a = c.calls.ensures.accepted in
    let call = a.calls c.args.call c.requires.call in
    let floors = ap (λ (b : Building). b.travel.floors) c.building.ensures.value in
    let travel = ap (λ (t : Square). t.floors) c.travel.ensures.value in
    let all = a.building.travel_floors in
    subst (λ (calls : List Call). (get_or calls c.args.call no_call).destination < c.travel.result.now.floors) (sym c.calls.ensures.value)
    (let below = call.destination in omega (arith, below, floors, travel, all))

pub cost_of_call-requires-clause-persons : goal.cost_of_call-requires-clause-persons
cost_of_call-requires-clause-persons c =
    let call = c.calls.ensures.accepted.calls c.args.call c.requires.call in
    subst (λ (calls : List Call). (get_or calls c.args.call no_call).persons ≤ 8) (sym c.calls.ensures.value) call.persons_high

pub cost_of_call-requires-clause-boarded : goal.cost_of_call-requires-clause-boarded
cost_of_call-requires-clause-boarded c = let early = c.opened-boarded.ensures.early in omega (arith, early)

pub cost_of_call-requires-clause-delivered : goal.cost_of_call-requires-clause-delivered
cost_of_call-requires-clause-delivered c = let early = c.opened-boarded.ensures.early in let short = c.time-ride.ensures.bounded in omega (arith, early, short)

pub returns-clause-cost : goal.returns-clause-cost
returns-clause-cost c = λ x e.
    let t = c.args.prefix.now in
    let s = t.snapshot in
    let p = reached s t.car x in
    let j = c.args.call in
    let rider = get_or c.calls.result.now j no_call in
    let lt = subst (λ (s : Snapshot). j < call_count s) c.requires.same c.requires.call in
    let building = c.building-2.ensures.value ∙ ap (λ (s : Snapshot). s.building) c.requires.same in
    let calls = c.calls.ensures.value ∙ ap (λ (s : Snapshot). s.calls) c.requires.same in
    let travel = c.travel.ensures.value ∙ ap (λ (b : Building). b.travel) (c.building.ensures.value ∙ ap (λ (s : Snapshot). s.building) c.requires.same) in
    let opened = c.opened-boarded.ensures.value x e in
    let ride = c.time-ride.ensures.value ∙ ap (λ (t : Square). time_between t rider.origin rider.destination) travel
    ∙ ap (λ (calls : List Call). time_between s.building.travel (get_or calls j no_call).origin (get_or calls j no_call).destination) calls in
    let delivered = ap (λ (n : ℕ). n + c.time-ride.result) opened ∙ ap (λ (n : ℕ). p.opened + n) ride in
    call_found s c.building-2.result.now c.calls.result.now j c.opened-boarded.result (c.opened-boarded.result + c.time-ride.result) p.opened
    (p.opened + time_between s.building.travel (call_of s j).origin (call_of s j).destination) c.cost_of_call.result building calls lt opened delivered
    c.cost_of_call.ensures.cost

pub returns-clause-bounded : goal.returns-clause-bounded
returns-clause-bounded c = c.cost_of_call.ensures.bounded
