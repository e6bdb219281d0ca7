use Rattle.std.proofs.Common.{◌<◌, ◌≤◌, ◌+◌, ◌∙◌, ℕ, List, get_or, sym, ap, subst, arith}
use Rattle.elevator_model.specs.declared.Call.{Call}
use Rattle.elevator_model.specs.Building.{floor_count}
use Rattle.elevator_model.specs.Snapshot.{Snapshot, call_count, no_call}
use Rattle.elevator_model.specs.Tours.{destination_of}
use Rattle.elevator_model.specs.Travel.{time_between}
use Rattle.partial_tours.specs.Courses.{reached}
use Rattle.tour_rules.proofs.RiderSums.{destination_of-call}
use Rattle.pricing_bound.proofs.FoundCosts.{call_found}
use Rattle.pricing_bound.proofs.rides.straight_cost_of_call.Goals as goal

pub straight_arrival-delivered-requires-clause-same : goal.straight_arrival-delivered-requires-clause-same
straight_arrival-delivered-requires-clause-same c = c.requires.same

pub straight_arrival-delivered-requires-clause-to : goal.straight_arrival-delivered-requires-clause-to
straight_arrival-delivered-requires-clause-to c =
    let call = c.calls.ensures.accepted.calls c.args.call c.requires.call in
    subst (λ (calls : List Call). (get_or calls c.args.call no_call).destination < floor_count c.args.snapshot.now.building)
    (sym c.calls.ensures.value) call.destination

pub boarded_at-requires-clause-call : goal.boarded_at-requires-clause-call
boarded_at-requires-clause-call c = subst (λ (s : Snapshot). c.args.call < call_count s) c.requires.same c.requires.call

pub boarded_at-requires-clause-boarded : goal.boarded_at-requires-clause-boarded
boarded_at-requires-clause-boarded c = c.requires.boarded

pub cost_of_call-requires-clause-persons : goal.cost_of_call-requires-clause-persons
cost_of_call-requires-clause-persons c =
    let call = c.calls.ensures.accepted.calls c.args.call c.requires.call in
    subst (λ (calls : List Call). (get_or calls c.args.call no_call).persons ≤ 8) (sym c.calls.ensures.value) call.persons_high

pub cost_of_call-requires-clause-boarded : goal.cost_of_call-requires-clause-boarded
cost_of_call-requires-clause-boarded c = let early = c.boarded_at.ensures.early in omega (arith, early)

pub cost_of_call-requires-clause-delivered : goal.cost_of_call-requires-clause-delivered
cost_of_call-requires-clause-delivered c = c.straight_arrival-delivered.ensures.early

pub returns-clause-cost : goal.returns-clause-cost
returns-clause-cost c = λ x e.
    let t = c.args.prefix.now in
    let s = t.snapshot in
    let p = reached s t.car x in
    let j = c.args.call in
    let lt = subst (λ (s : Snapshot). j < call_count s) c.requires.same c.requires.call in
    let building = c.building.ensures.value ∙ ap (λ (s : Snapshot). s.building) c.requires.same in
    let calls = c.calls.ensures.value ∙ ap (λ (s : Snapshot). s.calls) c.requires.same in
    let to = ap (λ (calls : List Call). (get_or calls j no_call).destination) calls ∙ sym (destination_of-call s j lt) in
    let delivered = c.straight_arrival-delivered.ensures.value x e ∙ ap (λ (to : ℕ). p.opened + time_between s.building.travel p.floor to) to in
    call_found s c.building.result.now c.calls.result.now j c.boarded_at.result c.straight_arrival-delivered.result (p.boarded_at j)
    (p.opened + time_between s.building.travel p.floor (destination_of s j)) c.cost_of_call.result building calls lt
    (c.boarded_at.ensures.value x e) delivered c.cost_of_call.ensures.cost

pub returns-clause-bounded : goal.returns-clause-bounded
returns-clause-bounded c = c.cost_of_call.ensures.bounded
