use Rattle.std.proofs.Common.{◌∙◌, ◌*◌, ◌+◌, ◌-◌, ◌<◌, ℕ, ap, sym, subst, arith}
use Rattle.elevator_model.specs.Building.{floor_count}
use Rattle.elevator_model.specs.Costs.{cost_of_rider}
use Rattle.elevator_model.specs.Snapshot.{call_count}
use Rattle.elevator_model.specs.Tours.{destination_of}
use Rattle.elevator_model.specs.Travel.{time_between}
use Rattle.tour_rules.proofs.RiderSums.{destination_of-call}
use Rattle.pricing_bound.specs.Rates.{Rated}
use Rattle.pricing_bound.proofs.FoundCosts.{ride_small}
use Rattle.pricing_bound.proofs.RateLemmas.{rate_read}
use Rattle.pricing_bound.proofs.rates.Rates.cost_from.Goals as goal

pub arrival_from-delivered-requires-clause-to : goal.arrival_from-delivered-requires-clause-to
arrival_from-delivered-requires-clause-to c =
    let s = c.self.inside.snapshot.now in
    let j = c.args.call in
    let lt = subst (λ (r : Rated). j < call_count r.snapshot) (sym c.self.view_is) c.requires.call in
    let rate = rate_read s c.self.inside.rates.items j c.index-rate.result.now c.self.invariant.1 lt c.index-rate.ensures in
    subst (λ (to : ℕ). to < floor_count s.building) (sym rate.to) (c.self.invariant.0.calls j lt).destination

pub returns-clause-value : goal.returns-clause-value
returns-clause-value c =
    let s = c.self.inside.snapshot.now in
    let j = c.args.call in
    let boarded = c.args.boarded in
    let delivered = c.arrival_from-delivered.result in
    let lt = subst (λ (r : Rated). j < call_count r.snapshot) (sym c.self.view_is) c.requires.call in
    let rate = rate_read s c.self.inside.rates.items j c.index-rate.result.now c.self.invariant.1 lt c.index-rate.ensures in
    let there = c.arrival_from-delivered.ensures.value
    ∙ ap (λ (to : ℕ). c.args.opened + time_between s.building.travel c.args.floor to) (rate.to ∙ sym (destination_of-call s j lt)) in
    let travel = c.index-rate.result.now.travel in
    let cost = ap (λ (ms : ℕ). c.wait_cost.result + travel * ms) c.saturating_sub.ensures
    ∙ ap (λ (wait : ℕ). wait + travel * (delivered - boarded)) c.wait_cost.ensures.value ∙ rate.cost boarded delivered
    ∙ ap (λ (d : ℕ). cost_of_rider s j boarded d) there in
    cost ∙ ap (λ (r : Rated).
    cost_of_rider r.snapshot j boarded (c.args.opened + time_between r.snapshot.building.travel c.args.floor (destination_of r.snapshot j))) c.self.view_is

pub arrival_from-delivered-requires-clause-from : goal.arrival_from-delivered-requires-clause-from
arrival_from-delivered-requires-clause-from c = subst (λ (r : Rated). c.args.floor < floor_count r.snapshot.building) (sym c.self.view_is) c.requires.floor

pub arrival_from-delivered-requires-clause-early : goal.arrival_from-delivered-requires-clause-early
arrival_from-delivered-requires-clause-early c = c.requires.early

pub wait_cost-requires-clause-wait : goal.wait_cost-requires-clause-wait
wait_cost-requires-clause-wait c =
    let s = c.self.inside.snapshot.now in
    let j = c.args.call in
    let lt = subst (λ (r : Rated). j < call_count r.snapshot) (sym c.self.view_is) c.requires.call in
    let rate = rate_read s c.self.inside.rates.items j c.index-rate.result.now c.self.invariant.1 lt c.index-rate.ensures in
    rate.wait

pub wait_cost-requires-clause-over : goal.wait_cost-requires-clause-over
wait_cost-requires-clause-over c =
    let s = c.self.inside.snapshot.now in
    let j = c.args.call in
    let lt = subst (λ (r : Rated). j < call_count r.snapshot) (sym c.self.view_is) c.requires.call in
    let rate = rate_read s c.self.inside.rates.items j c.index-rate.result.now c.self.invariant.1 lt c.index-rate.ensures in
    rate.over

pub wait_cost-requires-clause-early : goal.wait_cost-requires-clause-early
wait_cost-requires-clause-early c = c.requires.boarded

pub overflow_mul-result : goal.overflow_mul-result
overflow_mul-result c =
    let s = c.self.inside.snapshot.now in
    let j = c.args.call in
    let lt = subst (λ (r : Rated). j < call_count r.snapshot) (sym c.self.view_is) c.requires.call in
    let rate = rate_read s c.self.inside.rates.items j c.index-rate.result.now c.self.invariant.1 lt c.index-rate.ensures in
    let wait = c.wait_cost.ensures.small in
    let late = c.arrival_from-delivered.ensures.early in
    let rode = c.saturating_sub.ensures in
    let travel = ride_small c.index-rate.result.now.travel c.saturating_sub.result rate.travel (omega (arith, late, rode)) in
    omega (arith, travel)

pub overflow_add-result : goal.overflow_add-result
overflow_add-result c =
    let s = c.self.inside.snapshot.now in
    let j = c.args.call in
    let lt = subst (λ (r : Rated). j < call_count r.snapshot) (sym c.self.view_is) c.requires.call in
    let rate = rate_read s c.self.inside.rates.items j c.index-rate.result.now c.self.invariant.1 lt c.index-rate.ensures in
    let wait = c.wait_cost.ensures.small in
    let late = c.arrival_from-delivered.ensures.early in
    let rode = c.saturating_sub.ensures in
    let travel = ride_small c.index-rate.result.now.travel c.saturating_sub.result rate.travel (omega (arith, late, rode)) in
    omega (arith, wait, travel)

pub returns-clause-bounded : goal.returns-clause-bounded
returns-clause-bounded c =
    let s = c.self.inside.snapshot.now in
    let j = c.args.call in
    let lt = subst (λ (r : Rated). j < call_count r.snapshot) (sym c.self.view_is) c.requires.call in
    let rate = rate_read s c.self.inside.rates.items j c.index-rate.result.now c.self.invariant.1 lt c.index-rate.ensures in
    let wait = c.wait_cost.ensures.small in
    let late = c.arrival_from-delivered.ensures.early in
    let rode = c.saturating_sub.ensures in
    let travel = ride_small c.index-rate.result.now.travel c.saturating_sub.result rate.travel (omega (arith, late, rode)) in
    omega (arith, wait, travel)
