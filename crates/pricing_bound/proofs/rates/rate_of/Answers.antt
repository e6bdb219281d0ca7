use Rattle.std.proofs.Common.{ℕ, ◌+◌, ◌*◌, ◌∙◌, refl, ap, arith}
use Rattle.elevator_model.specs.Travel.{Square, time_between}
use Rattle.partial_tours.proofs.Departing.{product_small}
use Rattle.pricing_bound.proofs.RateLemmas.{rate_is}
use Rattle.pricing_bound.proofs.rates.rate_of.Goals as goal

pub returns-clause-rate : goal.returns-clause-rate
returns-clause-rate c = λ s j same_building same_call lt.
    let b = c.args.building.now in
    let call = c.args.call.now in
    let persons = c.requires.persons in
    let weights = c.patience.ensures.building in
    let wait = c.wait_weight.ensures.value in
    let late = c.patience_weight.ensures.value in
    let travel = c.travel_weight.ensures.value in
    let time = c.time-time.ensures.value ∙ ap (λ (t : Square). time_between t call.origin call.destination) c.travel.ensures.value in
    let wait_small = weights.wait_weight in
    let late_small = weights.patience_weight in
    let travel_small = weights.travel_weight in
    let each = product_small call.persons c.wait_weight.result 8 1000 persons (omega (arith, wait, wait_small)) in
    let over = product_small call.persons c.patience_weight.result 8 1000 persons (omega (arith, late, late_small)) in
    let rides = product_small call.persons c.travel_weight.result 8 1000 persons (omega (arith, travel, travel_small)) in
    let ride = product_small (call.persons * c.travel_weight.result) c.time-time.result 8000 20000000 (omega (arith, rides)) c.time-time.ensures.bounded in
    rate_is s j b call _ c.time-time.result same_building same_call lt time refl (ap (λ (x : ℕ). call.released + x) c.patience.ensures.value)
    (ap (λ (x : ℕ). call.persons * x) wait) (ap (λ (x : ℕ). call.persons * x) late) (ap (λ (x : ℕ). call.persons * x) travel) refl (omega (arith, each))
    (omega (arith, over)) (omega (arith, rides)) refl (omega (arith, ride)) c.requires.released refl refl
