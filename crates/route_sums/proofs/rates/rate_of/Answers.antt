use Rattle.std.proofs.Common.{◌≡◌, ◌+◌, ◌-◌, ◌*◌, ◌≤◌, ℕ, List, false, true, get_or, refl, ap, subst, sym, arith}
use Rattle.std.specs.Prelude.{ℤ, pos, ◌-ℤ◌, ◌≤ℤ◌}
use Rattle.elevator_model.specs.declared.Call.{Call}
use Rattle.elevator_model.specs.Snapshot.{no_call}
use Rattle.search_model.specs.Prices.{scaled}
use Rattle.partial_tours.proofs.Departing.{product_small}
use Rattle.pricing_bound.proofs.RateLemmas.{stored_price}
use Rattle.route_sums.specs.Rows.{HasRow}
use Rattle.route_sums.proofs.CallRateLemmas.{rate_is}
use Rattle.route_sums.proofs.rates.rate_of.Goals as goal

pub returns : goal.returns
returns c =
    let s = c.args.snapshot.now in
    let j = c.args.call in
    let b = c.building-building.result.now in
    let rider = get_or c.calls.result.now j no_call in
    let time = c.least_ride.result in
    let of_call = ap (λ (xs : List Call). get_or xs j no_call) c.calls.ensures.value in
    let persons = subst (λ (call : Call). call.persons ≤ 8) (sym of_call) (c.calls.ensures.accepted.calls j c.requires.call).persons_high in
    let weights = c.patience.ensures.building in
    let wait = c.wait_weight.ensures.value in
    let over = c.patience_weight.ensures.value in
    let travel = c.travel_weight.ensures.value in
    let wait_small = weights.wait_weight in
    let over_small = weights.patience_weight in
    let travel_small = weights.travel_weight in
    let waits = product_small rider.persons c.wait_weight.result 8 1000 persons (omega (arith, wait, wait_small)) in
    let overs = product_small rider.persons c.patience_weight.result 8 1000 persons (omega (arith, over, over_small)) in
    let rides = product_small rider.persons c.travel_weight.result 8 1000 persons (omega (arith, travel, travel_small)) in
    let ride = product_small (rider.persons * c.travel_weight.result) time 8000 200000000 (omega (arith, rides)) c.least_ride.ensures.short in
    let stored = stored_price c.args.price c.requires.price in
    let free = subst (λ (call : Call). call.released ≤ s.moment) (sym of_call) (c.calls.ensures.accepted.calls j c.requires.call).released in
    let moment = c.calls.ensures.accepted.moment in
    let has_row = λ (e : c.has_row.result ≡ true). subst (HasRow c.args.is_required) stored (c.has_row.ensures e) in
    let enough = subst (λ (z : ℤ). (k : ℕ) → k ≤ 99100000000 → c.enough_of.result ≤ k → (c.args.is_required ≡ false)
    × (pos 0 ≤ℤ (scaled (rider.persons * c.wait_weight.result * (k - rider.released) + rider.persons * c.travel_weight.result * time) -ℤ z))) stored
    c.enough_of.ensures in
    rate_is s c.args.car j b rider _ c.args.price c.args.is_required time c.building-building.ensures.value of_call c.requires.call c.least_ride.ensures.value
    refl refl (ap (λ (x : ℕ). rider.released + x) c.patience.ensures.value) (ap (λ (x : ℕ). rider.persons * x) wait)
    (ap (λ (x : ℕ). rider.persons * x) over) (ap (λ (x : ℕ). rider.persons * x * time) travel) (omega (arith, waits)) (omega (arith, overs))
    (omega (arith, ride)) stored refl (omega (arith, free, moment)) has_row enough
