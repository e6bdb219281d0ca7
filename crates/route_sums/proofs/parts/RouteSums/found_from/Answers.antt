use Rattle.std.proofs.Common.{◌≡◌, ◌<◌, ◌∙◌, ◌&&◌, not, ℕ, Bool, ap, sym, arith}
use Rattle.std.proofs.lemmas.Int.{ints}
use Rattle.std.proofs.lemmas.Bool.{and_parts}
use Rattle.call_sets.specs.Counting.{has}
use Rattle.elevator_model.specs.Snapshot.{Snapshot, call_count}
use Rattle.route_bound.specs.ForcedRoute.{rides_along}
use Rattle.partial_tours.specs.Courses.{is_after}
use Rattle.search_model.specs.Extending.{any_above}
use Rattle.search_model.specs.Prices.{price_at}
use Rattle.tour_rules.proofs.Stops.{most_calls_few}
use Rattle.route_sums.proofs.IdleLemmas.{found_idle, left_counts, left_idle}
use Rattle.route_sums.proofs.RouteLemmas.{route_way}
use Rattle.route_sums.proofs.SizeLemmas.{sums_size}
use Rattle.route_sums.proofs.ValueLemmas.{value_low}
use Rattle.route_sums.proofs.parts.RouteSums.found_from.Goals as goal

pub riding_along-along-requires : goal.riding_along-along-requires
riding_along-along-requires c =
    record { within = λ j e. c.args.self.now.within j (c.requires.allowed j (and_parts (has c.args.waiting j) _ (sym (c.minus-rest.ensures j) ∙ e)).0) }

pub along_route-requires-clause-rest : goal.along_route-requires-clause-rest
along_route-requires-clause-rest c =
    λ j e. c.args.self.now.within j (c.requires.allowed j (and_parts (has c.args.waiting j) _ (sym (c.minus-rest.ensures j) ∙ e)).0)

pub returns-clause-lower : goal.returns-clause-lower
returns-clause-lower c = λ x p paid e h pays idle.
    let it = c.args.self.now in
    let t = c.args.prefix.now in
    let s = t.snapshot in
    let price = price_at it.prices.now in
    let start = c.args.start.now in
    let up = c.is_above-upward.result in
    let rest = c.minus-rest.result in
    let above : up ≡ any_above s p = route_way s p start up h.bound_for h.place.floor c.is_above-upward.ensures.some c.is_above-upward.ensures.none in
    let left = λ (j : ℕ) (lt : j < call_count s). c.minus-rest.ensures j ∙ ap (λ (b : Bool). has c.args.waiting j && not b) (h.place.boarded j lt) in
    let rides = λ (j : ℕ). c.riding_along-along.ensures p h.place.floor j
    ∙ ap (λ (u : Snapshot). has rest j && rides_along u up p (is_after c.args.last) j) c.requires.same in
    value_low s t.car price (has it.allowed) (has it.required) (is_after c.args.last) (has c.riding_along-along.result)
    (has rest) up p c.along_route.result.settled c.along_route.result.added paid h.kept above
    (left_counts s (has it.allowed) p c.args.waiting rest left c.requires.allowed)
    (left_idle s t.car price (has it.allowed) (has it.required) (is_after c.args.last) up p c.args.waiting rest above left idle) rides
    (c.along_route.ensures.settled x p e h) (c.along_route.ensures.added x p e h) pays

pub returns-clause-within : goal.returns-clause-within
returns-clause-within c = λ j e. (and_parts (has c.args.waiting j) _ (sym (c.minus-rest.ensures j) ∙ c.along_route.ensures.within j e)).0

pub returns-clause-idle : goal.returns-clause-idle
returns-clause-idle c = λ x p e h idle.
    let it = c.args.self.now in
    let t = c.args.prefix.now in
    let s = t.snapshot in
    let up = c.is_above-upward.result in
    let rest = c.minus-rest.result in
    let above : up ≡ any_above s p =
    route_way s p c.args.start.now up h.bound_for h.place.floor c.is_above-upward.ensures.some c.is_above-upward.ensures.none in
    let left = λ (j : ℕ) (lt : j < call_count s). c.minus-rest.ensures j ∙ ap (λ (b : Bool). has c.args.waiting j && not b) (h.place.boarded j lt) in
    let rides = λ (j : ℕ). c.riding_along-along.ensures p h.place.floor j
    ∙ ap (λ (u : Snapshot). has rest j && rides_along u up p (is_after c.args.last) j) c.requires.same in
    found_idle s t.car (price_at it.prices.now) (has it.allowed) (has it.required)
    (is_after c.args.last) up p c.args.waiting rest c.riding_along-along.result c.along_route.result.waiting above left rides idle
    (c.along_route.ensures.idle x p e h)

pub returns-clause-low : goal.returns-clause-low
returns-clause-low c =
    let s = c.args.self.now.snapshot.now in
    let all = (sums_size (call_count s) (has c.minus-rest.result) (most_calls_few s c.calls.ensures.accepted)).0 in
    let low = c.along_route.ensures.low in
    omega (arith, ints, all, low)

pub returns-clause-high : goal.returns-clause-high
returns-clause-high c =
    let s = c.args.self.now.snapshot.now in
    let all = (sums_size (call_count s) (has c.minus-rest.result) (most_calls_few s c.calls.ensures.accepted)).1 in
    let high = c.along_route.ensures.high in
    omega (arith, ints, all, high)
