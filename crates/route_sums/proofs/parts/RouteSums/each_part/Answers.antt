use Rattle.std.proofs.Common.{◌∙◌, ℕ, not, ap, refl, arith}
use Rattle.std.specs.Prelude.{ℤ, ◌+ℤ◌}
use Rattle.std.proofs.lemmas.Int.{ints}
use mir.Val.{to_z, of_z}
use mir.Syntax.{w128}
use Rattle.call_sets.specs.Counting.{has}
use Rattle.elevator_model.specs.Snapshot.{call_count, call_of}
use Rattle.search_model.specs.Prices.{price_at}
use Rattle.tour_rules.proofs.Stops.{most_calls_few}
use Rattle.partial_tours.proofs.Departing.{below_first}
use Rattle.pricing_bound.proofs.RateLemmas.{stored}
use Rattle.pricing_bound.proofs.WaitingLemmas.{none_so_far, one_added, all_added}
use Rattle.route_bound.specs.ForcedRoute.{part_if_boarded}
use Rattle.route_sums.specs.Idle.{adds}
use Rattle.route_sums.specs.Stands.{soonest}
use Rattle.route_sums.proofs.FilterLemmas.{all_filtered, none_filtered, one_filtered}
use Rattle.route_sums.proofs.SizeLemmas.{part_size, parts_high, parts_low, ride_short, soonest_small}
use Rattle.route_sums.proofs.parts.RouteSums.each_part.Goals as goal

pub rate-requires : goal.rate-requires
rate-requires c = below_first (call_count c.args.self.now.snapshot.now) c.in-Some.call _ _ c.loop-call.invariant.sum.below c.in-Some.ensures.steps

pub part-added-requires-clause-call : goal.part-added-requires-clause-call
part-added-requires-clause-call c =
    below_first (call_count c.args.self.now.snapshot.now) c.in-Some.call _ _ c.loop-call.invariant.sum.below c.in-Some.ensures.steps

pub loop-call-init : goal.loop-call-init
loop-call-init c =
    let it = c.args.self.now in
    let s = it.snapshot.now in
    let f = λ (j : ℕ). part_if_boarded s it.car (price_at it.prices.now) (has it.required) j (soonest s it.car c.args.stand.now (call_of s j).origin) in
    let left = ap (λ it. it.left) c.into_iter-call-iterator.ensures.into_iter_gives ∙ c.iter-call-items.ensures in
    let few = most_calls_few s c.calls-calls.ensures.accepted in
    record {
      sum = none_so_far c.args.calls c.into_iter-call-iterator.result.left (call_count s) f _ few c.requires.within left refl;
      waiting = none_filtered (call_count s) c.args.calls c.into_iter-call-iterator.result.left (λ j. adds (f j)) few c.requires.within left;
    }

pub loop-call-preserved : goal.loop-call-preserved
loop-call-preserved c =
    let it = c.args.self.now in
    let s = it.snapshot.now in
    let f = λ (j : ℕ). part_if_boarded s it.car (price_at it.prices.now) (has it.required) j (soonest s it.car c.args.stand.now (call_of s j).origin) in
    let so_sum = to_z w128 c.loop-call.sum-bits in
    let so_far = c.loop-call.invariant.sum in
    let low = so_far.low in
    let high = so_far.high in
    let few = so_far.few in
    let term_low = c.part-added.ensures.low in
    let term_high = c.part-added.ensures.high in
    let origin = ap (λ (g : ℕ). part_if_boarded s it.car (price_at it.prices.now) (has it.required) c.in-Some.call (soonest s it.car c.args.stand.now g))
    c.rate.ensures.origin in
    let is = c.part-added.ensures.value
    ∙ ap (part_if_boarded s it.car (price_at it.prices.now) (has it.required) c.in-Some.call)
    (c.next_open-boarded.ensures.value it.car c.ready-ready.ensures.value) ∙ origin in
    let term = stored c.part-added.result (omega (arith, ints, term_low)) (omega (arith, ints, term_high)) in
    let sum = ap (λ (z : ℤ). to_z w128 (of_z w128 (so_sum +ℤ z))) term
    ∙ stored (so_sum +ℤ c.part-added.result) (omega (arith, ints, low, term_low)) (omega (arith, ints, high, term_high)) ∙ ap (λ (z : ℤ). so_sum +ℤ z) is in
    record {
      sum = one_added c.args.calls (call_count s) c.in-Some.call f _ _ so_sum _ so_far c.in-Some.ensures.steps sum (omega (arith, ints, term_low, is))
          (omega (arith, ints, term_high, is));
      waiting = one_filtered (call_count s) c.args.calls c.in-Some.call _ _ (λ j. adds (f j)) _ _ _ c.loop-call.invariant.waiting c.in-Some.ensures.steps
          (ap not (c.adds.ensures ∙ ap adds (term ∙ is))) c.without_if-waiting.ensures;
    }

pub returns-clause-sum : goal.returns-clause-sum
returns-clause-sum c =
    let it = c.args.self.now in
    let s = it.snapshot.now in
    let f = λ (j : ℕ). part_if_boarded s it.car (price_at it.prices.now) (has it.required) j (soonest s it.car c.args.stand.now (call_of s j).origin) in
    (all_added c.args.calls (call_count s) f _ _ c.loop-call.invariant.sum c.in-None.ensures.steps.0).0

pub returns-clause-waiting : goal.returns-clause-waiting
returns-clause-waiting c =
    let it = c.args.self.now in
    let s = it.snapshot.now in
    let f = λ (j : ℕ). part_if_boarded s it.car (price_at it.prices.now) (has it.required) j (soonest s it.car c.args.stand.now (call_of s j).origin) in
    λ j. all_filtered (call_count s) c.args.calls c.loop-call.waiting (λ k. adds (f k)) _ c.loop-call.invariant.waiting c.in-None.ensures.steps.0 j

pub returns-clause-low : goal.returns-clause-low
returns-clause-low c =
    let it = c.args.self.now in
    let s = it.snapshot.now in
    let f = λ (j : ℕ). part_if_boarded s it.car (price_at it.prices.now) (has it.required) j (soonest s it.car c.args.stand.now (call_of s j).origin) in
    let all = (all_added c.args.calls (call_count s) f _ _ c.loop-call.invariant.sum c.in-None.ensures.steps.0).0 in
    let low = parts_low (call_count s) (has c.args.calls) f
    (λ j lt. part_size s it.car (price_at it.prices.now) (has it.required) j
    (soonest s it.car c.args.stand.now (call_of s j).origin) c.calls-calls.ensures.accepted lt
    (soonest_small s it.car c.args.stand.now (call_of s j).origin c.calls-calls.ensures.accepted it.known c.requires.from
    (c.calls-calls.ensures.accepted.calls j lt).origin) (ride_short s it.car j c.calls-calls.ensures.accepted it.known lt) (it.worth j)) in
    omega (arith, ints, all, low)

pub returns-clause-high : goal.returns-clause-high
returns-clause-high c =
    let it = c.args.self.now in
    let s = it.snapshot.now in
    let f = λ (j : ℕ). part_if_boarded s it.car (price_at it.prices.now) (has it.required) j (soonest s it.car c.args.stand.now (call_of s j).origin) in
    let all = (all_added c.args.calls (call_count s) f _ _ c.loop-call.invariant.sum c.in-None.ensures.steps.0).0 in
    let high = parts_high (call_count s) (has c.args.calls) f
    (λ j lt. part_size s it.car (price_at it.prices.now) (has it.required) j
    (soonest s it.car c.args.stand.now (call_of s j).origin) c.calls-calls.ensures.accepted lt
    (soonest_small s it.car c.args.stand.now (call_of s j).origin c.calls-calls.ensures.accepted it.known c.requires.from
    (c.calls-calls.ensures.accepted.calls j lt).origin) (ride_short s it.car j c.calls-calls.ensures.accepted it.known lt) (it.worth j)) in
    omega (arith, ints, all, high)
