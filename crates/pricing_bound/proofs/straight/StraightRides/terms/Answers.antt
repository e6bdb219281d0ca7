use Rattle.std.proofs.Common.{◌∙◌, ap, refl, arith}
use Rattle.std.specs.Prelude.{ℤ, ◌+ℤ◌}
use Rattle.std.proofs.lemmas.Int.{ints}
use mir.Val.{to_z, of_z}
use mir.Syntax.{w128}
use Rattle.elevator_model.specs.Snapshot.{call_count}
use Rattle.tour_rules.proofs.Stops.{most_calls_few}
use Rattle.pricing_bound.specs.Rates.{aim_at, term_at}
use Rattle.pricing_bound.proofs.RateLemmas.{stored}
use Rattle.pricing_bound.proofs.WaitingLemmas.{none_so_far, one_added}
use Rattle.pricing_bound.proofs.straight.StraightRides.terms.Goals as goal

pub loop-call-init : goal.loop-call-init
loop-call-init c =
    let it = c.args.self.now in
    let a = aim_at it.rates.now it.car it.allowed it.required in
    let left = ap (λ it. it.left) c.into_iter-call-iterator.ensures.into_iter_gives ∙ c.iter-call-items.ensures in
    none_so_far c.args.calls c.into_iter-call-iterator.result.left (call_count it.rates.now.snapshot) (term_at a c.args.moment) _
    (most_calls_few it.rates.now.snapshot c.snapshot-accepted.ensures.accepted) c.requires.within left refl

pub loop-call-preserved : goal.loop-call-preserved
loop-call-preserved c =
    let it = c.args.self.now in
    let a = aim_at it.rates.now it.car it.allowed it.required in
    let so_sum = to_z w128 c.loop-call.sum-bits in
    let so_far = c.loop-call.invariant in
    let low = so_far.low in
    let high = so_far.high in
    let few = so_far.few in
    let term_low = c.term-sum.ensures.low in
    let term_high = c.term-sum.ensures.high in
    let is = c.term-sum.ensures.value in
    let term = stored c.term-sum.result (omega (arith, ints, term_low)) (omega (arith, ints, term_high)) in
    let sum = ap (λ (z : ℤ). to_z w128 (of_z w128 (so_sum +ℤ z))) term
    ∙ stored (so_sum +ℤ c.term-sum.result) (omega (arith, ints, low, term_low)) (omega (arith, ints, high, term_high)) ∙ ap (λ (z : ℤ). so_sum +ℤ z) is in
    one_added c.args.calls (call_count it.rates.now.snapshot) c.in-Some.call (term_at a c.args.moment) _ _ so_sum _ so_far c.in-Some.ensures.steps sum
    (omega (arith, ints, term_low, is)) (omega (arith, ints, term_high, is))
