use Rattle.std.proofs.Common.{ℕ, ◌<◌, length, subst, ap, arith}
use Rattle.std.proofs.lemmas.Int.{ints}
use Rattle.call_sets.specs.Counting.{has}
use Rattle.elevator_model.specs.Partial.{course_of}
use Rattle.elevator_model.specs.Snapshot.{IsAccepted, car_count}
use Rattle.search_model.specs.Prices.{price_at}
use Rattle.search_model.proofs.BoundLemmas.{bound_is_at_least, bound_narrows}
use Rattle.partial_tours.proofs.Follow.{is_some_has}
use Rattle.partial_tours.proofs.Prefixes.{moves_few}
use Rattle.pricing_bound.specs.LowerLemmas.{bound_is_lower, longer_grows}
use Rattle.pricing_bound.proofs.bounds.bound.Goals as goal

pub prove-unreachable-requires-3 : goal.prove-unreachable-requires-3
prove-unreachable-requires-3 c =
    let t = c.args.prefix.now in
    let a = subst IsAccepted c.requires.snapshot c.calls.ensures.accepted in
    let b = subst (λ (n : ℕ). n < car_count t.snapshot) c.car.ensures.value c.car.ensures.car in
    let few = moves_few t.snapshot t.car t.moves a b c.moves.ensures.lawful in
    let same = ap length c.moves.ensures.value in
    omega (arith, few, same)

pub returns-clause-lower : goal.returns-clause-lower
returns-clause-lower c = λ tour begins within.
    let t = c.args.prefix.now in
    let price = price_at c.args.prices.now in
    let a = subst IsAccepted c.requires.snapshot c.calls.ensures.accepted in
    let b = subst (λ (n : ℕ). n < car_count t.snapshot) c.car.ensures.value c.car.ensures.car in
    let led = is_some_has (course_of t.snapshot t.car t.moves) c.moves.ensures.lawful in
    let value = c.all_parts.ensures.value led.0 led.1 in
    let law = bound_is_lower t.snapshot t.car price (has c.args.allowed) (has c.args.required) t.moves led.0 tour a b led.1 begins within in
    omega (arith, ints, value, law)

pub returns-clause-growth : goal.returns-clause-growth
returns-clause-growth c = λ later y are leads.
    let t = c.args.prefix.now in
    let price = price_at c.args.prices.now in
    let a = subst IsAccepted c.requires.snapshot c.calls.ensures.accepted in
    let b = subst (λ (n : ℕ). n < car_count t.snapshot) c.car.ensures.value c.car.ensures.car in
    let led = is_some_has (course_of t.snapshot t.car t.moves) c.moves.ensures.lawful in
    let value = c.all_parts.ensures.value led.0 led.1 in
    let law = longer_grows t.snapshot t.car price (has c.args.allowed) (has c.args.required) t.moves led.0 later y a b led.1 are leads in
    omega (arith, ints, value, law)

pub returns-clause-least : goal.returns-clause-least
returns-clause-least c = λ x e are.
    let t = c.args.prefix.now in
    let price = price_at c.args.prices.now in
    let a = subst IsAccepted c.requires.snapshot c.calls.ensures.accepted in
    let b = subst (λ (n : ℕ). n < car_count t.snapshot) c.car.ensures.value c.car.ensures.car in
    let value = c.all_parts.ensures.value x e in
    let law = bound_is_at_least t.snapshot t.car price (has c.args.allowed) (has c.args.required) t.moves x a b are e in
    omega (arith, ints, value, law)

pub returns-clause-narrow : goal.returns-clause-narrow
returns-clause-narrow c = λ allowed' required' x e fewer more inside.
    let t = c.args.prefix.now in
    let price = price_at c.args.prices.now in
    let value = c.all_parts.ensures.value x e in
    let law = bound_narrows t.snapshot t.car price (has c.args.allowed) (has c.args.required) allowed' required' x fewer more inside in
    omega (arith, ints, value, law)
