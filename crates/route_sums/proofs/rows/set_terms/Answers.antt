use Rattle.std.proofs.Common.{◌≡◌, ◌+◌, ◌/◌, ◌%◌, ◌∙◌, ℕ, ap, get_or, length, refl, subst, arith}
use Rattle.elevator_model.specs.Building.{Building}
use Rattle.elevator_model.specs.Snapshot.{spec_of}
use Rattle.elevator_model.specs.Travel.{Square, time_between}
use Rattle.route_sums.specs.Rows.{IsTermOf, no_rate}
use Rattle.route_sums.proofs.RowLemmas.{all_put, one_put}
use Rattle.route_sums.proofs.rows.set_terms.Goals as goal

pub loop-place-preserved : goal.loop-place-preserved
loop-place-preserved c =
    let s = c.args.snapshot.now in
    let rates = c.args.rates.now in
    let n = c.loop-place.place in
    let rate = get_or rates (n % length rates) no_rate in
    let lt = c.loop-place-test.true in
    let size = c.loop-place.auto.terms in
    let travel : c.travel-travel.result.now ≡ s.building.travel = c.travel-travel.ensures.value ∙ ap (λ (b : Building). b.travel) c.building.ensures.value in
    let time = c.time-way.ensures.value ∙ ap (λ (t : Square). time_between t (n / length rates) rate.origin) travel in
    let way : c.time-way.result + c.opening_of-opening.result
    ≡ time_between s.building.travel (n / length rates) rate.origin + (spec_of s c.args.car).opening = ap (λ (k : ℕ). k + c.opening_of-opening.result) time
    ∙ ap (λ (k : ℕ). time_between s.building.travel (n / length rates) rate.origin + k) c.opening_of-opening.ensures.value in
    one_put s c.args.car rates n c.loop-place.terms _ c.term_or_none.result c.loop-place.invariant (omega (arith, lt, size))
    (λ has. subst (λ (k : ℕ). IsTermOf rate k c.term_or_none.result) way (c.term_or_none.ensures has)) refl

pub returns : goal.returns
returns c =
    let le = c.loop-place-test.false in
    let size = c.loop-place.auto.terms in
    all_put c.args.snapshot.now c.args.car c.args.rates.now c.loop-place.place c.loop-place.terms c.loop-place.invariant (omega (arith, le, size))
