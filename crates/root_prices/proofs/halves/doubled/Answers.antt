use Rattle.std.proofs.Common.{◌≡◌, ℕ, List, [], get_or, length, ap, ◌∙◌, subst, arith}
use Rattle.std.proofs.lemmas.List.{get_or_default}
use Rattle.elevator_model.specs.declared.Stop.{Stop}
use Rattle.elevator_model.specs.Plans.{tour_of}
use Rattle.root_prices.specs.Doubles.{doubled_below}
use Rattle.root_prices.proofs.DoubleLaws.{doubled_more}
use Rattle.root_prices.proofs.halves.doubled.Goals as goal

pub loop-car-preserved : goal.loop-car-preserved
loop-car-preserved c =
    let at : c.in_ok-tour.tour ≡ tour_of c.args.plan.now c.loop-car.car = c.in_ok-tour.ensures ∙ c.index-tours-car.is
    ∙ get_or_default c.tours-tours.result.now c.loop-car.car c.index-tours-car.result [] c.loop-car-test.true
    ∙ ap (λ (ts : List (List Stop)). get_or ts c.loop-car.car []) c.tours-tours.ensures in
    doubled_more c.args.plan.now c.loop-car.car c.loop-car.shares c.push.new.self c.in_ok-tour.tour c.loop-car.invariant at c.in_ok-push.ensures.ok

pub returns : goal.returns
returns c =
    let tours = ap length c.tours-tours.ensures in
    let ended = c.loop-car-test.false in
    let within = c.loop-car.auto.car-end in
    let all : c.loop-car.car ≡ length c.args.plan.now = omega (arith, tours, ended, within) in
    subst (λ (n : ℕ). c.loop-car.shares ≡ doubled_below c.args.plan.now n) all c.loop-car.invariant
