use Rattle.std.proofs.Common.{◌≡◌, ◌<◌, ◌+◌, List, [], get_or, length, sym, ap, ◌∙◌, subst, arith}
use Rattle.std.proofs.lemmas.List.{get_or_default}
use Rattle.elevator_model.specs.declared.Stop.{Stop}
use Rattle.elevator_model.specs.Plans.{tour_of}
use Rattle.elevator_model.specs.Snapshot.{car_count}
use Rattle.restricted_master.specs.Pools.{TourPool}
use Rattle.root_turns.proofs.PlanPools.{IsFilledTo, filled_none, filled_more, filled_all}
use Rattle.root_turns.proofs.pools.put_plan.Goals as goal

pub loop-car-init : goal.loop-car-init
loop-car-init c = filled_none c.args.snapshot.now c.args.plan.now c.args.pool.now c.requires.empty

pub loop-car-preserved : goal.loop-car-preserved
loop-car-preserved c =
    let k = c.loop-car.car in
    let plan = c.args.plan.now in
    let below : k < car_count c.args.snapshot.now =
    (let all = ap length c.tours-tours.ensures in let cars = c.requires.plan.cars in let lt = c.loop-car-test.true in omega (arith, all, cars, lt)) in
    let is : c.in_ok-tour.tour ≡ tour_of plan k = c.in_ok-tour.ensures ∙ c.index-tours-car.is
    ∙ get_or_default c.tours-tours.result.now c.loop-car.car c.index-tours-car.result [] c.loop-car-test.true
    ∙ ap (λ (ts : List (List Stop)). get_or ts c.loop-car.car []) c.tours-tours.ensures in
    subst (λ (p : TourPool). IsFilledTo c.args.snapshot.now plan p (k + 1)) (sym c.put.ensures)
    (filled_more c.args.snapshot.now plan c.loop-car.pool k c.in_ok-tour.tour below is c.loop-car.invariant)

pub returns : goal.returns
returns c =
    let all = ap length c.tours-tours.ensures in
    let cars = c.requires.plan.cars in
    let ended = c.loop-car-test.false in
    let within = c.loop-car.auto.car-end in
    filled_all c.args.snapshot.now c.args.plan.now c.loop-car.pool c.loop-car.car (omega (arith, all, cars, ended, within)) c.loop-car.invariant
