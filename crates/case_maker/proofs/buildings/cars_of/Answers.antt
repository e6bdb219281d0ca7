use Rattle.search_model.specs.Cases.{case_car}
use Rattle.case_maker.proofs.DrawLemmas.{made-push}
use Rattle.case_maker.proofs.buildings.cars_of.Goals as goal

pub loop-car-preserved : goal.loop-car-preserved
loop-car-preserved c =
    rw c.in_ok-push.ensures.items
    (made-push (case_car c.args.floors) c.loop-car.car c.loop-car.specs.items c.car_of.result c.loop-car.invariant c.car_of.ensures)
