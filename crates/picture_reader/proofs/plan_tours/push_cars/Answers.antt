use Rattle.lift_picture.proofs.TextLemmas.{texts_more}
use Rattle.picture_reader.specs.PlanLegs.{car_legs_in}
use Rattle.picture_reader.proofs.plan_tours.push_cars.Goals as goal

pub loop-car-preserved : goal.loop-car-preserved
loop-car-preserved c =
    texts_more (car_legs_in c.args.snapshot.now c.args.plan.now) c.loop-car.car c.args.out.now.items c.loop-car.out.items c.push_car_in.new.out.items
    c.loop-car.invariant c.in_ok-push_car_in.ensures
