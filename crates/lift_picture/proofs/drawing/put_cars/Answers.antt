use Rattle.lift_picture.specs.Svg.{car_text}
use Rattle.lift_picture.proofs.TextLemmas.{texts_more}
use Rattle.lift_picture.proofs.drawing.put_cars.Goals as goal

pub loop-car-preserved : goal.loop-car-preserved
loop-car-preserved c =
    texts_more (car_text c.args.frame c.args.legs.now) c.loop-car.car c.args.out.now.items c.loop-car.out.items c.put_car.new.out.items c.loop-car.invariant
    c.in_ok-put_car.ensures
