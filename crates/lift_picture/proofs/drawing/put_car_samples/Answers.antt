use Rattle.lift_picture.specs.Svg.{sample_text}
use Rattle.lift_picture.proofs.TextLemmas.{texts_more}
use Rattle.lift_picture.proofs.drawing.put_car_samples.Goals as goal

pub loop-car-preserved : goal.loop-car-preserved
loop-car-preserved c =
    texts_more (sample_text c.args.frame) c.loop-car.car c.args.out.now.items c.loop-car.out.items c.put_sample.new.out.items c.loop-car.invariant
    c.in_ok-put_sample.ensures
