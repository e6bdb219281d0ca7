use Rattle.car_motion.proofs.Squares.{AreTimes-push}
use Rattle.car_motion.proofs.times_of.Goals as goal

pub loop-place-preserved : goal.loop-place-preserved
loop-place-preserved c =
    rw c.in_ok-push.ensures.items
    (AreTimes-push c.args.heights.now c.args.speed c.args.accel c.loop-place.place c.loop-place.times.items c.least_time.result c.loop-place.invariant
    (rw c.abs_diff.ensures at c.least_time.ensures.least))
