use Rattle.car_motion.specs.Times.{AreTimes}
use Rattle.car_motion.proofs.times_of.Given as goal

abbrev pub invariant-loop-place : goal.invariant-loop-place
invariant-loop-place l = AreTimes l.heights l.speed l.accel l.place l.times.items
