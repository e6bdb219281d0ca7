use Rattle.std.proofs.Common.{◌*◌, ◌≤◌, arith}
use Rattle.std.proofs.Math.Nat.{mul-le-mul}
use Rattle.car_motion.proofs.Least.{least-short, least-long, IsLeastTime-le}
use Rattle.car_motion.proofs.least_time.Goals as goal

pub returns-then-accel-mm-clause-least : goal.returns-then-accel-mm-clause-least
returns-then-accel-mm-clause-least c =
    least-short c.args.speed c.args.accel c.args.mm c.root_up.result (omega (arith, c.requires.accel_low)) c.if-accel-mm.true
    (rw c.div_ceil.ensures at c.root_up.ensures.enough)
    (λ r h. c.root_up.ensures.least r (rw c.div_ceil.ensures h))

pub returns-then-accel-mm-clause-bounded : goal.returns-then-accel-mm-clause-bounded
returns-then-accel-mm-clause-bounded c =
    IsLeastTime-le c.args.speed c.args.accel c.args.mm c.root_up.result c.requires.speed_low c.requires.speed_high c.requires.accel_low c.requires.distance
    (least-short c.args.speed c.args.accel c.args.mm c.root_up.result (omega (arith, c.requires.accel_low)) c.if-accel-mm.true
    (rw c.div_ceil.ensures at c.root_up.ensures.enough)
    (λ r h. c.root_up.ensures.least r (rw c.div_ceil.ensures h)))

pub returns-else-accel-mm-clause-least : goal.returns-else-accel-mm-clause-least
returns-else-accel-mm-clause-least c =
    let positive : 100 * 100 ≤ c.args.accel * c.args.speed = mul-le-mul c.requires.accel_low c.requires.speed_low in
    rw c.div_ceil-else-accel-mm.ensures (least-long c.args.speed c.args.accel c.args.mm (omega (arith, positive)) c.if-accel-mm.false)

pub returns-else-accel-mm-clause-bounded : goal.returns-else-accel-mm-clause-bounded
returns-else-accel-mm-clause-bounded c =
    IsLeastTime-le c.args.speed c.args.accel c.args.mm c.div_ceil-else-accel-mm.result c.requires.speed_low c.requires.speed_high c.requires.accel_low
    c.requires.distance
    (let positive : 100 * 100 ≤ c.args.accel * c.args.speed = mul-le-mul c.requires.accel_low c.requires.speed_low in
    rw c.div_ceil-else-accel-mm.ensures (least-long c.args.speed c.args.accel c.args.mm (omega (arith, positive)) c.if-accel-mm.false))
