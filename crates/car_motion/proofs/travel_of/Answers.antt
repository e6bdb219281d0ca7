use Rattle.car_motion.proofs.Squares.{AreRising, IsTravelOf-from, IsTravelSquare-from}
use Rattle.car_motion.proofs.travel_of.Goals as goal

pub of_square-requires : goal.of_square-requires
of_square-requires c =
    let heights = c.args.heights.now in
    let of = IsTravelOf-from heights c.args.speed c.args.accel c.in_ok-times.times.items c.in_ok-times.ensures in
    let rising : AreRising heights = record { low = c.requires.low; rising = c.requires.rising } in
    IsTravelSquare-from heights c.args.speed c.args.accel _ c.requires.floors_low c.requires.floors_high rising c.requires.speed_low c.requires.speed_high
    c.requires.accel_low of

pub returns : goal.returns
returns c =
    rw c.of_square.ensures (IsTravelOf-from c.args.heights.now c.args.speed c.args.accel c.in_ok-times.times.items c.in_ok-times.ensures)
