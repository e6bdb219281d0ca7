use Rattle.std.proofs.Common.{arith}
use Rattle.elevator_model.specs.Tours.{none_taken, start_of}
use Rattle.tour_rules.proofs.Taken.{tour_apart}
use Rattle.tour_cost.proofs.Short.{calls-le}
use Rattle.restricted_master.proofs.columns.Column.new.Goals as goal

pub calls_of-requires : goal.calls_of-requires
calls_of-requires c = λ j h.
    let s = c.args.snapshot.now in
    let below = (tour_apart s c.args.car none_taken (start_of s c.args.car) 1 c.args.tour c.requires.feasible j h).0 in
    let few = calls-le s c.calls.ensures.accepted in
    omega (arith, below, few)
