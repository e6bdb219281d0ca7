use Rattle.std.proofs.Common.{sym, subst}
use Rattle.elevator_model.specs.Snapshot.{IsAccepted}
use Rattle.day_state.proofs.TakenLaws.{has-place, taken-accepted}
use Rattle.day_state.proofs.taking.snapshot_with.Goals as goal

pub of_accepted-requires : goal.of_accepted-requires
of_accepted-requires c =
    let place = has-place c.args.snapshot.now c.args.call c.requires.faultless in
    subst IsAccepted (sym c.in_ok-parts.ensures.parts)
    (taken-accepted c.args.snapshot.now c.args.call c.parts_with.ensures.accepted c.requires.call place.room place.car)
