use Rattle.std.proofs.Common.{refl, ap, ◌∙◌}
use Rattle.elevator_model.specs.Snapshot.{moment_of}
use Rattle.partial_tours.proofs.Tallied.{tally_start}
use Rattle.partial_tours.proofs.tally.Tally.start.Goals as goal

pub returns : goal.returns
returns c =
    let moment = c.moment-moment.ensures ∙ ap moment_of c.car.ensures.value in
    tally_start c.args.snapshot.now c.args.car _ c.car.ensures.accepted c.requires moment moment refl
