use Rattle.std.proofs.Common.{◌∙◌, ◌+◌, ap, ltb}
use Rattle.elevator_model.specs.declared.CarSpec.{CarSpec}
use Rattle.elevator_model.specs.Tours.{boards_at}
use Rattle.tour_rules.proofs.RuleLemmas.{capacity_same}
use Rattle.tour_rules.proofs.Riders.{boards_set}
use Rattle.tour_rules.proofs.rules.is_overfull.Goals as goal

pub returns : goal.returns
returns c = λ p stop t same h.
    let s = c.args.snapshot.now in
    let stay = rw (← same) at (c.persons_carried-staying.ensures.value p t) in
    let on = c.persons_boarding-boarding.ensures.value (boards_at s stop) (boards_set s c.args.boards stop h) in
    ap (λ (x : CarSpec). ltb x.capacity (c.persons_carried-staying.result + c.persons_boarding-boarding.result)) c.spec.ensures.value
    ∙ capacity_same s c.args.car c.args.place.now p c.args.boards stop c.persons_carried-staying.result c.persons_boarding-boarding.result t h stay on
