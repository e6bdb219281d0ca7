use Rattle.std.proofs.Common.{arith}
use Rattle.tour_rules.proofs.Riders.{carried_persons}
use Rattle.tour_rules.proofs.places.persons_carried.Goals as goal

pub persons_of_groups-requires-clause-few : goal.persons_of_groups-requires-clause-few
persons_of_groups-requires-clause-few c =
    let s = c.args.snapshot.now in
    let within = (c.calls.ensures.accepted.placed c.args.car c.requires).capacity in
    let most = (c.calls.ensures.accepted.building.cars c.args.car c.requires).capacity_high in
    rw c.aboard.ensures.value (omega (arith, within, most))

pub returns-clause-value : goal.returns-clause-value
returns-clause-value c = λ p t.
    let s = c.args.snapshot.now in
    let a = rw c.calls.ensures.value at c.persons_of_calls.ensures.value in
    let b = rw c.aboard.ensures.value at c.persons_of_groups.ensures.value in
    carried_persons s c.args.car c.args.place.now c.args.heading c.persons_of_calls.result c.persons_of_groups.result a b p t
