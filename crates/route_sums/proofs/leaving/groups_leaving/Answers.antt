use Rattle.std.proofs.Common.{◌∙◌, sym, ap, arith}
use Rattle.elevator_model.specs.Building.{Building}
use Rattle.elevator_model.specs.Snapshot.{Snapshot, group_of}
use Rattle.partial_tours.proofs.Departing.{groups_gone, groups_persons, product_small}
use Rattle.route_sums.proofs.LeavingLemmas.{groups_low}
use Rattle.route_sums.proofs.leaving.groups_leaving.Goals as goal

pub returns-then-contains-clause-persons : goal.returns-then-contains-clause-persons
returns-then-contains-clause-persons c =
    sym (groups_gone c.args.layout.now.snapshot c.args.layout.now.car c.args.visited c.args.floor (λ k. (group_of c.args.layout.now.snapshot k).persons)
    (sym c.contains.ensures ∙ c.if-contains.true))

pub overflow_mul-persons : goal.overflow_mul-persons
overflow_mul-persons c =
    let small = product_small c.persons_to-persons.result c.args.opened 64 100000000000 c.persons_to-persons.ensures.few c.requires.early in
    omega (arith, small)

pub overflow_mul-result : goal.overflow_mul-result
overflow_mul-result c =
    let small = product_small c.persons_to-persons.result c.args.opened 64 100000000000 c.persons_to-persons.ensures.few c.requires.early in
    let high = ap (λ (s : Snapshot). s.building.travel_weight) c.snapshot.ensures.value in
    let value = c.travel_weight-travel_weight.ensures.value in
    let building = ap (λ (b : Building). b.travel_weight) c.building.ensures.value in
    let weight = c.snapshot.ensures.accepted.building.travel_weight in
    let ridden = c.saturating_sub-ridden.ensures in
    let all = product_small c.travel_weight-travel_weight.result c.saturating_sub-ridden.result 1000 6400000000000
    (omega (arith, high, value, building, weight)) (omega (arith, small, ridden)) in
    omega (arith, all)

pub returns-clause-persons : goal.returns-clause-persons
returns-clause-persons c = c.persons_to-persons.ensures.value
    ∙ sym (groups_persons c.args.layout.now.snapshot c.args.layout.now.car c.args.visited c.args.floor (sym c.contains.ensures ∙ c.if-contains.false))

pub returns-clause-cost : goal.returns-clause-cost
returns-clause-cost c =
    let s = c.args.layout.now.snapshot in
    let weight = c.travel_weight-travel_weight.ensures.value ∙ ap (λ (b : Building). b.travel_weight) c.building.ensures.value
    ∙ ap (λ (t : Snapshot). t.building.travel_weight) c.snapshot.ensures.value in
    groups_low s c.args.layout.now.car c.args.visited c.args.floor c.args.opened c.travel_weight-travel_weight.result c.persons_to-persons.result
    c.moments_to.result c.saturating_sub-ridden.result
    (sym c.contains.ensures ∙ c.if-contains.false) weight c.persons_to-persons.ensures.value c.moments_to.ensures c.saturating_sub-ridden.ensures

pub returns-clause-small : goal.returns-clause-small
returns-clause-small c =
    let small = product_small c.persons_to-persons.result c.args.opened 64 100000000000 c.persons_to-persons.ensures.few c.requires.early in
    let value = c.travel_weight-travel_weight.ensures.value in
    let building = ap (λ (b : Building). b.travel_weight) c.building.ensures.value in
    let high = ap (λ (s : Snapshot). s.building.travel_weight) c.snapshot.ensures.value in
    let weight = c.snapshot.ensures.accepted.building.travel_weight in
    let ridden = c.saturating_sub-ridden.ensures in
    let all = product_small c.travel_weight-travel_weight.result c.saturating_sub-ridden.result 1000 6400000000000
    (omega (arith, high, value, building, weight)) (omega (arith, small, ridden)) in
    omega (arith, all)
