use Rattle.std.proofs.Common.{◌-◌, ◌*◌, ◌∙◌, ℕ, sym, ap, arith}
use Rattle.elevator_model.specs.Building.{Building}
use Rattle.elevator_model.specs.Snapshot.{Snapshot, group_of}
use Rattle.tour_rules.specs.Leaving.{cost_of_group}
use Rattle.partial_tours.proofs.Departing.{groups_gone, groups_persons, groups_cost, groups_fit, product_small, weighed_rides}
use Rattle.partial_tours.proofs.leaving.groups_leaving.Goals as goal

pub returns-then-contains-clause-persons : goal.returns-then-contains-clause-persons
returns-then-contains-clause-persons c =
    sym (groups_gone c.args.layout.now.snapshot c.args.layout.now.car c.args.visited c.args.floor (λ k. (group_of c.args.layout.now.snapshot k).persons)
    (sym c.contains.ensures ∙ c.if-contains.true))

pub returns-then-contains-clause-cost : goal.returns-then-contains-clause-cost
returns-then-contains-clause-cost c =
    sym (groups_gone c.args.layout.now.snapshot c.args.layout.now.car c.args.visited c.args.floor
    (λ k. cost_of_group c.args.layout.now.snapshot k c.args.opened) (sym c.contains.ensures ∙ c.if-contains.true))

pub overflow_mul-ridden : goal.overflow_mul-ridden
overflow_mul-ridden c =
    let small = product_small c.persons_to-persons.result c.args.opened 64 100000000000 c.persons_to-persons.ensures.few c.requires.early in
    omega (arith, small)

pub overflow_sub-ridden : goal.overflow_sub-ridden
overflow_sub-ridden c =
    let s = c.args.layout.now.snapshot in
    let fit = groups_fit s c.args.layout.now.car c.args.floor c.args.opened c.snapshot.ensures.accepted c.requires.late in
    let persons = ap (λ (n : ℕ). n * c.args.opened) c.persons_to-persons.ensures.value in
    let moments = c.moments_to.ensures in
    omega (arith, fit, persons, moments)

pub overflow_mul-result : goal.overflow_mul-result
overflow_mul-result c =
    let small = product_small c.persons_to-persons.result c.args.opened 64 100000000000 c.persons_to-persons.ensures.few c.requires.early in
    let high = ap (λ (s : Snapshot). s.building.travel_weight) c.snapshot.ensures.value in
    let value = c.travel_weight-travel_weight.ensures.value in
    let building = ap (λ (b : Building). b.travel_weight) c.building.ensures.value in
    let weight = c.snapshot.ensures.accepted.building.travel_weight in
    let all = product_small c.travel_weight-travel_weight.result (c.persons_to-persons.result * c.args.opened - c.moments_to.result) 1000 6400000000000
    (omega (arith, high, value, building, weight)) (omega (arith, small)) in
    omega (arith, all)

pub returns-clause-persons : goal.returns-clause-persons
returns-clause-persons c = c.persons_to-persons.ensures.value
    ∙ sym (groups_persons c.args.layout.now.snapshot c.args.layout.now.car c.args.visited c.args.floor (sym c.contains.ensures ∙ c.if-contains.false))

pub returns-clause-cost : goal.returns-clause-cost
returns-clause-cost c =
    let s = c.args.layout.now.snapshot in
    let car = c.args.layout.now.car in
    let cost = groups_cost s car c.args.visited c.args.floor c.args.opened c.snapshot.ensures.accepted c.requires.late
    (sym c.contains.ensures ∙ c.if-contains.false) in
    let weight = c.travel_weight-travel_weight.ensures.value ∙ ap (λ (b : Building). b.travel_weight) c.building.ensures.value
    ∙ ap (λ (t : Snapshot). t.building.travel_weight) c.snapshot.ensures.value in
    weighed_rides _ c.travel_weight-travel_weight.result s.building.travel_weight c.persons_to-persons.result _ c.moments_to.result _ c.args.opened weight
    c.persons_to-persons.ensures.value c.moments_to.ensures (groups_fit s car c.args.floor c.args.opened c.snapshot.ensures.accepted c.requires.late) cost

pub returns-clause-small : goal.returns-clause-small
returns-clause-small c =
    let small = product_small c.persons_to-persons.result c.args.opened 64 100000000000 c.persons_to-persons.ensures.few c.requires.early in
    let value = c.travel_weight-travel_weight.ensures.value in
    let building = ap (λ (b : Building). b.travel_weight) c.building.ensures.value in
    let high = ap (λ (s : Snapshot). s.building.travel_weight) c.snapshot.ensures.value in
    let weight = c.snapshot.ensures.accepted.building.travel_weight in
    let all = product_small c.travel_weight-travel_weight.result (c.persons_to-persons.result * c.args.opened - c.moments_to.result) 1000 6400000000000
    (omega (arith, high, value, building, weight)) (omega (arith, small)) in
    omega (arith, all)
