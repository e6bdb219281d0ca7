use Rattle.std.proofs.Common.{◌<◌, subst, sym, ap, ◌∙◌}
use Rattle.elevator_model.specs.Snapshot.{Snapshot, IsAccepted, car_count}
use Rattle.partial_tours.specs.Courses.{reached}
use Rattle.pricing_bound.proofs.PartLemmas.{placed_at, group_straight, group_found}
use Rattle.pricing_bound.proofs.rides.straight_cost_of_group.Goals as goal

pub returns-clause-cost : goal.returns-clause-cost
returns-clause-cost c = λ x e.
    let t = c.args.prefix.now in
    let p = reached t.snapshot t.car x in
    let a = subst IsAccepted c.requires.same c.aboard.ensures.accepted in
    let b = subst (λ (s : Snapshot). t.car < car_count s) c.requires.same c.requires.car in
    let building = c.building.ensures.value ∙ ap (λ (s : Snapshot). s.building) c.requires.same in
    let groups = c.aboard.ensures.value ∙ ap (λ (s : Snapshot). s.aboard) c.requires.same in
    group_found t.snapshot c.building.result.now c.aboard.result.now c.args.group p.opened p.floor c.straight_arrival-delivered.result c.cost_of_group.result
    building groups (c.straight_arrival-delivered.ensures.value x e) c.cost_of_group.ensures.cost
    ∙ sym (group_straight t.snapshot t.car p c.args.group (placed_at t x a b e))
