use Rattle.std.proofs.Common.{◌≡◌, ◌<◌, ◌∙◌, ◌++◌, ◌∷◌, [], List, map, get_or, sym, ap, subst, length, arith}
use Rattle.std.specs.List.{filter, range_with_len}
use Rattle.elevator_model.specs.declared.Aboard.{Aboard}
use Rattle.elevator_model.specs.Snapshot.{Snapshot, car_count, group_of, no_group}
use Rattle.search_model.specs.Advancing.{rides_on}
use Rattle.day_state.proofs.CarsReached.{car-reached, group-rides}
use Rattle.day_state.proofs.Steps.{chosen-with, chosen-without}
use Rattle.day_state.proofs.remaining.groups_staying.Goals as goal
use Rattle.day_state.proofs.remaining.groups_staying.Goals.{then-is_carried+in_ok-push, else-is_carried}

pub loop-group-preserved : goal.loop-group-preserved
loop-group-preserved c = λ w t same r.
    let s = c.args.snapshot.now in
    let k = c.loop-group.group-index in
    let groups = c.aboard-group-items.ensures.value in
    let group = get_or c.aboard-group-items.result.now k no_group in
    let is : group ≡ group_of s k = ap (λ (xs : List Aboard). get_or xs k no_group) groups in
    let below : k < length s.aboard = (let long = ap length groups in omega (arith, long, c.loop-group-test.true)) in
    let in_car : group.car < length c.args.reached.now =
    (let car = subst (λ (g : Aboard). g.car < car_count s) (sym is) (c.aboard-group-items.ensures.accepted.groups k below).car in let count = c.requires in
    omega (arith, car, count)) in
    let there = car-reached w t c.args.reached.now group.car c.index-reached-group.result r in_car c.index-reached-group.is in
    let rides = c.is_carried.ensures
    ∙ group-rides w t k group c.index-reached-group.result (subst (λ (x : Snapshot). k < length x.aboard) (sym same) below)
    (is ∙ ap (λ (x : Snapshot). group_of x k) (sym same)) there in
    let so_far = c.loop-group.invariant w t same r in
    elim c.if-is_carried.branch [
      | then-is_carried+in_ok-push v ↦ ap (λ x. x.items) v.groups-is ∙ v.in_ok-push.ensures.items ∙ ap (λ (xs : List Aboard). xs ++ group ∷ []) so_far
          ∙ ap (λ (g : Aboard). map (group_of s) (filter (rides_on w t) (range_with_len 0 k)) ++ g ∷ []) is
          ∙ sym (chosen-with (group_of s) (rides_on w t) k (sym rides ∙ v.if-is_carried.true))
      | else-is_carried v ↦ ap (λ x. x.items) v.groups-is ∙ so_far ∙ sym (chosen-without (group_of s) (rides_on w t) k (sym rides ∙ v.if-is_carried.false))
    ]
