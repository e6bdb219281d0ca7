use Rattle.std.proofs.Common.{◌≡◌, ℕ, ◌+◌, List, get_or, length, ap, ◌∙◌, arith}
use Rattle.elevator_model.specs.declared.Aboard.{Aboard}
use Rattle.elevator_model.specs.Building.{Building}
use Rattle.elevator_model.specs.Snapshot.{Snapshot, no_group}
use Rattle.tour_rules.specs.Leaving.{is_group_off, group_cost, cost_of_group}
use Rattle.call_sets.proofs.Sums.{sum_where-take, sum_where-skip}
use Rattle.tour_rules.proofs.Groups.{off-here, groups_cost-le}
use Rattle.tour_rules.proofs.riding.cost_of_groups_off.Goals as goal
use Rattle.tour_rules.proofs.riding.cost_of_groups_off.Goals.{then-is_off, else-is_off}

-- the cost of one group, as the code finds it
cost-here : (s : Snapshot) (b : Building) (groups : List Aboard) (k delivered r : ℕ) → b ≡ s.building → groups ≡ s.aboard
    → r ≡ group_cost b (get_or groups k no_group) delivered → cost_of_group s k delivered ≡ r
cost-here s b groups k delivered r same_building same e = cc

pub overflow_add-cost : goal.overflow_add-cost
overflow_add-cost c =
    let s = c.args.snapshot.now in
    let here = off-here s c.args.car c.args.visited c.args.floor c.loop-k.k c.aboard-groups.result.now c.is_off.result c.aboard-groups.ensures.value
    c.is_off.ensures ∙ c.if-is_off.true in
    let more = sum_where-take c.loop-k.k (is_group_off s c.args.car c.args.visited c.args.floor) (λ k. cost_of_group s k c.args.delivered) here in
    let same = ap length c.aboard-groups.ensures.value in
    let few = groups_cost-le s c.args.car c.args.visited c.args.floor (c.loop-k.k + 1) c.args.delivered c.aboard-groups.ensures.accepted c.requires.car
    (omega (arith, same, c.loop-k-test.true)) c.requires.delivered in
    let item = cost-here s c.building-building.result.now c.aboard-groups.result.now c.loop-k.k c.args.delivered c.cost_of_group-cost.result
    c.building-building.ensures.value c.aboard-groups.ensures.value c.cost_of_group-cost.ensures.cost in
    let so_far = c.loop-k.invariant in
    omega (arith, more, few, item, so_far)

pub loop-k-preserved : goal.loop-k-preserved
loop-k-preserved c =
    let s = c.args.snapshot.now in
    let here = off-here s c.args.car c.args.visited c.args.floor c.loop-k.k c.aboard-groups.result.now c.is_off.result c.aboard-groups.ensures.value
    c.is_off.ensures in
    let so_far = c.loop-k.invariant in
    elim c.if-is_off.branch [
      | then-is_off w ↦
          (let item = cost-here s c.building-building.result.now c.aboard-groups.result.now c.loop-k.k c.args.delivered w.cost_of_group-cost.result
          c.building-building.ensures.value c.aboard-groups.ensures.value w.cost_of_group-cost.ensures.cost in
          let more = sum_where-take c.loop-k.k (is_group_off s c.args.car c.args.visited c.args.floor) (λ k. cost_of_group s k c.args.delivered)
          (here ∙ w.if-is_off.true) in omega (arith, more, item, so_far, w.cost-is))
      | else-is_off w ↦
          (let more = sum_where-skip c.loop-k.k (is_group_off s c.args.car c.args.visited c.args.floor) (λ k. cost_of_group s k c.args.delivered)
          (here ∙ w.if-is_off.false) in omega (arith, more, so_far, w.cost-is))
    ]

pub returns-clause-bounded : goal.returns-clause-bounded
returns-clause-bounded c =
    let s = c.args.snapshot.now in
    let same = ap length c.aboard-groups.ensures.value in
    let few = groups_cost-le s c.args.car c.args.visited c.args.floor c.loop-k.k c.args.delivered c.aboard-groups.ensures.accepted c.requires.car
    (omega (arith, same, c.loop-k.auto.k-end)) c.requires.delivered in
    let so_far = c.loop-k.invariant in
    omega (arith, few, so_far)
