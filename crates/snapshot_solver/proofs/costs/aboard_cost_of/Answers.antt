use Rattle.std.proofs.Common.{◌≡◌, ◌==◌, ℕ, Bool, true, false, List, get_or, length, ap, arith}
use Rattle.std.proofs.lemmas.Bool.{eq-eqb, ne_eqb}
use Rattle.call_sets.proofs.Sums.{sum_where-skip, sum_where-take}
use Rattle.elevator_model.specs.declared.Aboard.{Aboard}
use Rattle.elevator_model.specs.Snapshot.{Snapshot, group_of, no_group}
use Rattle.search_model.specs.Solving.{straight_cost}
use Rattle.pricing_bound.proofs.PartLemmas.{groups_few}
use Rattle.snapshot_solver.proofs.costs.aboard_cost_of.Goals as goal
use Rattle.snapshot_solver.proofs.costs.aboard_cost_of.Goals.{then-groups-group, else-groups-group}

pub overflow_cast-group : goal.overflow_cast-group
overflow_cast-group c =
    let few = groups_few c.args.snapshot.now c.aboard-groups.ensures.accepted in
    let same = ap length c.aboard-groups.ensures.value in
    omega (arith, few, same)

pub overflow_add-cost : goal.overflow_add-cost
overflow_add-cost c =
    let few = groups_few c.args.snapshot.now c.aboard-groups.ensures.accepted in
    let same = ap length c.aboard-groups.ensures.value in
    let so_far = c.loop-group.invariant.bounded in
    let more = c.straight_cost_of-cost.ensures.bounded in
    omega (arith, few, same, so_far, more)

-- the group's car, as the code finds it
car-here : (s : Snapshot) (groups : List Aboard) (k car : ℕ) (r : Bool) → groups ≡ s.aboard → ((get_or groups k no_group).car == car) ≡ r
    → ((group_of s k).car == car) ≡ r
car-here s groups k car r same e = cc

pub loop-group-preserved : goal.loop-group-preserved
loop-group-preserved c =
    let s = c.args.snapshot.now in
    let n = c.loop-group.group in
    let mine : ℕ → Bool = λ k. (group_of s k).car == c.args.car in
    let so_far = c.loop-group.invariant.cost_is in
    let bounded = c.loop-group.invariant.bounded in
    elim c.if-groups-group.branch [
      | then-groups-group w ↦
          (let more = sum_where-take n mine (straight_cost s)
          (car-here s c.aboard-groups.result.now n c.args.car true c.aboard-groups.ensures.value (eq-eqb _ c.args.car w.if-groups-group.true)) in
          let cost = w.straight_cost_of-cost.ensures.cost in let most = w.straight_cost_of-cost.ensures.bounded in
          record { cost_is = omega (arith, more, so_far, cost, w.cost-is); bounded = omega (arith, bounded, most, w.cost-is) })
      | else-groups-group w ↦
          (let more = sum_where-skip n mine (straight_cost s)
          (car-here s c.aboard-groups.result.now n c.args.car false c.aboard-groups.ensures.value (ne_eqb _ c.args.car w.if-groups-group.false)) in
          record { cost_is = omega (arith, more, so_far, w.cost-is); bounded = omega (arith, bounded, w.cost-is) })
    ]

pub returns-clause-bounded : goal.returns-clause-bounded
returns-clause-bounded c =
    let few = groups_few c.args.snapshot.now c.aboard-groups.ensures.accepted in
    let same = ap length c.aboard-groups.ensures.value in
    let so_far = c.loop-group.invariant.bounded in
    omega (arith, few, same, so_far)
