use Rattle.std.proofs.Common.{◌≡◌, ◌+◌, ◌*◌, List, get_or, length, ap, sym, ◌∙◌, arith}
use Rattle.elevator_model.specs.declared.Aboard.{Aboard}
use Rattle.elevator_model.specs.Snapshot.{group_of, no_group}
use Rattle.car_layout.specs.Layouts.{is_group_to}
use Rattle.call_sets.proofs.Sums.{sum_where-take, sum_where-skip}
use Rattle.car_layout.proofs.GroupLemmas.{moments_low, persons_few}
use Rattle.car_layout.proofs.groups.riders_to.Goals as goal
use Rattle.car_layout.proofs.groups.riders_to.Goals.{then-goes_to, else-goes_to}

pub overflow_add-persons : goal.overflow_add-persons
overflow_add-persons c =
    let s = c.args.snapshot.now in
    let here = ap (λ (groups : List Aboard). is_group_to groups c.args.car c.args.floor c.loop-k.k) (sym c.aboard-groups.ensures.value) ∙ sym c.goes_to.ensures
    ∙ c.if-goes_to.true in
    let more = sum_where-take c.loop-k.k (is_group_to s.aboard c.args.car c.args.floor) (λ k. (group_of s k).persons) here in
    let same = ap length c.aboard-groups.ensures.value in
    let few = persons_few s c.args.car c.args.floor (c.loop-k.k + 1) c.aboard-groups.ensures.accepted c.requires (omega (arith, same, c.loop-k-test.true)) in
    let item : (group_of s c.loop-k.k).persons ≡ (get_or c.aboard-groups.result.now c.loop-k.k no_group).persons =
    ap (λ (groups : List Aboard). (get_or groups c.loop-k.k no_group).persons) (sym c.aboard-groups.ensures.value) in
    let so_far = c.loop-k.invariant.persons in
    omega (arith, more, few, item, so_far)

pub overflow_add-moments : goal.overflow_add-moments
overflow_add-moments c =
    let s = c.args.snapshot.now in
    let here = ap (λ (groups : List Aboard). is_group_to groups c.args.car c.args.floor c.loop-k.k) (sym c.aboard-groups.ensures.value) ∙ sym c.goes_to.ensures
    ∙ c.if-goes_to.true in
    let more = sum_where-take c.loop-k.k (is_group_to s.aboard c.args.car c.args.floor) (λ k. (group_of s k).persons * (group_of s k).boarded) here in
    let same = ap length c.aboard-groups.ensures.value in
    let few = moments_low s c.args.car c.args.floor (c.loop-k.k + 1) c.aboard-groups.ensures.accepted c.requires (omega (arith, same, c.loop-k-test.true)) in
    let item : (group_of s c.loop-k.k).persons * (group_of s c.loop-k.k).boarded
    ≡ (get_or c.aboard-groups.result.now c.loop-k.k no_group).persons * (get_or c.aboard-groups.result.now c.loop-k.k no_group).boarded =
    ap (λ (groups : List Aboard). (get_or groups c.loop-k.k no_group).persons * (get_or groups c.loop-k.k no_group).boarded)
    (sym c.aboard-groups.ensures.value) in
    let so_far = c.loop-k.invariant.moments in
    omega (arith, more, few, item, so_far)

pub loop-k-preserved : goal.loop-k-preserved
loop-k-preserved c =
    let s = c.args.snapshot.now in
    let here = ap (λ (groups : List Aboard). is_group_to groups c.args.car c.args.floor c.loop-k.k) (sym c.aboard-groups.ensures.value)
    ∙ sym c.goes_to.ensures in
    let persons : (group_of s c.loop-k.k).persons ≡ (get_or c.aboard-groups.result.now c.loop-k.k no_group).persons =
    ap (λ (groups : List Aboard). (get_or groups c.loop-k.k no_group).persons) (sym c.aboard-groups.ensures.value) in
    let moments : (group_of s c.loop-k.k).persons * (group_of s c.loop-k.k).boarded
    ≡ (get_or c.aboard-groups.result.now c.loop-k.k no_group).persons * (get_or c.aboard-groups.result.now c.loop-k.k no_group).boarded =
    ap (λ (groups : List Aboard). (get_or groups c.loop-k.k no_group).persons * (get_or groups c.loop-k.k no_group).boarded)
    (sym c.aboard-groups.ensures.value) in
    let persons_before = c.loop-k.invariant.persons in
    let moments_before = c.loop-k.invariant.moments in
    let test = is_group_to s.aboard c.args.car c.args.floor in
    elim c.if-goes_to.branch [
      | then-goes_to w ↦ (
          let more_persons = sum_where-take c.loop-k.k test (λ k. (group_of s k).persons) (here ∙ w.if-goes_to.true) in
          let more_moments = sum_where-take c.loop-k.k test (λ k. (group_of s k).persons * (group_of s k).boarded) (here ∙ w.if-goes_to.true) in
          record {
            persons = omega (arith, more_persons, persons, persons_before, w.persons-is);
            moments =
                omega (arith, more_moments, moments, moments_before, w.moments-is);
          })
      | else-goes_to w ↦ (
          let more_persons = sum_where-skip c.loop-k.k test (λ k. (group_of s k).persons) (here ∙ w.if-goes_to.false) in
          let more_moments = sum_where-skip c.loop-k.k test (λ k. (group_of s k).persons * (group_of s k).boarded) (here ∙ w.if-goes_to.false) in
          record { persons = omega (arith, more_persons, persons_before, w.persons-is); moments = omega (arith, more_moments, moments_before, w.moments-is) })
    ]

pub returns-clause-few : goal.returns-clause-few
returns-clause-few c =
    let s = c.args.snapshot.now in
    let same = ap length c.aboard-groups.ensures.value in
    let few = persons_few s c.args.car c.args.floor c.loop-k.k c.aboard-groups.ensures.accepted c.requires (omega (arith, same, c.loop-k.auto.k-end)) in
    let so_far = c.loop-k.invariant.persons in
    omega (arith, few, so_far)

pub returns-clause-bounded : goal.returns-clause-bounded
returns-clause-bounded c =
    let s = c.args.snapshot.now in
    let same = ap length c.aboard-groups.ensures.value in
    let few = moments_low s c.args.car c.args.floor c.loop-k.k c.aboard-groups.ensures.accepted c.requires (omega (arith, same, c.loop-k.auto.k-end)) in
    let so_far = c.loop-k.invariant.moments in
    omega (arith, few, so_far)
