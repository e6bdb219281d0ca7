use Rattle.std.proofs.Common.{◌∙◌, ℕ, List, length, get_or, ap, sym, subst, arith}
use Rattle.std.specs.List.{sum_by}
use Rattle.elevator_model.specs.declared.Call.{Call}
use Rattle.call_sets.specs.Counting.{members}
use Rattle.elevator_model.specs.Snapshot.{call_count, call_of}
use Rattle.tour_rules.specs.Places.{call_in}
use Rattle.tour_rules.specs.Leaving.{cost_of_call}
use Rattle.tour_rules.proofs.Stops.{most_calls_few}
use Rattle.partial_tours.proofs.Departing.{AreBelow, members_sum, members_below, below_first, sum_step, calls_persons_few, calls_cost_small, call_small}
use Rattle.partial_tours.proofs.leaving.calls_leaving.Goals as goal

pub bounds-all-j : goal.bounds-all-j
bounds-all-j c =
    let lt = below_first (call_count c.args.snapshot.now) c.in-Some.j _ _ c.loop-j.invariant.below c.in-Some.ensures.steps in
    let same = ap length c.calls-all.ensures.value in
    omega (arith, lt, same)

pub loop-j-init : goal.loop-j-init
loop-j-init c =
    let s = c.args.snapshot.now in
    let left = ap (λ it. it.left) c.into_iter-j-iterator.ensures.into_iter_gives ∙ c.iter-j-items.ensures in
    let few = most_calls_few s c.calls-all.ensures.accepted in
    let persons = members_sum 128 c.args.calls (call_count s) (λ j. (call_of s j).persons) few c.requires.within in
    let cost = members_sum 128 c.args.calls (call_count s) (λ j. cost_of_call s j (get_or c.args.moments.now j 0) c.args.opened) few c.requires.within in
    let moved = ap (λ (set : ℕ). sum_by (λ j. (call_of s j).persons) (members 128 set)) left in
    let also = ap (λ (set : ℕ). sum_by (λ j. cost_of_call s j (get_or c.args.moments.now j 0) c.args.opened) (members 128 set)) left in
    record {
      below = subst (λ (set : ℕ). AreBelow (call_count s) (members 128 set)) (sym left) (members_below 128 c.args.calls (call_count s) c.requires.within);
      persons = omega (arith, persons, moved);
      cost = omega (arith, cost, also);
    }

pub overflow_add-leaving : goal.overflow_add-leaving
overflow_add-leaving c =
    let s = c.args.snapshot.now in
    let step = sum_step (λ j. (call_of s j).persons) c.loop-j.leaving.persons _ c.in-Some.j _ _ c.loop-j.invariant.persons c.in-Some.ensures.steps in
    let few = calls_persons_few s c.args.calls c.calls-all.ensures.accepted in
    let same = ap (λ (calls : List Call). (call_in calls c.in-Some.j).persons) c.calls-all.ensures.value in
    omega (arith, step, few, same)

pub overflow_add-leaving-in-loop-j : goal.overflow_add-leaving-in-loop-j
overflow_add-leaving-in-loop-j c =
    let s = c.args.snapshot.now in
    let step = sum_step
    (λ j. cost_of_call s j (get_or c.args.moments.now j 0) c.args.opened) c.loop-j.leaving.cost _ c.in-Some.j _ _ c.loop-j.invariant.cost
    c.in-Some.ensures.steps in
    let small = calls_cost_small s c.args.calls (λ j. cost_of_call s j (get_or c.args.moments.now j 0) c.args.opened) c.calls-all.ensures.accepted
    (λ j lt. call_small s j (get_or c.args.moments.now j 0) c.args.opened c.calls-all.ensures.accepted lt (c.requires.low j) c.requires.early) in
    let cost = c.cost_of_call.ensures.bounded in
    let so_far = c.loop-j.invariant.cost in
    omega (arith, small, cost, so_far)

pub returns-clause-few : goal.returns-clause-few
returns-clause-few c =
    let few = calls_persons_few c.args.snapshot.now c.args.calls c.calls-all.ensures.accepted in
    let so_far = c.loop-j.invariant.persons in
    omega (arith, few, so_far)

pub returns-clause-small : goal.returns-clause-small
returns-clause-small c =
    let s = c.args.snapshot.now in
    let small = calls_cost_small s c.args.calls (λ j. cost_of_call s j (get_or c.args.moments.now j 0) c.args.opened) c.calls-all.ensures.accepted
    (λ j lt. call_small s j (get_or c.args.moments.now j 0) c.args.opened c.calls-all.ensures.accepted lt (c.requires.low j) c.requires.early) in
    let so_far = c.loop-j.invariant.cost in
    omega (arith, small, so_far)
