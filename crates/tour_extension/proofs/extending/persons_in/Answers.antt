use Rattle.std.proofs.Common.{◌∙◌, ℕ, List, length, ap, sym, subst, arith}
use Rattle.std.specs.List.{sum_by}
use Rattle.elevator_model.specs.declared.Call.{Call}
use Rattle.call_sets.specs.Counting.{members}
use Rattle.elevator_model.specs.Snapshot.{Snapshot, call_count, call_of}
use Rattle.tour_rules.specs.Places.{call_in}
use Rattle.tour_rules.proofs.Stops.{most_calls_few}
use Rattle.partial_tours.proofs.Departing.{AreBelow, members_sum, members_below, below_first, sum_step, calls_persons_few}
use Rattle.tour_extension.proofs.extending.persons_in.Goals as goal

pub bounds-all-call : goal.bounds-all-call
bounds-all-call c =
    let lt = below_first (call_count c.args.layout.now.snapshot) c.in-Some.call _ _ c.loop-call.invariant.below c.in-Some.ensures.steps in
    let same = ap length (c.calls-all.ensures.value ∙ ap (λ (x : Snapshot). x.calls) c.snapshot.ensures.value) in
    omega (arith, lt, same)

pub loop-call-init : goal.loop-call-init
loop-call-init c =
    let s = c.args.layout.now.snapshot in
    let left = ap (λ it. it.left) c.into_iter-call-iterator.ensures.into_iter_gives ∙ c.iter-call-items.ensures in
    let few = most_calls_few s c.snapshot.ensures.accepted in
    let persons = members_sum 128 c.args.calls (call_count s) (λ j. (call_of s j).persons) few c.requires in
    let moved = ap (λ (set : ℕ). sum_by (λ j. (call_of s j).persons) (members 128 set)) left in
    record {
      below = subst (λ (set : ℕ). AreBelow (call_count s) (members 128 set)) (sym left) (members_below 128 c.args.calls (call_count s) c.requires);
      persons = omega (arith, persons, moved);
    }

pub overflow_add-persons : goal.overflow_add-persons
overflow_add-persons c =
    let s = c.args.layout.now.snapshot in
    let step = sum_step (λ j. (call_of s j).persons) c.loop-call.persons _ c.in-Some.call _ _ c.loop-call.invariant.persons c.in-Some.ensures.steps in
    let few = calls_persons_few s c.args.calls c.snapshot.ensures.accepted in
    let same = ap (λ (calls : List Call). (call_in calls c.in-Some.call).persons)
    (c.calls-all.ensures.value ∙ ap (λ (x : Snapshot). x.calls) c.snapshot.ensures.value) in
    omega (arith, step, few, same)

pub returns-clause-few : goal.returns-clause-few
returns-clause-few c =
    let few = calls_persons_few c.args.layout.now.snapshot c.args.calls c.snapshot.ensures.accepted in
    let so_far = c.loop-call.invariant.persons in
    omega (arith, few, so_far)
