use Rattle.std.proofs.Common.{◌≡◌, ◌<◌, ◌∙◌, ℕ, List, length, ap, sym, subst, arith}
use Rattle.std.specs.List.{sum_by}
use Rattle.elevator_model.specs.declared.Call.{Call}
use Rattle.elevator_model.specs.Building.{Building}
use Rattle.call_sets.specs.Counting.{has, members}
use Rattle.elevator_model.specs.Snapshot.{Snapshot, call_count, call_of}
use Rattle.partial_tours.specs.Courses.{reached}
use Rattle.partial_tours.proofs.Departing.{AreBelow, members_sum, members_below, below_first, below_rest, sum_step, calls_persons_few}
use Rattle.tour_rules.specs.Places.{call_in}
use Rattle.tour_rules.specs.Leaving.{call_cost, cost_of_call}
use Rattle.tour_rules.proofs.Stops.{most_calls_few}
use Rattle.pricing_bound.proofs.CarriedLemmas.{one_taken}
use Rattle.pricing_bound.proofs.WaitingLemmas.{AllPass, members_few, members_pass, passes_first}
use Rattle.route_sums.specs.Stands.{boarding_moment}
use Rattle.route_sums.proofs.leaving.calls_leaving.Goals as goal

pub bounds-all-j : goal.bounds-all-j
bounds-all-j c =
    let lt = below_first (call_count c.args.snapshot.now) c.in-Some.j _ _ c.loop-j.invariant.below c.in-Some.ensures.steps in
    let same = ap length c.calls-all.ensures.value in
    omega (arith, lt, same)

pub loop-j-init : goal.loop-j-init
loop-j-init c =
    let s = c.args.snapshot.now in
    let t = c.args.prefix.now in
    let n = call_count s in
    let left = ap (λ it. it.left) c.into_iter-j-iterator.ensures.into_iter_gives ∙ c.iter-j-items.ensures in
    let few = most_calls_few s c.calls-all.ensures.accepted in
    let persons = members_sum 128 c.args.calls n (λ j. (call_of s j).persons) few c.requires.within in
    let moved = ap (λ (set : ℕ). sum_by (λ j. (call_of s j).persons) (members 128 set)) left in
    record {
      below = subst (λ (set : ℕ). AreBelow n (members 128 set)) (sym left) (members_below 128 c.args.calls n c.requires.within);
      within = subst (λ (set : ℕ). AllPass (has c.args.calls) (members 128 set)) (sym left) (members_pass 128 c.args.calls);
      persons = omega (arith, persons, moved);
      cost = λ x e. let f = λ (j : ℕ). cost_of_call s j (boarding_moment c.args.newest (reached t.snapshot t.car x) j) c.args.opened in
          let all = members_sum 128 c.args.calls n f few c.requires.within in let also = ap (λ (set : ℕ). sum_by f (members 128 set)) left in
          omega (arith, all, also);
      few = members_few 128 c.into_iter-j-iterator.result.left;
      small = omega arith;
    }

pub boarded_at-boarded-requires-clause-call : goal.boarded_at-boarded-requires-clause-call
boarded_at-boarded-requires-clause-call c =
    subst (λ (s : Snapshot). c.in-Some.j < call_count s) c.requires.same
    (below_first (call_count c.args.snapshot.now) c.in-Some.j _ _ c.loop-j.invariant.below c.in-Some.ensures.steps)

pub boarded_at-boarded-requires-clause-known : goal.boarded_at-boarded-requires-clause-known
boarded_at-boarded-requires-clause-known c =
    let at = c.requires.known in
    (at.0, at.1, at.2 c.in-Some.j (passes_first (has c.args.calls) _ _ c.in-Some.j c.loop-j.invariant.within c.in-Some.ensures.steps).0)

pub overflow_add-leaving : goal.overflow_add-leaving
overflow_add-leaving c =
    let s = c.args.snapshot.now in
    let step = sum_step (λ j. (call_of s j).persons) c.loop-j.leaving.persons _ c.in-Some.j _ _ c.loop-j.invariant.persons c.in-Some.ensures.steps in
    let few = calls_persons_few s c.args.calls c.calls-all.ensures.accepted in
    let same = ap (λ (calls : List Call). (call_in calls c.in-Some.j).persons) c.calls-all.ensures.value in
    omega (arith, step, few, same)

pub overflow_add-leaving-in-loop-j : goal.overflow_add-leaving-in-loop-j
overflow_add-leaving-in-loop-j c =
    let taken = one_taken _ _ c.in-Some.j 128 2400000000000000 c.loop-j.leaving.cost c.cost_of_call.result c.loop-j.invariant.few c.in-Some.ensures.steps
    c.loop-j.invariant.small c.cost_of_call.ensures.bounded in
    let few = taken.1 in
    omega (arith, few)

pub returns-clause-few : goal.returns-clause-few
returns-clause-few c =
    let few = calls_persons_few c.args.snapshot.now c.args.calls c.calls-all.ensures.accepted in
    let so_far = c.loop-j.invariant.persons in
    omega (arith, few, so_far)

pub loop-j-preserved : goal.loop-j-preserved
loop-j-preserved c =
    let s = c.args.snapshot.now in
    let t = c.args.prefix.now in
    let j = c.in-Some.j in
    let taken = one_taken _ _ j 128 2400000000000000 c.loop-j.leaving.cost c.cost_of_call.result c.loop-j.invariant.few c.in-Some.ensures.steps
    c.loop-j.invariant.small c.cost_of_call.ensures.bounded in
    let step = sum_step (λ j. (call_of s j).persons) c.loop-j.leaving.persons _ j _ _ c.loop-j.invariant.persons c.in-Some.ensures.steps in
    let same = ap (λ (calls : List Call). (call_in calls j).persons) c.calls-all.ensures.value in
    record {
      below = below_rest (call_count s) j _ _ c.loop-j.invariant.below c.in-Some.ensures.steps;
      within = (passes_first (has c.args.calls) _ _ j c.loop-j.invariant.within c.in-Some.ensures.steps).1;
      persons = omega (arith, step, same);
      cost = λ x e. let f = λ (j : ℕ). cost_of_call s j (boarding_moment c.args.newest (reached t.snapshot t.car x) j) c.args.opened in
          let more = sum_step f c.loop-j.leaving.cost _ j _ _ (c.loop-j.invariant.cost x e) c.in-Some.ensures.steps in
          let here : c.cost_of_call.result ≡ f j = c.cost_of_call.ensures.cost
          ∙ ap (λ (b : Building). call_cost b (call_in c.calls-all.result.now j) c.boarded_at-boarded.result c.args.opened) c.building-building.ensures.value
          ∙ ap (λ (calls : List Call). call_cost s.building (call_in calls j) c.boarded_at-boarded.result c.args.opened) c.calls-all.ensures.value
          ∙ ap (λ (m : ℕ). cost_of_call s j m c.args.opened) (c.boarded_at-boarded.ensures.value x e) in omega (arith, more, here);
      few = taken.0;
      small = taken.1;
    }

pub returns-clause-cost : goal.returns-clause-cost
returns-clause-cost c = λ x e.
    let t = c.args.prefix.now in
    let f = λ (j : ℕ). cost_of_call c.args.snapshot.now j (boarding_moment c.args.newest (reached t.snapshot t.car x) j) c.args.opened in
    let so_far = c.loop-j.invariant.cost x e in
    let none = ap (sum_by f) c.in-None.ensures.steps.0 in
    omega (arith, so_far, none)
