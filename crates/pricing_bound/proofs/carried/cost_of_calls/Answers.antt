use Rattle.std.proofs.Common.{◌∙◌, ℕ, ap, sym, subst, arith}
use Rattle.std.specs.List.{sum_by}
use Rattle.call_sets.specs.Counting.{has, members}
use Rattle.elevator_model.specs.Snapshot.{call_count}
use Rattle.partial_tours.specs.Courses.{reached}
use Rattle.partial_tours.proofs.Departing.{AreBelow, members_sum, members_below, below_first, below_rest, sum_step}
use Rattle.search_model.specs.Bounds.{cost_if_straight}
use Rattle.tour_rules.proofs.Stops.{most_calls_few}
use Rattle.pricing_bound.specs.Running.{standing_at}
use Rattle.pricing_bound.proofs.CarriedLemmas.{one_taken}
use Rattle.pricing_bound.proofs.WaitingLemmas.{AllPass, members_few, members_pass, passes_first}
use Rattle.pricing_bound.proofs.carried.cost_of_calls.Goals as goal

pub loop-call-init : goal.loop-call-init
loop-call-init c =
    let t = c.args.prefix.now in
    let n = call_count c.args.rates.now.snapshot in
    let left = ap (λ it. it.left) c.into_iter-call-iterator.ensures.into_iter_gives ∙ c.iter-call-items.ensures in
    let high = most_calls_few c.args.rates.now.snapshot c.requires.accepted in
    record {
      below = subst (λ (set : ℕ). AreBelow n (members 128 set)) (sym left) (members_below 128 c.args.calls n c.requires.within);
      within = subst (λ (set : ℕ). AllPass (has c.args.calls) (members 128 set)) (sym left) (members_pass 128 c.args.calls);
      cost = λ x e. let f = cost_if_straight t.snapshot (standing_at (reached t.snapshot t.car x) c.args.floor c.args.opened) in
          let same = ap call_count c.requires.same in
          let all = members_sum 128 c.args.calls (call_count t.snapshot) f (omega (arith, high, same))
          (λ k h. let near = c.requires.within k h in omega (arith, near, same)) in let moved = ap (λ (set : ℕ). sum_by f (members 128 set)) left in
          omega (arith, all, moved);
      few = members_few 128 c.into_iter-call-iterator.result.left;
      small = omega arith;
    }

pub cost_at_rate-cost-requires-clause-call : goal.cost_at_rate-cost-requires-clause-call
cost_at_rate-cost-requires-clause-call c =
    below_first (call_count c.args.rates.now.snapshot) c.in-Some.call _ _ c.loop-call.invariant.below c.in-Some.ensures.steps

pub cost_at_rate-cost-requires-clause-boarded : goal.cost_at_rate-cost-requires-clause-boarded
cost_at_rate-cost-requires-clause-boarded c =
    let at = c.requires.boarded in
    (at.0, at.1, at.2 c.in-Some.call (passes_first (has c.args.calls) _ _ c.in-Some.call c.loop-call.invariant.within c.in-Some.ensures.steps).0)

pub overflow_add-cost : goal.overflow_add-cost
overflow_add-cost c =
    let taken = one_taken _ _ c.in-Some.call 128 2400000000000000 c.loop-call.cost c.cost_at_rate-cost.result c.loop-call.invariant.few c.in-Some.ensures.steps
    c.loop-call.invariant.small c.cost_at_rate-cost.ensures.bounded in
    let few = taken.1 in
    omega (arith, few)

pub loop-call-preserved : goal.loop-call-preserved
loop-call-preserved c =
    let t = c.args.prefix.now in
    let taken = one_taken _ _ c.in-Some.call 128 2400000000000000 c.loop-call.cost c.cost_at_rate-cost.result c.loop-call.invariant.few c.in-Some.ensures.steps
    c.loop-call.invariant.small c.cost_at_rate-cost.ensures.bounded in
    record {
      below = below_rest (call_count c.args.rates.now.snapshot) c.in-Some.call _ _ c.loop-call.invariant.below c.in-Some.ensures.steps;
      within = (passes_first (has c.args.calls) _ _ c.in-Some.call c.loop-call.invariant.within c.in-Some.ensures.steps).1;
      cost = λ x e. let f = cost_if_straight t.snapshot (standing_at (reached t.snapshot t.car x) c.args.floor c.args.opened) in
          let step = sum_step f c.loop-call.cost _ c.in-Some.call _ _ (c.loop-call.invariant.cost x e) c.in-Some.ensures.steps in
          let here = c.cost_at_rate-cost.ensures.cost x e in omega (arith, step, here);
      few = taken.0;
      small = taken.1;
    }
