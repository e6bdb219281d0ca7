use Rattle.std.proofs.Common.{◌+◌, ◌*◌, ◌-◌, ◌∙◌, ℕ, ap, sym, subst, arith}
use Rattle.std.specs.List.{sum_by}
use Rattle.call_sets.specs.Counting.{has, members, is_among}
use Rattle.elevator_model.specs.Snapshot.{call_count}
use Rattle.search_model.specs.Bounds.{cost_if_alone}
use Rattle.partial_tours.proofs.Departing.{AreBelow, members_sum, members_below, below_first, below_rest, sum_step}
use Rattle.tour_rules.proofs.Stops.{most_calls_few}
use Rattle.pricing_bound.specs.Rates.{aim_at, rise_at}
use Rattle.pricing_bound.proofs.CarriedLemmas.{one_taken}
use Rattle.pricing_bound.proofs.SteadyLemmas.{not_left, even_step}
use Rattle.pricing_bound.proofs.WaitingLemmas.{AllPass, members_few, members_pass, passes_first}
use Rattle.pricing_bound.proofs.straight.StraightRides.growth.Goals as goal

pub loop-call-init : goal.loop-call-init
loop-call-init c =
    let it = c.args.self.now in
    let s = it.rates.now.snapshot in
    let n = call_count s in
    let left = ap (λ it. it.left) c.into_iter-call-iterator.ensures.into_iter_gives ∙ c.iter-call-items.ensures in
    let high = most_calls_few s c.snapshot-accepted.ensures.accepted in
    let all = members_sum 128 c.args.calls n (rise_at s c.args.moment) high c.requires.within in
    let moved = ap (λ (set : ℕ). sum_by (rise_at s c.args.moment) (members 128 set)) left in
    record {
      below = subst (λ (set : ℕ). AreBelow n (members 128 set)) (sym left) (members_below 128 c.args.calls n c.requires.within);
      within = subst (λ (set : ℕ). AllPass (has c.args.calls) (members 128 set)) (sym left) (members_pass 128 c.args.calls);
      slope = omega (arith, all, moved);
      few = members_few 128 c.into_iter-call-iterator.result.left;
      gentle = omega arith;
      even = λ j h none.
          not_left j (c.into_iter-call-iterator.result.left) (let near = c.requires.within j h in omega (arith, near, high))
          (ap (λ (set : ℕ). has set j) left ∙ h) none;
    }

pub growth-requires : goal.growth-requires
growth-requires c = below_first (call_count c.args.self.now.rates.now.snapshot) c.in-Some.call _ _ c.loop-call.invariant.below c.in-Some.ensures.steps

pub with-growth-requires-clause-slope : goal.with-growth-requires-clause-slope
with-growth-requires-clause-slope c = let gentle = c.loop-call.invariant.gentle in omega (arith, gentle)

pub loop-call-preserved : goal.loop-call-preserved
loop-call-preserved c =
    let it = c.args.self.now in
    let s = it.rates.now.snapshot in
    let a = aim_at it.rates.now it.car it.allowed it.required in
    let one = c.in-Some.call in
    let with = c.with-growth.ensures in
    let own = c.growth.ensures in
    let taken = one_taken _ _ one 128 16000 c.loop-call.growth.slope c.growth.result.slope c.loop-call.invariant.few c.in-Some.ensures.steps
    c.loop-call.invariant.gentle own.gentle in
    let step = sum_step (rise_at s c.args.moment) c.loop-call.growth.slope _ one _ _ c.loop-call.invariant.slope c.in-Some.ensures.steps in
    let gentle = taken.1 in
    let sum = with.slope in
    let rise = own.slope in
    record {
      below = below_rest (call_count s) one _ _ c.loop-call.invariant.below c.in-Some.ensures.steps;
      within = (passes_first (has c.args.calls) _ _ one c.loop-call.invariant.within c.in-Some.ensures.steps).1;
      slope = omega (arith, step, sum, rise);
      few = taken.0;
      gentle = omega (arith, gentle, sum);
      even = even_step a c.args.moment one _ _ c.args.calls c.loop-call.growth.until c.growth.result.until c.with-growth.result.until c.in-Some.ensures.steps
          c.loop-call.invariant.even
          (λ k later most. own.even k later most ∙ ap (λ (r : ℕ). cost_if_alone s one c.args.moment + r * (k - c.args.moment)) own.slope) with.first
          with.second;
    }

pub returns-clause-even : goal.returns-clause-even
returns-clause-even c = λ j h. c.loop-call.invariant.even j h (ap (is_among j) c.in-None.ensures.steps.0)
