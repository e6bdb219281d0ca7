-- No tour so far is bad, and the set has the calls that they take.
use Rattle.std.proofs.Common.{◌≡◌, ℕ, ◌||◌, drop}
use Rattle.call_sets.specs.Counting.{has}
use Rattle.elevator_model.specs.Tours.{none_taken}
use Rattle.elevator_model.specs.Plans.{first_bad_tour}
use Rattle.tour_cost.proofs.Judged.{is_served}
use Rattle.tour_cost.proofs.plans.judge_plan.Given as goal

abbrev pub invariant-loop-car : goal.invariant-loop-car
invariant-loop-car l = record {
  clear : first_bad_tour l.snapshot (has l.taken) l.car (drop l.car l.plan) ≡ first_bad_tour l.snapshot none_taken 0 l.plan;
  served : (j : ℕ)
      → (has l.taken j || is_served (drop l.car l.plan) j) ≡ is_served l.plan j;
}
