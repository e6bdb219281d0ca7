-- The cars so far have plain tours.
use Rattle.std.proofs.Common.{◌≡◌, ◌<◌, ℕ, vec_len, slice_index}
use Rattle.elevator_model.specs.Plans.{tour_of}
use Rattle.plain_plan.specs.Openings.{IsPlainTour}
use Rattle.plain_plan.specs.PlainPlans.{calls_for}
use Rattle.plain_plan.proofs.plain.plan_of.Given as goal

abbrev pub invariant-loop-car : goal.invariant-loop-car
invariant-loop-car l = record {
  counted : vec_len l.tours ≡ l.car;
  plain : (c : ℕ) → c < l.car → IsPlainTour l.snapshot c (calls_for (slice_index l.cars.items) c l.order.items) (tour_of l.tours.items c);
}
