-- The least of the tours so far.
use Rattle.std.proofs.Common.{◌<◌, ◌*◌, ◌^◌, ℕ, pos, neg_ℤ, ◌≤ℤ◌, get_or}
use Rattle.half_plans.specs.declared.candidates.PricedTour.{PricedTour}
use Rattle.half_plans.proofs.candidates.least_reduced_cost.Given as goal

abbrev pub invariant-loop-tour : goal.invariant-loop-tour
invariant-loop-tour l = record {
  least : (k : ℕ) (d : PricedTour) → k < l.tour-index → l.least ≤ℤ (get_or l.tours k d).reduced;
  low : neg_ℤ (pos (2 * 10 ^ 26)) ≤ℤ l.least;
  high : l.least ≤ℤ pos (2 * 10 ^ 26);
}
