-- The growth of the calls that are left is still to come, and the others grow evenly so far.
use Rattle.std.proofs.Common.{◌≡◌, ◌+◌, ◌-◌, ◌*◌, ◌≤◌, ℕ, true, false, length}
use Rattle.std.specs.List.{sum_by}
use Rattle.call_sets.specs.Counting.{has, members, is_among, sum_where}
use Rattle.elevator_model.specs.Snapshot.{call_count}
use Rattle.partial_tours.proofs.Departing.{AreBelow}
use Rattle.pricing_bound.specs.Rates.{aim_at, rise_at}
use Rattle.pricing_bound.specs.Running.{IsEven}
use Rattle.pricing_bound.proofs.WaitingLemmas.{AllPass}
use Rattle.pricing_bound.proofs.straight.StraightRides.growth.Given as goal

abbrev pub invariant-loop-call : goal.invariant-loop-call
invariant-loop-call l = record {
  below : AreBelow (call_count l.self.rates.now.snapshot) (members 128 l.call-iterator.left);
  within : AllPass (has l.fn.calls) (members 128 l.call-iterator.left);
  slope : l.growth.slope + sum_by (rise_at l.self.rates.now.snapshot l.moment) (members 128 l.call-iterator.left)
      ≡ sum_where (call_count l.self.rates.now.snapshot) (has l.fn.calls) (rise_at l.self.rates.now.snapshot l.moment);
  few : length (members 128 l.call-iterator.left) ≤ 128;
  gentle : l.growth.slope ≤ 16000 * (128 - length (members 128 l.call-iterator.left));
  even : (j : ℕ) → has l.fn.calls j ≡ true → is_among j (members 128 l.call-iterator.left) ≡ false
      → IsEven (aim_at l.self.rates.now l.self.car l.self.allowed l.self.required) l.moment l.growth.until j;
}
