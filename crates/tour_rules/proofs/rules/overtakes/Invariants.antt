use Rattle.std.proofs.Common.{◌≡◌, ◌&&◌, false}
use Rattle.call_sets.specs.Counting.{any_below, has}
use Rattle.elevator_model.specs.Tours.{is_later_in_queue}
use Rattle.tour_rules.specs.Places.{call_in}
use Rattle.tour_rules.proofs.rules.overtakes.Given as goal

abbrev pub invariant-loop-k : goal.invariant-loop-k
invariant-loop-k l = any_below l.k (λ k. has l.boarded k && is_later_in_queue (call_in l.calls k) l.call) ≡ false
