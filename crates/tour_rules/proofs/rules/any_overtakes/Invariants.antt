use Rattle.std.proofs.Common.{◌≡◌, ◌&&◌, false, length}
use Rattle.call_sets.specs.Counting.{any_below, has}
use Rattle.elevator_model.specs.Tours.{is_later_in_queue}
use Rattle.tour_rules.specs.Places.{call_in}
use Rattle.tour_rules.proofs.rules.any_overtakes.Given as goal

abbrev pub invariant-loop-j : goal.invariant-loop-j
invariant-loop-j l = any_below l.j
    (λ j. has l.boards j && any_below (length l.calls) (λ k. has l.boarded k && is_later_in_queue (call_in l.calls k) (call_in l.calls j))) ≡ false
