use Rattle.std.proofs.Common.{◌≡◌, ◌+◌, ◌≤◌, drop}
use Rattle.call_sets.specs.Counting.{has}
use Rattle.elevator_model.specs.Tours.{Progress, first_broken_from, start_of}
use Rattle.tour_rules.specs.Measure.{stops_left}
use Rattle.tour_rules.specs.Places.{Tracks}
use Rattle.tour_rules.proofs.judging.judge_after.Given as goal

abbrev pub invariant-loop-stop : goal.invariant-loop-stop
invariant-loop-stop l =
    (p : Progress) × Tracks l.snapshot l.car l.place p
    × (first_broken_from l.snapshot l.car (has l.taken) p l.number (drop l.stop-index l.stop-items)
    ≡ first_broken_from l.snapshot l.car (has l.taken) (start_of l.snapshot l.car) 1 l.stop-items) × (l.number + stops_left l.snapshot p ≤ 322)
