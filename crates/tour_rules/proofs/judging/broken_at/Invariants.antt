use Rattle.std.proofs.Common.{◌≡◌, drop}
use Rattle.call_sets.specs.Counting.{has}
use Rattle.elevator_model.specs.Tours.{Progress, breaks, first_rule, broken_at}
use Rattle.tour_rules.specs.Places.{Tracks}
use Rattle.tour_rules.proofs.judging.broken_at.Given as goal

abbrev pub invariant-loop-rule : goal.invariant-loop-rule
invariant-loop-rule l =
    (p : Progress) → Tracks l.snapshot l.car l.place p
    → first_rule (breaks l.snapshot l.car (has l.taken) p l.stop) (drop l.rule-index l.rule-items) ≡ broken_at l.snapshot l.car (has l.taken) p l.stop
