use Rattle.std.proofs.Common.{◌≡◌, ℕ, ◌&&◌, nat_lt}
use Rattle.call_sets.specs.Counting.{has}
use Rattle.elevator_model.specs.Snapshot.{is_open}
use Rattle.tour_rules.proofs.first_stops.floors_open.Given as goal

abbrev pub invariant-loop-floor : goal.invariant-loop-floor
invariant-loop-floor l = (g : ℕ) → has l.set g ≡ (nat_lt g l.floor && is_open l.snapshot.building l.car l.snapshot.moment l.state g)
