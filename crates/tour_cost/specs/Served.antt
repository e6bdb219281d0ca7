-- How many calls a tour serves.
use Rattle.std.specs.Prelude.{ℕ, List}
use Rattle.elevator_model.specs.declared.Stop.{Stop}
use Rattle.call_sets.specs.Counting.{sum_where}
use Rattle.elevator_model.specs.Snapshot.{Snapshot, call_count}
use Rattle.elevator_model.specs.Plans.{is_boarded_in}

abbrev pub calls_served : Snapshot → List Stop → ℕ
calls_served s tour = sum_where (call_count s) (is_boarded_in tour) (λ _. 1)
