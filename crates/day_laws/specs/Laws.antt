-- Over any rows with feasible plans no accepted call is lost, and each is delivered.
use Rattle.std.specs.Prelude.{◌≡◌, ℕ, List, ◌++◌, length, Option, All, IsTrue}
use Rattle.elevator_model.specs.Snapshot.{Snapshot, IsAccepted}
use Rattle.elevator_model.specs.Plans.{IsFeasiblePlan}
use Rattle.search_model.specs.declared.Stated.{Stated}
use Rattle.search_model.specs.Advancing.{last_events}
use Rattle.search_model.specs.Days.{Row, Run, ArePlanned, calls_at_end, day_run, delivered_count, loses_none}
use Rattle.day_state.specs.Openings.{IsOpeningSnapshot}
use Rattle.day_laws.specs.Once.{IsServedOnce, events_of_logs}

-- the plan that is stated is feasible, whatever else is stated
abbrev pub IsFeasibleStated : Snapshot → Stated → Type 0
IsFeasibleStated s stated = IsFeasiblePlan s stated.plan

-- After the rows each accepted call is in one place. Once the last plan is run to its end each is delivered, and by the
-- events of the log it boards once and is delivered once, in time.
pub record LosesNobody (run : Run) : Type 0 where
  pub none_lost : IsTrue (loses_none run.day)
  pub delivered : delivered_count run.day ≡ length run.day.calls
  pub served : All (IsServedOnce (events_of_logs run.log ++ last_events run.day.world)) (calls_at_end run.day)

abbrev pub DayLaw : Type 0
DayLaw =
    (opening : Snapshot) (printed : ℕ → Stated) (rows : List (Option Row)) → IsAccepted opening → IsOpeningSnapshot opening
    → ArePlanned IsFeasibleStated opening printed rows
    → LosesNobody (day_run opening printed rows)
