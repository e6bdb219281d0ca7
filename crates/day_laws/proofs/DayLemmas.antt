-- Rows one after another, with plans that are feasible: by their events and those of the end each accepted call is
-- served once.
use Rattle.std.proofs.Common.{◌≡◌, ℕ, ◌+◌, List, [], ◌∷◌, ◌++◌, append-nil, append_assoc, refl, sym, ap, ◌∙◌, subst, Option, Some, None}
use Rattle.elevator_model.specs.Snapshot.{Snapshot, IsAccepted}
use Rattle.elevator_model.specs.Plans.{IsFeasiblePlan}
use Rattle.search_model.specs.declared.Event.{Event}
use Rattle.search_model.specs.declared.RowFault.{RowFault}
use Rattle.search_model.specs.declared.Stated.{Stated}
use Rattle.search_model.specs.Days.{Day, Row, IsRightLog, ArePlanned, ArePlannedFrom, day_after_refused, day_run, day_step, fault_of_row, opening_day, run_from}
use Rattle.search_model.specs.Days.{step_by}
use Rattle.day_state.specs.Openings.{IsOpeningSnapshot}
use Rattle.day_state.proofs.OpeningLaws.{opening-feasible}
use Rattle.day_laws.specs.Laws.{IsFeasibleStated, LosesNobody}
use Rattle.day_laws.specs.Once.{events_of_log, events_of_logs}
use Rattle.day_laws.specs.Standing.{row_number}
use Rattle.day_laws.proofs.RowFaults.{step-number}
use Rattle.day_laws.proofs.ServedLemmas.{IsDayServing, accepted-serves, end-served, opening-serves, refused-serves, serving-delivered, serving-loses-none}

-- a row of any number, where what is right is feasible
module _ (right : Snapshot → Stated → Type 0) (law : (s : Snapshot) (stated : Stated) → right s stated → IsFeasiblePlan s stated.plan) where
  pub step-serves : (day : Day) (said : Option Row) (printed : Stated) (fault : Option RowFault) (past : List Event)
      → fault_of_row day.world (row_number day) said ≡ fault
      → IsRightLog right (step_by day (row_number day) said printed fault).day.world (step_by day (row_number day) said printed fault).log
      → IsDayServing day past
      → IsDayServing (step_by day (row_number day) said printed fault).day (past ++ events_of_log (step_by day (row_number day) said printed fault).log)
  step-serves day said printed (Some fault) past is is_right serves =
      subst (IsDayServing (day_after_refused day)) (sym (append-nil past)) (refused-serves day past serves)
  step-serves day None printed None past is is_right serves =
      subst (IsDayServing (day_after_refused day)) (sym (append-nil past)) (refused-serves day past serves)
  step-serves day (Some row) printed None past is is_right serves =
      accepted-serves day row printed past serves is (law (step_by day (row_number day) (Some row) printed None).day.world.snapshot printed is_right)

  -- the rows from row n on
  rows-serve : (printed : ℕ → Stated) (day : Day) (n : ℕ) (rows : List (Option Row)) (past : List Event) → row_number day ≡ n → IsDayServing day past
      → ArePlannedFrom right printed day n rows
      → IsDayServing (run_from printed day n rows).day (past ++ events_of_logs (run_from printed day n rows).log)
  rows-serve printed day n [] past number serves planned = subst (IsDayServing day) (sym (append-nil past)) serves
  rows-serve printed day n (said ∷ rows) past number serves planned =
      let step = day_step day n said (printed n) in
      let later = run_from printed step.day (n + 1) rows in
      let first = numbered n number planned.0 in
      let next = step-number day n said (printed n) (fault_of_row day.world n said) ∙ ap (λ (k : ℕ). k + 1) number in
      subst (IsDayServing later.day) (append_assoc past (events_of_log step.log) (events_of_logs later.log))
      (rows-serve printed step.day (n + 1) rows (past ++ events_of_log step.log) next first planned.1)
    where
      numbered : (k : ℕ) → row_number day ≡ k → IsRightLog right (day_step day k said (printed k)).day.world (day_step day k said (printed k)).log
          → IsDayServing (day_step day k said (printed k)).day (past ++ events_of_log (day_step day k said (printed k)).log)
      numbered k same is_right =
          subst (λ (m : ℕ). IsRightLog right (day_step day m said (printed m)).day.world (day_step day m said (printed m)).log
          → IsDayServing (day_step day m said (printed m)).day (past ++ events_of_log (day_step day m said (printed m)).log)) same
          (λ r. step-serves day said (printed (row_number day)) (fault_of_row day.world (row_number day) said) past refl r serves) is_right

-- By the events of the rows and of the end each accepted call is served once.
pub loses-nobody : (opening : Snapshot) (printed : ℕ → Stated) (rows : List (Option Row)) → IsAccepted opening → IsOpeningSnapshot opening
    → ArePlanned IsFeasibleStated opening printed rows → LosesNobody (day_run opening printed rows)
loses-nobody opening printed rows a o planned =
    let run = day_run opening printed rows in
    let past = events_of_logs run.log in
    let serves : IsDayServing run.day past =
    rows-serve IsFeasibleStated (λ s stated h. h) printed (opening_day opening) 1 rows [] refl
    (opening-serves opening a o (opening-feasible opening a o)) planned in
    record {
      none_lost = serving-loses-none run.day past serves;
      delivered = serving-delivered run.day past serves;
      served = end-served run.day past serves;
    }
