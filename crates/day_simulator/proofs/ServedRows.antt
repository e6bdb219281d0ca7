-- Rows that were done one after another: by their events and those of the end each accepted call is served once.
use Rattle.std.proofs.Common.{ℕ, List, [], ◌∷◌, ◌++◌, append-nil, append_assoc, refl, sym, subst, Option}
use Rattle.elevator_model.specs.Snapshot.{Snapshot, IsAccepted}
use Rattle.search_model.specs.declared.Event.{Event}
use Rattle.search_model.specs.Advancing.{last_events}
use Rattle.search_model.specs.Days.{Day, Row, IsRightLog, fault_of_row, opening_day}
use Rattle.day_state.specs.Openings.{IsOpeningSnapshot}
use Rattle.day_state.proofs.OpeningLaws.{opening-feasible}
use Rattle.day_simulator.specs.Planning.{PlannerLaw}
use Rattle.day_simulator.specs.Rows.{IsRowDone, held_plan, next_step}
use Rattle.day_laws.specs.Standing.{row_number}
use Rattle.day_laws.proofs.DayLemmas.{step-serves}
use Rattle.day_laws.proofs.ServedLemmas.{IsDayServing, end-served, none-served, opening-serves}
use Rattle.day_simulator.specs.RowRuns.{AreRowsDone, Right}
use Rattle.day_laws.specs.Once.{events_of_log}
use Rattle.day_simulator.specs.Served.{AreServedOnce, events_of_rows}

module _ (right : Right) (law : PlannerLaw right) where
  row-serves : (old : Day) (said : Option Row) (new : Day) (text : List ℕ) (past : List Event) → IsDayServing old past
      → (done : IsRowDone right old said new [] text) → IsDayServing new (past ++ events_of_log (next_step old said done.0).log)
  row-serves old said new text past serves done =
      let printed = done.0 in
      let proof = done.1 in
      let does = done.2 in
      let held = held_plan old said in
      let is_right = subst
      (λ (d : Day). IsRightLog (λ s stated. right s held stated proof) d.world (next_step old said printed).log) does.day does.right_plan in
      subst (λ (d : Day). IsDayServing d (past ++ events_of_log (next_step old said printed).log)) (sym does.day)
      (step-serves (λ s stated. right s held stated proof) (λ s stated h. (law s held stated proof h).feasible) old said printed
      (fault_of_row old.world (row_number old) said) past refl is_right serves)

  rows-serve : (old : Day) (rows : List (Option Row)) (new : Day) (text : List ℕ) (past : List Event) → IsDayServing old past
      → (done : AreRowsDone right old rows new text) → IsDayServing new (past ++ events_of_rows right old rows new text done)
  rows-serve old [] new text past serves done = subst (IsDayServing new) (sym (append-nil past)) (subst (λ (d : Day). IsDayServing d past) (sym done.0) serves)
  rows-serve old (said ∷ rows) new text past serves done =
      let here = events_of_log (next_step old said done.3.0).log in
      let there = events_of_rows right done.0 rows new done.2 done.4 in
      let first = row-serves old said done.0 done.1 past serves done.3 in
      subst (IsDayServing new) (append_assoc past here there) (rows-serve done.0 rows new done.2 (past ++ here) first done.4)

  -- By the events of the rows and of the end each accepted call is served once.
  pub served-rows : (opening : Snapshot) (rows : List (Option Row)) (new : Day) (text : List ℕ) → IsAccepted opening → IsOpeningSnapshot opening
      → (done : AreRowsDone right (opening_day opening) rows new text) → AreServedOnce right (opening_day opening) rows new text done
  served-rows opening rows new text a o done =
      end-served new (events_of_rows right (opening_day opening) rows new text done)
      (rows-serve (opening_day opening) rows new text [] (opening-serves opening a o (opening-feasible opening a o)) done)

-- before the first row no call is accepted
pub served-none : (right : Right) (opening : Snapshot) → AreServedOnce right (opening_day opening) [] (opening_day opening) [] (refl, refl)
served-none right opening = none-served (opening_day opening) (last_events (opening_day opening).world) refl
