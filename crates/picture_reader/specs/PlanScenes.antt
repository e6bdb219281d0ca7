-- Which texts tell what is drawn of a plan, and what is wrong with any other.
use Rattle.std.specs.Prelude.{ℕ, [], map}
use Rattle.elevator_model.specs.declared.CarSpec.{CarSpec}
use Rattle.elevator_model.specs.Building.{floor_count}
use Rattle.elevator_model.specs.Snapshot.{Snapshot}
use Rattle.search_model.specs.declared.Stated.{Stated}
use Rattle.lift_text.specs.Reading.{TextState, reading}
use Rattle.lift_text.specs.declared.faults.TextFault.{TextFault}
use Rattle.case_text.specs.CaseTexts.{CaseInFront, IsCaseFault}
use Rattle.answer_text.specs.Drafts.{Draft, after, blank, stated_read}
use Rattle.lift_picture.specs.declared.scenes.Axis.TheVariants.{Stops}
use Rattle.picture_reader.specs.PlanLegs.{plan_legs}
use Rattle.picture_reader.specs.Tellings.{Shown, Telling, behind, section}

-- What is drawn of the plan of an answer to a snapshot.
abbrev pub plan_shown : Snapshot → Stated → Shown
plan_shown s stated = record {
  axis = Stops;
  floors = floor_count s.building;
  start = 0;
  cars = map (λ (car : CarSpec). car.id) s.building.cars;
  legs = plan_legs s stated.plan;
  refusals = [];
}

abbrev pub answer_shown : Snapshot → Draft → Shown
answer_shown s answer = plan_shown s (stated_read answer)

-- behind a case: the lines of an answer, and no line behind them that has a word
abbrev pub answer_telling : Snapshot → Telling
answer_telling s = section after (blank s) (answer_shown s)

abbrev pub IsCaseInFront : TextState → Snapshot → TextState → Type 0
IsCaseInFront text s answer = CaseInFront (reading text) s (reading answer)

abbrev pub IsCaseBad : TextState → TextFault → Type 0
IsCaseBad text fault = IsCaseFault (reading text) fault

-- A text tells a plan by a case and an answer to it. Else it is its first bad line with its code, or that it is too long.
abbrev pub plan_telling : Telling
plan_telling = behind IsCaseInFront IsCaseBad answer_telling
