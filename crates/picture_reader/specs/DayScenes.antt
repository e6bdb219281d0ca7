-- Which texts tell what is drawn of a day, and what is wrong with any other.
use Rattle.std.specs.Prelude.{ℕ, List, map, Option}
use Rattle.elevator_model.specs.declared.CarSpec.{CarSpec}
use Rattle.elevator_model.specs.Building.{floor_count}
use Rattle.elevator_model.specs.Snapshot.{Snapshot}
use Rattle.lift_text.specs.Reading.{TextState}
use Rattle.day_text.specs.declared.rows.GoodRow.{GoodRow}
use Rattle.day_text.specs.DayOpenings.{DayOpeningInFront, IsDayOpeningFault}
use Rattle.lift_picture.specs.declared.scenes.Axis.TheVariants.{Minutes}
use Rattle.log_rows.specs.Rows.{RowsBeforeLog, TellsRows, said_of}
use Rattle.picture_reader.specs.LogDrafts.{Draft, after, blank}
use Rattle.picture_reader.specs.Tellings.{Shown, Telling, behind, section}

-- What is drawn of a day, by what was read of its log.
abbrev pub day_shown : Draft → Shown
day_shown log = record {
  axis = Minutes;
  floors = floor_count log.opening.building;
  start = log.opening.moment;
  cars = map (λ (car : CarSpec). car.id) log.opening.building.cars;
  legs = log.legs;
  refusals = log.refusals;
}

-- behind the first line of a log, over these rows: its other lines, and no line behind them that has a word
abbrev pub log_telling : Snapshot → List (Option GoodRow) → Telling
log_telling opening rows = section after (blank opening rows) day_shown

-- these rows are in front, and a log is behind them
abbrev pub AreRowsInFront : Snapshot → TextState → List (Option GoodRow) → TextState → Type 0
AreRowsInFront opening from rows log = RowsBeforeLog opening.building from (map said_of rows) log

-- behind an opening: rows, and their log
abbrev pub rows_telling : Snapshot → Telling
rows_telling opening = behind (AreRowsInFront opening) TellsRows (log_telling opening)

-- A text tells a day by an opening, rows and their log. Else it is its first bad line with its code, or that it is too long.
abbrev pub day_telling : Telling
day_telling = behind DayOpeningInFront IsDayOpeningFault rows_telling
