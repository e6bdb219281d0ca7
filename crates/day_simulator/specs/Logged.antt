-- The accepted calls of a day, as the code keeps them, against the definition.
use Rattle.std.specs.Prelude.{ℕ, List, map}
use Rattle.search_model.specs.declared.Event.{Event}
use Rattle.search_model.specs.declared.Event.TheVariants.{Board, Deliver}
use Rattle.search_model.specs.Advancing.{World}
use Rattle.search_model.specs.Days.{Day, DayCall}
use Rattle.day_simulator.specs.declared.logged.LoggedCall.{LoggedCall}

abbrev pub day_call : LoggedCall → DayCall
day_call x = record { id = x.id; released = x.released; boarded = x.boarded; delivered = x.delivered }

abbrev pub day_calls : List LoggedCall → List DayCall
day_calls calls = map day_call calls

-- the day of these parts
abbrev pub day_of : World → (refused unsolved : ℕ) → List LoggedCall → Day
day_of world refused unsolved calls = record { world = world; refused = refused; unsolved = unsolved; calls = day_calls calls }

-- the id of the call of an event
abbrev pub id_of_event : Event → ℕ
id_of_event (Board call car moment) = call
id_of_event (Deliver call car moment) = call
