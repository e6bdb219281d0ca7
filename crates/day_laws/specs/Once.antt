-- That an accepted call boards once and is delivered once, in time: what all events of a day tell of it.
use Rattle.std.specs.Prelude.{◌≡◌, ℕ, ◌≤◌, ◌==◌, List, [], ◌∷◌, flat_map, if◌then◌else◌}
use Rattle.search_model.specs.declared.Event.{Event}
use Rattle.search_model.specs.declared.Event.TheVariants.{Board, Deliver}
use Rattle.search_model.specs.Days.{DayCall, RowLog, served_from}
use Rattle.search_model.specs.Days.RowLog.{Refused, Accepted}

-- the events in the lines of a row, and of rows, in their order
abbrev pub events_of_log : RowLog → List Event
events_of_log (Refused number fault) = []
events_of_log (Accepted number events printed) = events

abbrev pub events_of_logs : List RowLog → List Event
events_of_logs logs = flat_map events_of_log logs

-- the moment of the event, if by it the call with this id boards
abbrev pub board_moment : (id : ℕ) → Event → List ℕ
board_moment id (Board call car moment) = if call == id then moment ∷ [] else []
board_moment id (Deliver call car moment) = []

-- and if by it the call is delivered
abbrev pub delivery_moment : (id : ℕ) → Event → List ℕ
delivery_moment id (Board call car moment) = []
delivery_moment id (Deliver call car moment) = if call == id then moment ∷ [] else []

-- the moments at which the call boards, and at which it is delivered
abbrev pub moments_boarded : (id : ℕ) → List Event → List ℕ
moments_boarded id events = flat_map (board_moment id) events

abbrev pub moments_delivered : (id : ℕ) → List Event → List ℕ
moments_delivered id events = flat_map (delivery_moment id) events

-- One event boards the call, not before its release; one delivers it, not before that; and what is told of the call is
-- these two moments.
pub record IsServedOnce (events : List Event) (x : DayCall) : Type 0 where
  pub boarded : ℕ
  pub delivered : ℕ
  pub boards : moments_boarded x.id events ≡ boarded ∷ []
  pub deliveries : moments_delivered x.id events ≡ delivered ∷ []
  pub not_before_release : x.released ≤ boarded
  pub not_before_board : boarded ≤ delivered
  pub told : served_from x ≡ record { call = x.id; released = x.released; boarded = boarded; delivered = delivered }
