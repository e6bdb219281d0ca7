-- What a row brings: the world at its time with its call, or why it is refused.
use Rattle.std.specs.Prelude.{◌≡◌, ℕ, List, [], None, Some, Result, Ok, Err}
use Rattle.search_model.specs.declared.Event.{Event}
use Rattle.search_model.specs.declared.RowFault.{RowFault}
use Rattle.search_model.specs.Advancing.{World, advanced, events_by}
use Rattle.search_model.specs.Days.{Row, call_of_row, fault_of_row, with_call}

-- Row n is accepted, and this is the snapshot with its call, beside what is left of the plan then.
pub record IsWorldBrought (w : World) (n : ℕ) (row : Row) (events : List Event) (brought : World) : Type 0 where
  pub faultless : fault_of_row w n (Some row) ≡ None
  pub snapshot : brought.snapshot ≡ (with_call (advanced w row.time) (call_of_row n row) []).snapshot
  pub held : brought.plan ≡ (advanced w row.time).plan
  pub happened : events ≡ events_by w row.time

-- It is, or it is refused for this fault.
abbrev pub IsBrought : World → ℕ → Row → List Event → Result World RowFault → Type 0
IsBrought w n row events (Ok brought) = IsWorldBrought w n row events brought
IsBrought w n row events (Err fault) = fault_of_row w n (Some row) ≡ Some fault
