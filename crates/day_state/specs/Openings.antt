-- What a world takes: an opening snapshot, a new call.
use Rattle.std.specs.Prelude.{◌≡◌, ℕ, ◌≤◌, ◌<◌, ◌++◌, ◌∷◌, [], length, Option, Some, None}
use Rattle.elevator_model.specs.declared.Call.{Call}
use Rattle.search_model.specs.declared.RowFault.{RowFault}
use Rattle.search_model.specs.declared.RowFault.TheVariants.{Full as FullRow, NoCar as NoCarRow}
use Rattle.day_state.specs.declared.taking.NotTaken.{NotTaken}
use Rattle.day_state.specs.declared.taking.NotTaken.TheVariants.{Full, NoCar, NoMemory}
use Rattle.elevator_model.specs.Building.{floor_count}
use Rattle.elevator_model.specs.Snapshot.{Snapshot, call_count, call_of, group_of}

-- A snapshot with which a day may begin: no call is open, and nobody is aboard.
pub record IsOpeningSnapshot (s : Snapshot) : Type 0 where
  pub calls : call_count s ≡ 0
  pub aboard : length s.aboard ≡ 0

-- A call that comes at the snapshot's moment: a new id, floors of the building, and no pin.
pub record IsNewCall (s : Snapshot) (call : Call) : Type 0 where
  pub id : (j : ℕ) → j < call_count s → (call_of s j).id ≡ call.id → ⊥
  pub group_id : (k : ℕ) → k < length s.aboard → call.id ≡ (group_of s k).id → ⊥
  pub released : call.released ≡ s.moment
  pub persons_low : 1 ≤ call.persons
  pub persons_high : call.persons ≤ 8
  pub origin : call.origin < floor_count s.building
  pub destination : call.destination < floor_count s.building
  pub travels : call.origin ≡ call.destination → ⊥
  pub pin : call.pin ≡ None

-- the snapshot with the call, which comes last
abbrev pub taken : Snapshot → Call → Snapshot
taken s call = record { version = s.version; building = s.building; moment = s.moment; states = s.states; aboard = s.aboard; calls = s.calls ++ call ∷ [] }

-- The answer for this fault: only a call without a fault is not taken for want of memory.
abbrev pub Refuses : Option RowFault → NotTaken → Type 0
Refuses fault Full = fault ≡ Some FullRow
Refuses fault NoCar = fault ≡ Some NoCarRow
Refuses fault NoMemory = fault ≡ None
