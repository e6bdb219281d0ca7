-- What a flaw of the parts of a snapshot says.
use Rattle.std.specs.Prelude.{◌≡◌, ℕ, ◌≤◌, ◌<◌, length, IfSome}
use Rattle.elevator_model.specs.Snapshot.{Snapshot, IsUnmoving, car_count, call_count, state_of, group_of, call_of}
use Rattle.call_state.specs.declared.snapshots.PartsFlaw.{PartsFlaw}
use Rattle.call_state.specs.declared.snapshots.PartsFlaw.TheVariants.{Version, Moment, StateCount, MovingCar, CarOfGroup, PinnedCar}

-- the condition that the flaw names does not hold
abbrev pub Lacks : Snapshot → PartsFlaw → Type 0
Lacks s Version = (1 ≤ s.version) × (s.version ≤ 2) → ⊥
Lacks s Moment = s.moment ≤ 1000000000 → ⊥
Lacks s StateCount = length s.states ≡ car_count s → ⊥
Lacks s MovingCar = (s.version ≡ 1) × (((c : ℕ) → c < length s.states → IsUnmoving (state_of s c)) → ⊥)
Lacks s CarOfGroup = ((k : ℕ) → k < length s.aboard → (group_of s k).car < car_count s) → ⊥
Lacks s PinnedCar = ((j : ℕ) → j < call_count s → IfSome (call_of s j).pin (λ c. c < car_count s)) → ⊥
