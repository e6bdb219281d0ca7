-- The snapshot that its parts stand for.
use Rattle.std.specs.Prelude.{◌≡◌, ℕ, ◌≤◌, ◌<◌, length, IfSome}
use Rattle.elevator_model.specs.Snapshot.{Snapshot, IsUnmoving, car_count, call_count, state_of, group_of, call_of}
use Rattle.call_state.specs.declared.snapshots.SnapshotParts.{SnapshotParts}

abbrev pub snapshot_of : SnapshotParts → Snapshot
snapshot_of p =
    record {
      version = p.version;
      building = p.building;
      moment = p.now;
      states = p.cars.items;
      aboard = p.aboard.items;
      calls = p.calls.items;
    }

-- What parts have to keep before they are tested for faults: each car that they name is one of the
-- building, and each car has a state that the version knows.
pub record AreSnapshotParts (s : Snapshot) : Type 0 where
  pub version_low : 1 ≤ s.version
  pub version_high : s.version ≤ 2
  pub moment : s.moment ≤ 1000000000
  pub states : length s.states ≡ car_count s
  pub unmoving : s.version ≡ 1 → (c : ℕ) → c < car_count s → IsUnmoving (state_of s c)
  pub group_cars : (k : ℕ) → k < length s.aboard → (group_of s k).car < car_count s
  pub pins : (j : ℕ) → j < call_count s → IfSome (call_of s j).pin (λ c. c < car_count s)
