-- Moves that may follow a partial tour, as sets.
use Rattle.std.specs.Prelude.{◌≡◌, ℕ, ◌<◌, Bool, true}
use Rattle.call_sets.specs.Counting.{has}
use Rattle.elevator_model.specs.declared.Move.{Move}
use Rattle.elevator_model.specs.declared.Move.TheVariants.{Board, Leave, End}
use Rattle.elevator_model.specs.Building.{floor_count}
use Rattle.elevator_model.specs.Snapshot.{Snapshot, call_count}
use Rattle.elevator_model.specs.Partial.{Course}
use Rattle.partial_tours.specs.declared.following.Followers.{Followers}
use Rattle.partial_tours.specs.Courses.{may_be_next}

-- They are the moves of the snapshot that pass a test.
pub record ArePassing (s : Snapshot) (test : Move → Bool) (next : Followers) : Type 0 where
  pub boards : (j : ℕ) → has next.boards j ≡ test (Board j)
  pub leaves : (g : ℕ) → has next.leaves g ≡ test (Leave g)
  pub ends : next.ends ≡ test End
  pub calls : (j : ℕ) → test (Board j) ≡ true → j < call_count s
  pub floors : (g : ℕ) → test (Leave g) ≡ true → g < floor_count s.building

-- They are those after which the partial tour is lawful, boards of allowed calls only.
abbrev pub AreFollowers : Snapshot → ℕ → Course → (allowed : ℕ → Bool) → Followers → Type 0
AreFollowers s c x allowed next = ArePassing s (may_be_next s c x allowed) next
