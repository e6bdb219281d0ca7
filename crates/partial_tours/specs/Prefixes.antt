-- What a partial tour keeps: after each of its moves, the point where it leads.
use Rattle.std.specs.Prelude.{◌≡◌, ℕ, ◌+◌, ◌≤◌, ◌<◌, List, length, take, Some, slice_index_or}
use Rattle.elevator_model.specs.declared.Move.{Move}
use Rattle.elevator_model.specs.Snapshot.{Snapshot, IsAccepted, car_count}
use Rattle.elevator_model.specs.Partial.{Course, course_of, IsLawful}
use Rattle.partial_tours.specs.declared.steps.Step.{Step}
use Rattle.partial_tours.specs.Courses.{TracksCourse}

pub record IsPrefix (s : Snapshot) (c : ℕ) (moves : List Move) (steps : List Step) : Type 0 where
  pub car : c < car_count s
  pub accepted : IsAccepted s
  pub lawful : IsLawful s c moves
  pub counted : length steps ≡ length moves + 1
  pub tracked : (k : ℕ) (x : Course) (d : Step) → k ≤ length moves → course_of s c (take k moves) ≡ Some x → TracksCourse s c (slice_index_or steps k d).point x
