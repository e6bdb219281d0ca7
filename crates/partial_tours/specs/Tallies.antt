-- The running sums of a partial tour, against the definition.
use Rattle.std.specs.Prelude.{◌≡◌, ℕ, ◌+◌, ◌*◌, ◌≤◌, ◌<◌, List, length, take, true, false, Some, slice_index, slice_index_or, slice_set}
use Rattle.elevator_model.specs.declared.Move.{Move}
use Rattle.elevator_model.specs.declared.Move.TheVariants.{Board, Leave, End}
use Rattle.elevator_model.specs.Building.{floor_count}
use Rattle.elevator_model.specs.Snapshot.{Snapshot, call_count, state_of, floor_of, moment_of}
use Rattle.elevator_model.specs.Tours.{Progress}
use Rattle.elevator_model.specs.Costs.{settled_cost}
use Rattle.elevator_model.specs.Partial.{Course, course_of, move_on}
use Rattle.partial_tours.specs.declared.points.Point.{Point}
use Rattle.partial_tours.specs.declared.steps.Step.{Step}
use Rattle.partial_tours.specs.declared.tally.Tally.{Tally}
use Rattle.partial_tours.specs.Courses.{TracksCourse, reached}
use Rattle.tour_rules.specs.Leaving.{IsKept, AreEarly}

-- the moments and the cost of a progress
pub record Counts (s : Snapshot) (c : ℕ) (tally : Tally) (p : Progress) : Type 0 where
  pub opened : tally.opened ≡ p.opened
  pub leaves : tally.leaves ≡ p.leaves
  pub settled : tally.settled ≡ settled_cost s c p

-- a car that made a stop leaves after the snapshot's moment, and one that made none is where it was then
pub record IsPunctual (s : Snapshot) (c : ℕ) (p : Progress) : Type 0 where
  pub later : p.begun ≡ true → s.moment ≤ p.leaves
  pub floor : p.begun ≡ false → p.floor ≡ floor_of (state_of s c)
  pub leaves : p.begun ≡ false → p.leaves ≡ moment_of (state_of s c)

-- the tally stands for where the first moves, this many, lead
pub record IsTally (s : Snapshot) (c count : ℕ) (tally : Tally) (x : Course) : Type 0 where
  pub counts : Counts s c tally (reached s c x)
  pub timely : tally.opened ≤ tally.leaves
  pub late : tally.leaves ≤ 1100000000 + 150000000 * count
  pub floor : (reached s c x).floor < floor_count s.building
  pub kept : IsKept s c x.before
  pub early : AreEarly s x.before
  pub punctual : IsPunctual s c (reached s c x)

-- the moments in the list are those at which the calls boarded
pub record AreNoted (s : Snapshot) (c : ℕ) (moments : List ℕ) (x : Course) : Type 0 where
  pub each : (j : ℕ) → j < call_count s → (reached s c x).boarded j ≡ true → (reached s c x).boarded_at j ≡ slice_index moments j

-- the moments with that of the call that boards
abbrev pub with_moment : Move → (opened : ℕ) → List ℕ → List ℕ
with_moment (Board j) opened moments = slice_set moments j opened
with_moment (Leave g) opened moments = moments
with_moment End opened moments = moments

-- the move is lawful where the point and the tally stand
abbrev pub LeadsOnTallied : Snapshot → ℕ → Point → Tally → List ℕ → Move → Type 0
LeadsOnTallied s c point tally moments m = (x : Course) × (y : Course) × (count : ℕ) × TracksCourse s c point x × IsTally s c count tally x
    × AreNoted s c moments x × (count < 450) × (move_on s c x m ≡ Some y)

-- a lawful move leads from the one step to the other
abbrev pub IsStepAfter : Snapshot → ℕ → Step → List ℕ → Move → Step → Type 0
IsStepAfter s c step moments m new =
    (x y : Course) (count : ℕ) → TracksCourse s c step.point x → IsTally s c count step.tally x → AreNoted s c moments x → count < 450
    → move_on s c x m ≡ Some y → TracksCourse s c new.point y × IsTally s c (count + 1) new.tally y

-- What a partial tour keeps: a tally after each of its moves, and the moments at which calls boarded.
pub record IsTallied (s : Snapshot) (c : ℕ) (moves : List Move) (steps : List Step) (moments : List ℕ) : Type 0 where
  pub room : length moments ≡ 128
  pub low : (j : ℕ) → slice_index moments j ≤ 100000000000
  pub tallied : (k : ℕ) (x : Course) (d : Step) → k ≤ length moves → course_of s c (take k moves) ≡ Some x → IsTally s c k (slice_index_or steps k d).tally x
  pub noted : (k : ℕ) (x : Course) → k ≤ length moves → course_of s c (take k moves) ≡ Some x → AreNoted s c moments x

-- the step stands for where the moves lead
pub record StandsAt (s : Snapshot) (c : ℕ) (step : Step) (x : Course) : Type 0 where
  pub tracks : TracksCourse s c step.point x
  pub opened : step.tally.opened ≡ (reached s c x).opened
  pub leaves : step.tally.leaves ≡ (reached s c x).leaves
  pub settled : step.tally.settled ≡ settled_cost s c (reached s c x)
  pub small : step.tally.settled ≤ 460800000000000000
  pub early : step.tally.opened < 10000000000
  pub late : step.tally.leaves ≤ 90000000000
  pub kept : IsKept s c (reached s c x)
  pub riders : AreEarly s (reached s c x)
  pub floor : step.point.place.floor < floor_count s.building
