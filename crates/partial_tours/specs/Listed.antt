-- Lists of tours.
use Rattle.std.specs.Prelude.{◌≡◌, ℕ, ◌<◌, ◌≤◌, ◌++◌, List, [], length, Bool, true, false, Some, slice_index_or}
use Rattle.elevator_model.specs.declared.Stop.{Stop}
use Rattle.elevator_model.specs.declared.Move.{Move}
use Rattle.elevator_model.specs.declared.Move.TheVariants.{Board, Leave, End}
use Rattle.elevator_model.specs.Snapshot.{Snapshot}
use Rattle.elevator_model.specs.Tours.{IsFeasible}
use Rattle.elevator_model.specs.Partial.{Course, course_of, moves_of}
use Rattle.partial_tours.specs.PartialTour.{PartialTour}

abbrev pub ends_tour : Move → Bool
ends_tour (Board j) = false
ends_tour (Leave g) = false
ends_tour End = true

-- the tour at a place of the list
abbrev pub tour_at : List (List Stop) → ℕ → List Stop
tour_at tours k = slice_index_or tours k []

-- The list has feasible tours of the car only, and of each feasible tour exactly one with the same moves:
-- then both make the same stops, and at each of them the same calls board.
pub record AreAllTours (s : Snapshot) (c : ℕ) (tours : List (List Stop)) : Type 0 where
  pub feasible : (k : ℕ) → k < length tours → IsFeasible s c (tour_at tours k)
  pub complete : (tour : List Stop) → IsFeasible s c tour → (k : ℕ) × (k < length tours) × (moves_of s (tour_at tours k) ≡ moves_of s tour)
  pub once : (j k : ℕ) → j < k → k < length tours → moves_of s (tour_at tours j) ≡ moves_of s (tour_at tours k) → ⊥

-- the tour stands in the list
abbrev pub IsListed : List Stop → List (List Stop) → Type 0
IsListed tour tours = (k : ℕ) × (k < length tours) × (tour_at tours k ≡ tour)

-- A list of tours has grown by exactly the tours that a partial tour can lead to, each once.
pub record AddsTours (p : PartialTour) (old new : List (List Stop)) : Type 0 where
  pub longer : length old ≤ length new
  pub kept : (k : ℕ) → k < length old → tour_at new k ≡ tour_at old k
  pub feasible : (k : ℕ) → length old ≤ k → k < length new → IsFeasible p.snapshot p.car (tour_at new k)
  pub follows : (k : ℕ) → length old ≤ k → k < length new → (later : List Move) × (moves_of p.snapshot (tour_at new k) ≡ p.moves ++ later)
  pub complete : (later : List Move) (x : Course) → course_of p.snapshot p.car (p.moves ++ later) ≡ Some x → x.ended ≡ true → IsListed x.left new
  pub once : (j k : ℕ) → length old ≤ j → j < k → k < length new → moves_of p.snapshot (tour_at new j) ≡ moves_of p.snapshot (tour_at new k) → ⊥
