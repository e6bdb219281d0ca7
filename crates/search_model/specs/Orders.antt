-- The order of partial tours, as lists of moves, and lists of all that have a property.
use Rattle.std.specs.Prelude.{◌≡◌, ℕ, zero, suc, ◌+◌, ◌*◌, ◌≤◌, ◌⊎◌, List, [], ◌∷◌, ◌++◌, length, Bool, true, false, nat_lt, flat_map, if◌then◌else◌, Option}
use Rattle.std.specs.Prelude.{Some, None}
use Rattle.elevator_model.specs.declared.Stop.{Stop}
use Rattle.elevator_model.specs.declared.Move.{Move}
use Rattle.elevator_model.specs.declared.Move.TheVariants.{Board, Leave, End}
use Rattle.call_sets.specs.Counting.{sum_where}
use Rattle.elevator_model.specs.Snapshot.{Snapshot, call_count}
use Rattle.elevator_model.specs.Tours.{rider_count, is_aboard}
use Rattle.elevator_model.specs.Partial.{Course, course_start, move_on, moves_of, boards_allowed, lawful_moves, IsLawful}

-- boards by index, then leaves by floor, then the end
abbrev pub comes_before : Move → Move → Bool
comes_before (Board i) (Board j) = nat_lt i j
comes_before (Board i) (Leave g) = true
comes_before (Board i) End = true
comes_before (Leave f) (Board j) = false
comes_before (Leave f) (Leave g) = nat_lt f g
comes_before (Leave f) End = true
comes_before End (Board j) = false
comes_before End (Leave g) = false
comes_before End End = false

-- the first move that differs decides, and a list comes before its extensions
abbrev pub IsBefore : List Move → List Move → Type 0
IsBefore [] [] = ⊥
IsBefore [] (n ∷ ns) = Unit {0}
IsBefore (m ∷ ms) [] = ⊥
IsBefore (m ∷ ms) (n ∷ ns) = (comes_before m n ≡ true) ⊎ ((m ≡ n) × IsBefore ms ns)

-- each list of moves has the property
abbrev pub Each : (List Move → Type 0) → List (List Move) → Type 0
Each P [] = Unit {0}
Each P (w ∷ lists) = P w × Each P lists

-- each comes before all later ones: so none stands twice
abbrev pub AreInOrder : List (List Move) → Type 0
AreInOrder [] = Unit {0}
AreInOrder (w ∷ lists) = Each (IsBefore w) lists × AreInOrder lists

-- the list of moves is in the list
abbrev pub IsAmongLists : List Move → List (List Move) → Type 0
IsAmongLists w [] = ⊥
IsAmongLists w (v ∷ lists) = (v ≡ w) ⊎ IsAmongLists w lists

-- The list has exactly the lists of moves with the property, in their order, each once.
pub record ListsAll (P : List Move → Type 0) (lists : List (List Move)) : Type 0 where
  pub each : Each P lists
  pub all : (w : List Move) → P w → IsAmongLists w lists
  pub order : AreInOrder lists

-- There are at least n different lists of moves with the property.
pub record AtLeast (P : List Move → Type 0) (n : ℕ) : Type 0 where
  pub lists : List (List Move)
  pub each : Each P lists
  pub order : AreInOrder lists
  pub many : n ≤ length lists

-- the tour begins with these moves
abbrev pub BeginsWith : Snapshot → List Stop → List Move → Type 0
BeginsWith s tour moves = (later : List Move) × (moves_of s tour ≡ moves ++ later)

-- all boards are of allowed calls
abbrev pub AreAllowed : (ℕ → Bool) → List Move → Type 0
AreAllowed allowed [] = Unit {0}
AreAllowed allowed (m ∷ ms) = (boards_allowed allowed m ≡ true) × AreAllowed allowed ms

-- a lawful partial tour of the car that boards allowed calls only
pub record IsPartialTour (s : Snapshot) (c : ℕ) (allowed : ℕ → Bool) (moves : List Move) : Type 0 where
  pub lawful : IsLawful s c moves
  pub allowed_boards : AreAllowed allowed moves

-- the most moves that a partial tour can have: three for each call, one for each group aboard, and two
abbrev pub move_limit : Snapshot → ℕ → ℕ
move_limit s c = 3 * call_count s + sum_where (rider_count s) (is_aboard s c) (λ _. 1) + 2

-- what follows from where a move leads
abbrev pub lists_at : (Course → List (List Move)) → Option Course → List (List Move)
lists_at f None = []
lists_at f (Some x) = f x

-- From moves that lead to x: the partial tours with fewer than n moves more that pass the test with each
-- of their beginnings from here on, each before its extensions, in the order of moves.
abbrev pub lists_from : Snapshot → ℕ → (allowed : ℕ → Bool) → (keep : Course → Bool) → (n : ℕ) → List Move → Course → List (List Move)
lists_from s c allowed keep zero moves x = []
lists_from s c allowed keep (suc n) moves x =
    if keep x then moves ∷ flat_map (λ m. lists_at (lists_from s c allowed keep n (moves ++ m ∷ [])) (move_on s c x m)) (lawful_moves s c x allowed) else []

-- The partial tours of a car that pass the test with each of their beginnings.
abbrev pub tested_lists : Snapshot → ℕ → (allowed : ℕ → Bool) → (keep : Course → Bool) → List (List Move)
tested_lists s c allowed keep = lists_from s c allowed keep (move_limit s c + 1) [] (course_start s c)

abbrev pub any_course : Course → Bool
any_course _ = true

-- All lawful partial tours of a car that board allowed calls only, in order, each once.
abbrev pub partial_tours : Snapshot → ℕ → (allowed : ℕ → Bool) → List (List Move)
partial_tours s c allowed = tested_lists s c allowed any_course
