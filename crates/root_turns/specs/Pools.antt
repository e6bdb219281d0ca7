-- What turns put into a pool of tours.
use Rattle.std.specs.Prelude.{◌≡◌, ℕ, ◌+◌, ◌<◌, ◌≤◌, List, [], ◌∷◌, length, slice_index_or, Option, Some, None, IfSome}
use Rattle.std.specs.List.{Contains}
use Rattle.elevator_model.specs.declared.Stop.{Stop}
use Rattle.elevator_model.specs.Snapshot.{Snapshot, car_count}
use Rattle.elevator_model.specs.Tours.{IsFeasible}
use Rattle.elevator_model.specs.Plans.{tour_of}
use Rattle.search_model.specs.declared.Turn.{Turn}
use Rattle.search_model.specs.declared.TurnOf.{TurnOf}
use Rattle.search_model.specs.Solving.{no_turn, turn_of_car}
use Rattle.restricted_master.specs.Pools.{TourPool, tours_of_car, with_tour_of_car}

-- the tours that pricings gave are feasible
abbrev pub AreToursOf : Snapshot → List TurnOf → Type 0
AreToursOf s cars = (c : ℕ) → c < length cars → IfSome (slice_index_or cars c no_turn).tour (IsFeasible s c)

abbrev pub with_given : TourPool → ℕ → Option (List Stop) → TourPool
with_given pool c None = pool
with_given pool c (Some tour) = with_tour_of_car pool c tour

-- the pool with the tours of the pricings of the cars from c on
abbrev pub with_turn : TourPool → ℕ → List TurnOf → TourPool
with_turn pool c [] = pool
with_turn pool c (turn ∷ cars) = with_turn (with_given pool c turn.tour) (c + 1) cars

-- the tours of the turn are in the pool
abbrev pub IsPooled : Snapshot → TourPool → Turn → Type 0
IsPooled s pool turn =
    (c : ℕ) (tour : List Stop) → c < car_count s → (turn_of_car turn c).tour ≡ Some tour → Contains (tours_of_car pool c) tour

-- each car has the tour of the plan and no other
pub record HoldsPlan (s : Snapshot) (plan : List (List Stop)) (pool : TourPool) : Type 0 where
  pub snapshot : pool.snapshot ≡ s
  pub cars : length pool.tours ≡ car_count s
  pub tours : (c : ℕ) → c < car_count s → tours_of_car pool c ≡ tour_of plan c ∷ []
  pub none : (c : ℕ) → car_count s ≤ c → tours_of_car pool c ≡ []
