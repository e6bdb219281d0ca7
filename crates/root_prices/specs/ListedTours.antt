-- The tours that are kept of a start plan and of turns.
use Rattle.std.specs.Prelude.{◌≡◌, ℕ, ◌<◌, ◌≤◌, ◌⊎◌, List, length, All, false, Some}
use Rattle.std.specs.List.{AllPairs, Contains}
use Rattle.elevator_model.specs.declared.Stop.{Stop}
use Rattle.elevator_model.specs.Snapshot.{Snapshot, car_count}
use Rattle.elevator_model.specs.Plans.{tour_of}
use Rattle.search_model.specs.declared.Turn.{Turn}
use Rattle.search_model.specs.Solving.{IsTourOfTurns, turn_of_car}
use Rattle.restricted_master.specs.Columns.{same_tour}
use Rattle.half_plans.specs.PairPlans.{list_of}

-- the tours of the turn are in the lists
abbrev pub AreListed : Snapshot → (lists : List (List (List Stop))) → Turn → Type 0
AreListed s lists turn =
    (c : ℕ) (tour : List Stop) → c < car_count s → (turn_of_car turn c).tour ≡ Some tour → Contains (list_of lists c) tour

-- each car's list has its tour in the plan, those of the turns, and no others
pub record HoldTours (s : Snapshot) (plan : List (List Stop)) (turns : List Turn) (lists : List (List (List Stop))) : Type 0 where
  pub cars : length lists ≡ car_count s
  pub of_plan : (c : ℕ) → c < car_count s → Contains (list_of lists c) (tour_of plan c)
  pub of_turns : All (AreListed s lists) turns
  pub only : (c : ℕ) (tour : List Stop) → c < car_count s → Contains (list_of lists c) tour → (tour ≡ tour_of plan c) ⊎ IsTourOfTurns turns c tour

-- The kept lists of a plan and turns: for each car its tours in them, no two the same.
pub record AreKeptLists (s : Snapshot) (plan : List (List Stop)) (turns : List Turn) (lists : List (List (List Stop))) : Type 0 where
  pub tours : HoldTours s plan turns lists
  pub distinct : (c : ℕ) → AllPairs (λ (t u : List Stop). same_tour t u ≡ false) (list_of lists c)
  pub few : (c : ℕ) → length (list_of lists c) ≤ 32
