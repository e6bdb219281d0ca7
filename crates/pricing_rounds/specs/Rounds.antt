-- What a round of pricings is asked and what it answers.
use Rattle.std.specs.Prelude.{◌≡◌, ℕ, ◌+◌, ◌-◌, ◌*◌, ◌/◌, ◌%◌, ◌<◌, ◌≤◌, ◌^◌, List, length, map, slice_get, slice_index, slice_index_or, Some}
use Rattle.std.specs.List.{All, range_with_len}
use Rattle.std.specs.List.Sorted.{IsNonDecreasingBy, IsPermutation}
use Rattle.elevator_model.specs.Snapshot.{Snapshot, car_count, call_count}
use Rattle.search_model.specs.declared.TurnOf.{TurnOf}
use Rattle.search_model.specs.Nodes.{IsNodeOf}
use Rattle.search_model.specs.Prices.{price_at}
use Rattle.search_model.specs.Solving.{no_turn}
use Rattle.search_tree.specs.Answers.{IsAnswerIn}
use Rattle.work_fan.specs.declared.workers.Done.{Done}
use Rattle.pricing_rounds.specs.declared.tasks.Task.{Task}

-- a node of the snapshot's search, and one price for each call
pub record IsTaskOf (s : Snapshot) (task : Task) : Type 0 where
  pub node : IsNodeOf s task.node.now
  pub prices : length task.prices.now ≡ call_count s

-- the numbers below n, each once, in some order
abbrev pub IsOrderOf : ℕ → List ℕ → Type 0
IsOrderOf n order = IsPermutation (range_with_len 0 n) order

-- no number has a greater size than one before it: what the sizes lack to the greatest of 64 bits rises
abbrev pub AreFallingBy : (sizes : List ℕ) → List ℕ → Type 0
AreFallingBy sizes order = IsNonDecreasingBy (λ k. 2 ^ 64 - 1 - slice_index sizes k) order

-- each answer with the number of its pricing
abbrev pub done_from : List (ℕ × TurnOf) → List (Done TurnOf)
done_from pairs = map (λ (p : ℕ × TurnOf). record { job = p.0; answer = p.1 }) pairs

-- few tasks and cars, so that their pricings can be numbered, and which pricing each job is
pub record IsRound (s : Snapshot) (tasks : List Task) (cars : ℕ) (order : List ℕ) : Type 0 where
  pub few_tasks : length tasks ≤ 4
  pub few_cars : cars ≤ 16
  pub cars_are : cars ≡ car_count s
  pub each : (i : ℕ) (task : Task) → slice_get tasks i ≡ Some task → IsTaskOf s task
  pub drawn : length order ≡ length tasks * cars
  pub below : All (λ p. p < length tasks * cars) order

-- a pricing of car c at task i, where there is such a task
abbrev pub IsAnswerOf : Snapshot → (most_tours : ℕ) → List Task → (i c : ℕ) → TurnOf → Type 0
IsAnswerOf s most_tours tasks i c answer =
    (task : Task) → slice_get tasks i ≡ Some task → IsAnswerIn s most_tours task.node.now (price_at task.prices.now) c answer

-- an answer of pricing p, that of car p % cars at task p / cars
abbrev pub IsAnswerAt : Snapshot → (most_tours : ℕ) → List Task → (cars p : ℕ) → TurnOf → Type 0
IsAnswerAt s most_tours tasks cars p answer = IsAnswerOf s most_tours tasks (p / cars) (p % cars) answer

-- the pricings of all cars at all tasks: at i * cars + c stands that of car c at task i
abbrev pub AreAnswersOf : Snapshot → (most_tours : ℕ) → List Task → (cars : ℕ) → List TurnOf → Type 0
AreAnswersOf s most_tours tasks cars answers =
    (i c : ℕ) → c < cars → IsAnswerOf s most_tours tasks i c (slice_index_or answers (i * cars + c) no_turn)
