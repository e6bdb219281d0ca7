-- What a plan has to be that an answer states, and its boards by rising index.
use Rattle.std.specs.Prelude.{◌≡◌, ℕ, ◌<◌, ◌==◌, List, length, map, filter, All}
use Rattle.std.specs.List.{flat_map, range_with_len}
use Rattle.elevator_model.specs.declared.Stop.{Stop}
use Rattle.elevator_model.specs.Snapshot.{Snapshot, car_count, call_count}
use Rattle.search_model.specs.declared.Stated.{Stated}

-- ---- calls that board

-- each is a call of the snapshot
abbrev pub AreCalls : Snapshot → List ℕ → Type 0
AreCalls s boards = All (λ j. j < call_count s) boards

-- each board of the tour is a call of the snapshot
abbrev pub BoardsCalls : Snapshot → List Stop → Type 0
BoardsCalls s tour = All (λ (stop : Stop). AreCalls s stop.boards) tour

-- there is one tour per car, and each board is a call of the snapshot
pub record FitsSnapshot (s : Snapshot) (plan : List (List Stop)) : Type 0 where
  pub tours : length plan ≡ car_count s
  pub boards : All (BoardsCalls s) plan

-- ---- the order inside the boards of a stop has no meaning

-- the boards by rising index: a call that stands there twice stays twice
abbrev pub by_index : Snapshot → List ℕ → List ℕ
by_index s boards = flat_map (λ j. filter (λ x. x == j) boards) (range_with_len 0 (call_count s))

abbrev pub stop_by_index : Snapshot → Stop → Stop
stop_by_index s stop = record { floor = stop.floor; boards = by_index s stop.boards }

abbrev pub plan_by_index : Snapshot → List (List Stop) → List (List Stop)
plan_by_index s plan = map (map (stop_by_index s)) plan

abbrev pub stated_by_index : Snapshot → Stated → Stated
stated_by_index s stated = record { plan = plan_by_index s stated.plan; cost = stated.cost; bound = stated.bound }
