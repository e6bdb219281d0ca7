-- The turns at the root.
use Rattle.std.specs.Prelude.{◌≡◌, ℕ, ◌+◌, ◌<◌, ◌≤◌, ◌^◌, ℤ, pos, ◌≤ℤ◌, ◌<ℤ◌, List, [], ◌∷◌, length, slice_set, All, None}
use Rattle.elevator_model.specs.declared.Stop.{Stop}
use Rattle.elevator_model.specs.Snapshot.{Snapshot, call_count, car_count}
use Rattle.elevator_model.specs.Plans.{plan_cost_of}
use Rattle.search_model.specs.declared.Turn.{Turn}
use Rattle.search_model.specs.declared.TurnOf.{TurnOf}
use Rattle.search_model.specs.Nodes.{IsNodeOf, root_of}
use Rattle.search_model.specs.Certificates.{root_place}
use Rattle.restricted_master.specs.Pools.{TourPool, IsMadeOf, tours_of_car}
use Rattle.search_tree.specs.declared.branches.Branch.{Branch}
use Rattle.search_tree.specs.Sheets.{PriceSheet, sum_of_sheet, sheet_of_turn}
use Rattle.search_tree.specs.Branches.{at_place, first_spent, leaf_at, noted}
use Rattle.search_tree.specs.Standing.{IsBranchAt, bound_of_sheet}
use Rattle.search_tree.specs.Answers.{AreAnswersIn, BeginsAt}
use Rattle.node_search.specs.declared.root.Root.{Root}
use Rattle.node_search.specs.declared.root.TheConstants.{MOST_TURNS}
use Rattle.root_turns.specs.declared.series.TurnSeries.{TurnSeries}
use Rattle.root_turns.specs.Dues.{IsTurnBelow, start_of_turns}
use Rattle.root_turns.specs.Pools.{IsPooled, with_turn}
use Rattle.root_turns.specs.Series.{HasPushed, IsTurnSeries}
use Rattle.node_search.specs.Best.{IsBest}

-- where `most_tours` tries are enough, no plan that is made of tours of the pool is cheaper
abbrev pub IsCheapestOf : Snapshot → (most_tours : ℕ) → TourPool → (cost : ℕ) → Type 0
IsCheapestOf s most_tours pool cost = 34 ^ car_count s ≤ most_tours → (plan : List (List Stop)) → IsMadeOf pool plan → cost ≤ plan_cost_of s plan

-- the prices of the first turn of a series
abbrev pub start_of_series : TurnSeries → List ℤ
start_of_series x = start_of_turns x.turns.items x.prices.items

-- The root, after some turns.
pub record IsRoot (s : Snapshot) (most_tours : ℕ) (root : Root) : Type 0 where
  pub branch : Branch
  pub lone : root.tree.branches ≡ branch ∷ []
  pub at : IsBranchAt s most_tours (root_place s) branch
  pub leaf : branch.split ≡ None
  pub rounds : branch.rounds ≡ length root.series.turns.items
  pub begins : BeginsAt branch root.series.prices.items
  pub best : IsBest s root.best
  pub series : IsTurnSeries s most_tours (start_of_series root.series) root.series
  pub few_turns : length root.series.turns.items ≤ MOST_TURNS
  pub takes : All (IsTurnBelow (sum_of_sheet branch.sheet)) root.series.turns.items
  pub pooled : All (IsPooled s root.best.pool) root.series.turns.items
  pub few : (c : ℕ) → length (tours_of_car root.best.pool c) ≤ 1 + length root.series.turns.items
  pub covered : 0 < length root.series.turns.items → IsCheapestOf s most_tours root.best.pool root.best.cost

-- the root before its first turn, with these prices and worths
pub record IsNewRoot (s : Snapshot) (sheet : PriceSheet) (root : Root) : Type 0 where
  pub node : IsNodeOf s (root_of s)
  pub tree : root.tree.branches ≡ leaf_at (root_of s) sheet 0 ∷ []
  pub turns : root.series.turns.items ≡ []
  pub prices : root.series.prices.items ≡ sheet.prices
  pub series : (most_tours : ℕ) → length sheet.prices ≡ call_count s → IsTurnSeries s most_tours sheet.prices root.series
  pub best : IsBest s root.best
  pub few : (c : ℕ) → length (tours_of_car root.best.pool c) ≤ 1

-- the leaf of the root
abbrev pub leaf_of_root : Root → Branch
leaf_of_root root = at_place root.tree.branches 0

-- the pricings of all cars were taken in: in the tree, and what plans they make
pub record HasTakenIn (s : Snapshot) (most_tours : ℕ) (old new : Root) (cars : List TurnOf) : Type 0 where
  pub tree : new.tree.branches ≡ slice_set old.tree.branches 0 (noted (at_place old.tree.branches 0) old.series.prices.items cars)
  pub series : new.series ≡ old.series
  pub best : IsBest s new.best
  pub pool : new.best.pool ≡ with_turn old.best.pool 0 cars
  pub pools : length old.best.pool.tours ≡ car_count s
  pub cheapest : IsCheapestOf s most_tours new.best.pool new.best.cost
  pub cheaper : new.best.cost ≤ old.best.cost

-- and their turn was put after the others
pub record HasTaken (s : Snapshot) (most_tours : ℕ) (old new : Root) (cars : List TurnOf) : Type 0 where
  pub tree : new.tree.branches ≡ slice_set old.tree.branches 0 (noted (at_place old.tree.branches 0) old.series.prices.items cars)
  pub pushed : HasPushed old.series new.series cars
  pub best : IsBest s new.best
  pub pool : new.best.pool ≡ with_turn old.best.pool 0 cars
  pub pools : length old.best.pool.tours ≡ car_count s
  pub cheapest : IsCheapestOf s most_tours new.best.pool new.best.cost
  pub cheaper : new.best.cost ≤ old.best.cost

-- what turns keep
pub record HasTurned (old new : Root) : Type 0 where
  pub start : start_of_series new.series ≡ start_of_series old.series
  pub rises : sum_of_sheet (leaf_of_root old).sheet ≤ℤ sum_of_sheet (leaf_of_root new).sheet
  pub cheaper : new.best.cost ≤ old.best.cost

-- `most` turns were made, and fewer only where the root's bound is not below the cost
pub record IsEnough (most : ℕ) (root : Root) : Type 0 where
  pub few : length root.series.turns.items ≤ most
  pub due : bound_of_sheet (leaf_of_root root).sheet <ℤ pos root.best.cost → length root.series.turns.items ≡ most

-- fewer turns were made than might be
pub record IsTurning (s : Snapshot) (most most_tours : ℕ) (old new : Root) : Type 0 where
  pub stands : IsRoot s most_tours new
  pub turned : HasTurned old new
  pub few : length new.series.turns.items ≤ most

-- one turn was made, with these pricings
pub record HasOneTurn (s : Snapshot) (most_tours : ℕ) (root : Root) : Type 0 where
  pub turn : Turn
  pub turns : root.series.turns.items ≡ turn ∷ []
  pub answers : AreAnswersIn s most_tours (root_of s) turn.prices turn.cars
  pub spent : (leaf_of_root root).spent ≡ first_spent 0 turn.cars
  pub takes : sum_of_sheet (sheet_of_turn turn.prices turn.cars) ≤ℤ sum_of_sheet (leaf_of_root root).sheet

-- where no car's last pricing reached the limit, the bound is not below the cost
abbrev pub IsSolvedIfUnspent : Root → Type 0
IsSolvedIfUnspent root = (leaf_of_root root).spent ≡ None → pos root.best.cost ≤ℤ bound_of_sheet (leaf_of_root root).sheet
