-- How a search ends.
use Rattle.std.specs.Prelude.{◌≡◌, ℕ, ◌<◌, ◌≤◌, ◌^◌, ◌⊎◌, min, ℤ, pos, ◌≤ℤ◌, ◌<ℤ◌, List, length, map, All, Some, None}
use Rattle.elevator_model.specs.declared.Stop.{Stop}
use Rattle.elevator_model.specs.Snapshot.{Snapshot, car_count, call_count}
use Rattle.elevator_model.specs.Plans.{IsFeasiblePlan, plan_cost_of, tour_of}
use Rattle.search_model.specs.declared.Turn.{Turn}
use Rattle.search_model.specs.declared.StopReason.{StopReason}
use Rattle.search_model.specs.declared.StopReason.TheVariants.{Solved, Rounds, Moves, Told}
use Rattle.search_model.specs.Nodes.{root_of}
use Rattle.search_model.specs.Solving.{HasChoice, AreRootTurns, IsTourOfTurns, least_bound, sum_of_turn}
use Rattle.search_tree.specs.declared.branches.Branch.{Branch}
use Rattle.search_tree.specs.Sheets.{PriceSheet, sum_of_sheet}
use Rattle.search_tree.specs.Branches.{AreSingle, at_place, twig_of}
use Rattle.search_tree.specs.Standing.{AllInTree, IsAtLeast, IsSheetIn, bound_of_sheet}
use Rattle.node_search.specs.declared.best.Best.{Best}
use Rattle.node_search.specs.declared.found.Found.{Found}
use Rattle.node_search.specs.declared.root.Root.{Root}
use Rattle.node_search.specs.declared.root.TheConstants.{MOST_TURNS}
use Rattle.node_search.specs.declared.search.Search.{Search}
use Rattle.node_search.specs.Roots.{IsRoot, IsSolvedIfUnspent, leaf_of_root, start_of_series}
use Rattle.node_search.specs.Searches.{IsSearching, IsAtRest}

-- where this many tries are enough, no plan made of the tours of the turns is cheaper
abbrev pub IsCheapestOfTurns : Snapshot → (most_tours cost : ℕ) → List Turn → Type 0
IsCheapestOfTurns s most_tours cost turns =
    34 ^ car_count s ≤ most_tours → (other : List (List Stop)) → IsFeasiblePlan s other → ((c : ℕ) → c < car_count s → IsTourOfTurns turns c (tour_of other c))
    → cost ≤ plan_cost_of s other

-- the root's bound is below the cost
abbrev pub IsOpenRoot : Root → Type 0
IsOpenRoot root = bound_of_sheet (leaf_of_root root).sheet <ℤ pos root.best.cost

-- The root after the turns that are due: where it is open they are as many as the rounds allow and
-- `MOST_TURNS` at most where some call has two cars, and else one is enough, whose tours were tried.
pub record HasDueTurns (s : Snapshot) (rounds : ℕ) (root : Root) : Type 0 where
  pub few : length root.series.turns.items ≤ rounds
  pub begun : IsOpenRoot root → 1 ≤ length root.series.turns.items
  pub single : AreSingle (call_count s) (root_of s) → IsOpenRoot root → IsSolvedIfUnspent root
  pub many : (AreSingle (call_count s) (root_of s) → ⊥) → IsOpenRoot root → length root.series.turns.items ≡ min rounds MOST_TURNS

-- the root after some turns, in a search that started with these prices and worths
pub record IsTurnedSoFar (s : Snapshot) (rounds most_tours : ℕ) (start : PriceSheet) (root : Root) : Type 0 where
  pub stands : IsRoot s most_tours root
  pub start_is : start_of_series root.series ≡ start.prices
  pub sheet : IsSheetIn s (root_of s) start
  pub rises : sum_of_sheet start ≤ℤ sum_of_sheet (leaf_of_root root).sheet
  pub few : length root.series.turns.items ≤ rounds

-- the root after its turns, in a search that started with these prices and worths
pub record IsTurned (s : Snapshot) (rounds most_tours : ℕ) (start : PriceSheet) (root : Root) : Type 0 where
  pub stands : IsRoot s most_tours root
  pub start_is : start_of_series root.series ≡ start.prices
  pub sheet : IsSheetIn s (root_of s) start
  pub rises : sum_of_sheet start ≤ℤ sum_of_sheet (leaf_of_root root).sheet
  pub due : HasDueTurns s rounds root

-- the tree stays as it was: no call has two cars, or there were too few turns for a split
pub record IsKeptRoot (calls turns : ℕ) (old new : List Branch) : Type 0 where
  pub same : new ≡ old
  pub few : (AreSingle calls (at_place old 0).node → ⊥) → turns < MOST_TURNS

-- What stands of the turns at the root and of the tree that grows from it.
pub record HasTurnsAbove (s : Snapshot) (most_tours : ℕ) (start : PriceSheet) (turns : List Turn) (tree : List Branch) (cost : ℕ) : Type 0 where
  pub sheet : IsSheetIn s (root_of s) start
  pub root_turns : AreRootTurns s most_tours start.prices turns
  pub few_turns : length turns ≤ MOST_TURNS
  pub above_start : AllInTree (IsAtLeast (sum_of_sheet start)) s tree
  pub above_turns : All (λ (turn : Turn). AllInTree (IsAtLeast (sum_of_turn turn)) s tree) turns
  pub tours : IsCheapestOfTurns s most_tours cost turns

-- A search below the root, whose turns were these.
pub record IsBegun (s : Snapshot) (rounds most_tours : ℕ) (start : PriceSheet) (turns : List Turn) (x : Search) : Type 0 where
  pub searching : IsSearching s most_tours x
  pub above : HasTurnsAbove s most_tours start turns x.tree.branches x.best.cost
  pub few : x.done ≤ rounds
  pub many : HasChoice s → length turns ≡ min rounds MOST_TURNS

-- It has ended: as many rounds were done as may be, or no leaf may be priced any more.
pub record IsEnded (s : Snapshot) (rounds most_tours : ℕ) (start : PriceSheet) (turns : List Turn) (x : Search) : Type 0 where
  pub begun : IsBegun s rounds most_tours start turns x
  pub ended : (x.done ≡ rounds) ⊎ IsAtRest s x

-- ---- the answer

-- what the tree proves of every plan, in cost units
abbrev pub least_of : (cost : ℕ) → List Branch → ℤ
least_of cost tree = least_bound cost (map twig_of tree)

-- a leaf whose bound is below the cost
pub record IsBelow (cost : ℕ) (tree : List Branch) (k : ℕ) : Type 0 where
  pub in_tree : k < length tree
  pub leaf : (at_place tree k).split ≡ None
  pub below : bound_of_sheet (at_place tree k).sheet <ℤ pos cost

-- the bound is below the cost, and where no leaf may be priced any more, none of those below the cost was spent
pub record AreRoundsDone (s : Snapshot) (x : Search) (done : ℕ) : Type 0 where
  pub below : least_of x.best.cost x.tree.branches <ℤ pos x.best.cost
  pub done_is : done ≡ x.done
  pub unspent : IsAtRest s x → (k : ℕ) → IsBelow x.best.cost x.tree.branches k → (at_place x.tree.branches k).spent ≡ None

-- the bound is below the cost, no leaf may be priced any more, and the car was spent in one that is below the cost
pub record IsCarSpent (s : Snapshot) (most_tours : ℕ) (x : Search) (car count : ℕ) : Type 0 where
  pub below : least_of x.best.cost x.tree.branches <ℤ pos x.best.cost
  pub count_is : count ≡ most_tours
  pub rest : IsAtRest s x
  pub place : ℕ
  pub at : IsBelow x.best.cost x.tree.branches place
  pub spent : (at_place x.tree.branches place).spent ≡ Some car

-- why the rounds ended
abbrev pub IsReasonOf : Snapshot → (most_tours : ℕ) → Search → StopReason → Type 0
IsReasonOf s most_tours x Solved = pos x.best.cost ≤ℤ least_of x.best.cost x.tree.branches
IsReasonOf s most_tours x (Rounds done) = AreRoundsDone s x done
IsReasonOf s most_tours x (Moves car count) = IsCarSpent s most_tours x car count
IsReasonOf s most_tours x Told = ⊥

-- the answer of a search that ended with this tree, this plan and these turns
pub record IsAnswerOf (tree : List Branch) (best : Best) (turns : List Turn) (why : StopReason) (f : Found) : Type 0 where
  pub plan : f.stated.plan ≡ best.plan
  pub cost : f.stated.cost ≡ best.cost
  pub bound : pos f.stated.bound ≡ least_of best.cost tree
  pub twigs : f.tree.twigs ≡ map twig_of tree
  pub turns_are : f.turns ≡ turns
  pub why_is : f.why ≡ why
