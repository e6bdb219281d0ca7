-- A search below the root.
use Rattle.std.specs.Prelude.{◌⊎◌, All, take, drop, slice_get, ◌≡◌, ℕ, ◌+◌, ◌*◌, ◌^◌, ◌<◌, ◌≤◌, true, ℤ, pos, ◌<ℤ◌, List, [], length, Some, None}
use Rattle.std.specs.Prelude.{slice_index_or}
use Rattle.elevator_model.specs.declared.Stop.{Stop}
use Rattle.elevator_model.specs.Snapshot.{Snapshot, car_count, call_count}
use Rattle.elevator_model.specs.Plans.{tour_of}
use Rattle.search_model.specs.declared.TurnOf.{TurnOf}
use Rattle.search_model.specs.Nodes.{is_part, set_of}
use Rattle.search_model.specs.Solving.{no_turn}
use Rattle.search_tree.specs.declared.branches.Branch.{Branch}
use Rattle.search_tree.specs.declared.branches.TheConstants.{MOST_PRICINGS}
use Rattle.search_tree.specs.Branches.{AreSingle, at_place, split_tree}
use Rattle.search_tree.specs.Standing.{AllInTree, IsAtLeast, IsTreeOf, bound_of_sheet, pricings_of}
use Rattle.search_tree.specs.Answers.{AreAnswersIn, BeginsAt}
use Rattle.node_search.specs.declared.search.Search.{Search}
use Rattle.pricing_rounds.specs.declared.tasks.Task.{Task}
use Rattle.node_search.specs.declared.rounds.Chosen.{Chosen}
use Rattle.node_search.specs.Best.{IsBest}

-- the tree and the cheapest plan, also within a round
pub record IsUnderWay (s : Snapshot) (most_tours : ℕ) (x : Search) : Type 0 where
  pub best : IsBest s x.best
  pub tree : IsTreeOf s most_tours x.best.cost x.tree.branches

-- between rounds
pub record IsSearching (s : Snapshot) (most_tours : ℕ) (x : Search) : Type 0 where
  pub under_way : IsUnderWay s most_tours x
  pub begun : 1 ≤ x.done
  pub pricings : x.done ≤ pricings_of x.tree.branches
  pub size : length x.tree.branches ≤ 8 * x.done + 1

-- a leaf that a round may price
pub record IsTakeable (cost : ℕ) (b : Branch) : Type 0 where
  pub leaf : b.split ≡ None
  pub few : b.rounds < MOST_PRICINGS
  pub below : bound_of_sheet b.sheet <ℤ pos cost

-- the pricings of all cars in the leaf at this place
pub record IsPricingOf (s : Snapshot) (most_tours : ℕ) (x : Search) (place : ℕ) (prices : List ℤ) (cars : List TurnOf) : Type 0 where
  pub within : place < length x.tree.branches
  pub leaf : (at_place x.tree.branches place).split ≡ None
  pub few : (at_place x.tree.branches place).rounds < MOST_PRICINGS
  pub begins : BeginsAt (at_place x.tree.branches place) prices
  pub answers : AreAnswersIn s most_tours (at_place x.tree.branches place).node prices cars

-- the leaf at the place is split into the two parts of some set
pub record IsSplit (place : ℕ) (old new : List Branch) : Type 0 where
  pub call : ℕ
  pub part : ℕ
  pub small : part < 2 ^ 16
  pub is : is_part (set_of (at_place old place).node call) part ≡ true
  pub split : new ≡ split_tree old place call part

-- each pricing gave a tour, and the plan has it
pub record IsPlanOf (cars : List TurnOf) (plan : List (List Stop)) : Type 0 where
  pub count : length plan ≡ length cars
  pub tours : (c : ℕ) → c < length cars → (slice_index_or cars c no_turn).tour ≡ Some (tour_of plan c)

-- what a pricing of the leaf at the place changes
pub record HasSettled (s : Snapshot) (old new : Search) (place : ℕ) : Type 0 where
  pub cheaper : new.best.cost ≤ old.best.cost
  pub pricings : pricings_of old.tree.branches < pricings_of new.tree.branches
  pub least : length old.tree.branches ≤ length new.tree.branches
  pub size : length new.tree.branches ≤ length old.tree.branches + 2
  pub before : (i : ℕ) → i < place → at_place new.tree.branches i ≡ at_place old.tree.branches i
  pub done : new.done ≡ old.done
  -- no leaf's sum falls
  pub sums : (z : ℤ) → AllInTree (IsAtLeast z) s old.tree.branches → AllInTree (IsAtLeast z) s new.tree.branches

-- ---- what a round takes

-- a round may price the leaf: its bound is below the cost, and it was not priced or some call has two cars left
pub record IsWanted (s : Snapshot) (cost : ℕ) (b : Branch) : Type 0 where
  pub leaf : b.split ≡ None
  pub below : bound_of_sheet b.sheet <ℤ pos cost
  pub open_yet : 0 < b.rounds → AreSingle (call_count s) b.node → ⊥

-- a leaf that no round may price any more: its bound is not below the cost, or each call has one car left and it was
-- priced
pub record IsLeft (s : Snapshot) (cost : ℕ) (b : Branch) : Type 0 where
  pub single : b.split ≡ None → bound_of_sheet b.sheet <ℤ pos cost → AreSingle (call_count s) b.node
  pub was : b.split ≡ None → bound_of_sheet b.sheet <ℤ pos cost → 0 < b.rounds

-- places that rise, of leaves that a round may price
pub record AreSome (s : Snapshot) (cost : ℕ) (tree : List Branch) (places : List ℕ) : Type 0 where
  pub few : length places ≤ 4
  pub within : (i : ℕ) → i < length places → slice_index_or places i 0 < length tree
  pub wanted : (i : ℕ) → i < length places → IsWanted s cost (at_place tree (slice_index_or places i 0))
  pub rise : (i j : ℕ) → i < j → j < length places → slice_index_or places i 0 < slice_index_or places j 0

-- None are taken only where there is none.
pub record AreChosen (s : Snapshot) (cost : ℕ) (tree : List Branch) (places : List ℕ) : Type 0 where
  pub some : AreSome s cost tree places
  pub none : places ≡ [] → (k : ℕ) → k < length tree → IsLeft s cost (at_place tree k)

-- ---- a round

-- a leaf that a round prices, and at which prices
pub record IsTaken (s : Snapshot) (x : Search) (c : Chosen) : Type 0 where
  pub within : c.place < length x.tree.branches
  pub wanted : IsWanted s x.best.cost (at_place x.tree.branches c.place)
  pub calls : length c.prices.items ≡ length (at_place x.tree.branches c.place).sheet.prices
  pub begins : BeginsAt (at_place x.tree.branches c.place) c.prices.items

abbrev pub AreRising : List Chosen → Type 0
AreRising chosen = (i j : ℕ) (c d : Chosen) → i < j → slice_get chosen i ≡ Some c → slice_get chosen j ≡ Some d → c.place < d.place

-- at most four such leaves, their places rising; none only where no leaf may be priced any more
pub record AreTaken (s : Snapshot) (x : Search) (chosen : List Chosen) : Type 0 where
  pub few : length chosen ≤ 4
  pub each : All (IsTaken s x) chosen
  pub rise : AreRising chosen
  pub none : chosen ≡ [] → (k : ℕ) → k < length x.tree.branches → IsLeft s x.best.cost (at_place x.tree.branches k)

-- all cars were priced in each of these leaves: those of one after those of the other
pub record ArePriced (s : Snapshot) (most_tours : ℕ) (x : Search) (chosen : List Chosen) (answers : List TurnOf) : Type 0 where
  pub count : length answers ≡ length chosen * car_count s
  pub each : (i : ℕ) (c : Chosen) → slice_get chosen i ≡ Some c
      → IsPricingOf s most_tours x c.place c.prices.items (take (car_count s) (drop (i * car_count s) answers))
  pub rise : AreRising chosen

-- what n pricings of leaves change
pub record HasAdvanced (s : Snapshot) (n : ℕ) (old new : Search) : Type 0 where
  pub cheaper : new.best.cost ≤ old.best.cost
  pub pricings : pricings_of old.tree.branches + n ≤ pricings_of new.tree.branches
  pub size : length new.tree.branches ≤ length old.tree.branches + 2 * n
  pub done : new.done ≡ old.done
  pub sums : (z : ℤ) → AllInTree (IsAtLeast z) s old.tree.branches → AllInTree (IsAtLeast z) s new.tree.branches

-- what a round changes
pub record HasDoneRound (s : Snapshot) (old new : Search) : Type 0 where
  pub cheaper : new.best.cost ≤ old.best.cost
  pub done : new.done ≡ old.done + 1
  pub sums : (z : ℤ) → AllInTree (IsAtLeast z) s old.tree.branches → AllInTree (IsAtLeast z) s new.tree.branches

-- no leaf may be priced any more
abbrev pub IsAtRest : Snapshot → Search → Type 0
IsAtRest s x = (k : ℕ) → k < length x.tree.branches → IsLeft s x.best.cost (at_place x.tree.branches k)

-- what rounds change, where at most this many may be done
pub record HasGoneOn (s : Snapshot) (rounds : ℕ) (old new : Search) : Type 0 where
  pub cheaper : new.best.cost ≤ old.best.cost
  pub few : new.done ≤ rounds
  pub sums : (z : ℤ) → AllInTree (IsAtLeast z) s old.tree.branches → AllInTree (IsAtLeast z) s new.tree.branches

-- what all rounds change
pub record HasRun (s : Snapshot) (rounds : ℕ) (old new : Search) : Type 0 where
  pub cheaper : new.best.cost ≤ old.best.cost
  pub few : new.done ≤ rounds
  pub ended : (new.done ≡ rounds) ⊎ IsAtRest s new
  pub sums : (z : ℤ) → AllInTree (IsAtLeast z) s old.tree.branches → AllInTree (IsAtLeast z) s new.tree.branches

-- ---- the parts of a round

-- the leaf at the place, with a price for each call: first those of the leaf
pub record IsPricedFrom (x : Search) (place : ℕ) (c : Chosen) : Type 0 where
  pub at : c.place ≡ place
  pub calls : length c.prices.items ≡ length (at_place x.tree.branches place).sheet.prices
  pub begins : BeginsAt (at_place x.tree.branches place) c.prices.items

-- the node of the leaf, at its prices
pub record IsTaskFor (x : Search) (c : Chosen) (task : Task) : Type 0 where
  pub node : task.node.now ≡ (at_place x.tree.branches c.place).node
  pub prices : task.prices.now ≡ c.prices.items

-- such a task for each leaf
pub record AreTasksFor (x : Search) (chosen : List Chosen) (tasks : List Task) : Type 0 where
  pub count : length tasks ≡ length chosen
  pub each : (i : ℕ) (c : Chosen) (task : Task) → slice_get chosen i ≡ Some c → slice_get tasks i ≡ Some task → IsTaskFor x c task
