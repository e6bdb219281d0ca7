-- What turns at the root tell: the best prices of them, the cheapest plan in halves that their tours allow, and whether
-- the two meet.
use Rattle.std.specs.Prelude.{◌≡◌, ℕ, ◌*◌, ◌<◌, ◌≤◌, ◌⊎◌, ℤ, pos, ◌*ℤ◌, ◌≤ℤ◌, ◌<ℤ◌, List, length, All, Any, true, false}
use Rattle.elevator_model.specs.declared.Stop.{Stop}
use Rattle.elevator_model.specs.Snapshot.{Snapshot, car_count}
use Rattle.elevator_model.specs.Plans.{plan_cost_of}
use Rattle.search_model.specs.declared.Leaf.{Leaf}
use Rattle.search_model.specs.declared.Turn.{Turn}
use Rattle.search_model.specs.Nodes.{root_of}
use Rattle.search_model.specs.Solving.{AreRootTurns, HasPartialTours, bound_of_leaf, turn_of_car}
use Rattle.search_model.specs.Sums.{rounded_up}
use Rattle.search_tree.specs.Sheets.{PriceSheet, sum_of_sheet}
use Rattle.search_tree.specs.Standing.{IsSheetIn}
use Rattle.half_plans.specs.declared.Pair.{Pair}
use Rattle.half_plans.specs.Mixtures.{IsMixture, IsRootLeaf}
use Rattle.half_plans.specs.PairPlans.{ArePairShares, IsPairPlan, pair_plan_cost, pairing_count}
use Rattle.root_turns.specs.Dues.{IsTurnBelow}
use Rattle.root_prices.specs.declared.answers.RootAnswer.{RootAnswer}
use Rattle.root_prices.specs.declared.reasons.RootReason.{RootReason}
use Rattle.root_prices.specs.declared.reasons.RootReason.TheVariants.{Best, Gap, Moves, Pairs}
use Rattle.root_prices.specs.ListedTours.{AreKeptLists}

-- ---- the best prices

-- The prices are those of the first sheet or of a turn, the worths are worths at the root, and the sum is no smaller than
-- that of the first sheet or of any turn.
pub record IsBestSheet (s : Snapshot) (first : PriceSheet) (turns : List Turn) (sheet : PriceSheet) : Type 0 where
  pub in_root : IsSheetIn s (root_of s) sheet
  pub from : (sheet.prices ≡ first.prices) ⊎ Any (λ (turn : Turn). sheet.prices ≡ turn.prices) turns
  pub first_below : sum_of_sheet first ≤ℤ sum_of_sheet sheet
  pub turns_below : All (IsTurnBelow (sum_of_sheet sheet)) turns

-- ---- why it is so

-- the car's pricing reached the limit in some turn
abbrev pub IsSpentIn : List Turn → ℕ → Type 0
IsSpentIn turns c = Any (λ (turn : Turn). (turn_of_car turn c).priced.spent ≡ true) turns

-- no car's pricing did so in the turn
abbrev pub IsUnspent : Snapshot → Turn → Type 0
IsUnspent s turn = (c : ℕ) → c < car_count s → (turn_of_car turn c).priced.spent ≡ false

-- twice the bound is less than the cost
abbrev pub AreApart : (bound : ℤ) → (cost : ℕ) → Type 0
AreApart bound cost = (pos 2 *ℤ bound) <ℤ pos cost

-- the car was spent in some turn, and so has at least this many partial tours
pub record IsCarSpent (s : Snapshot) (most_tours : ℕ) (turns : List Turn) (bound : ℤ) (cost car count : ℕ) : Type 0 where
  pub apart : AreApart bound cost
  pub limit : count ≡ most_tours
  pub is_car : car < car_count s
  pub spent : IsSpentIn turns car
  pub many : HasPartialTours s (root_of s) car count

-- no car was spent, and there are at least this many partial pairings of the kept lists
pub record ArePairsSpent (s : Snapshot) (most_tours : ℕ) (turns : List Turn) (lists : List (List (List Stop))) (bound : ℤ) (cost count : ℕ) : Type 0 where
  pub apart : AreApart bound cost
  pub limit : count ≡ most_tours
  pub unspent : All (IsUnspent s) turns
  pub many : count ≤ pairing_count lists

-- no car was spent, and no pair plan of the kept lists is cheaper
pub record IsGap (s : Snapshot) (turns : List Turn) (lists : List (List (List Stop))) (bound : ℤ) (cost : ℕ) : Type 0 where
  pub apart : AreApart bound cost
  pub unspent : All (IsUnspent s) turns
  pub cheapest : (pairs : ℕ → Pair) → IsPairPlan s lists pairs → cost ≤ pair_plan_cost s lists pairs

-- Best exactly where the cost is at most twice the bound; the others say what is left open.
abbrev pub IsRootReason : Snapshot → (most_tours : ℕ) → List Turn → (lists : List (List (List Stop))) → (bound : ℤ) → (cost : ℕ) → RootReason → Type 0
IsRootReason s most_tours turns lists bound cost Best = pos cost ≤ℤ (pos 2 *ℤ bound)
IsRootReason s most_tours turns lists bound cost Gap = IsGap s turns lists bound cost
IsRootReason s most_tours turns lists bound cost (Moves car count) = IsCarSpent s most_tours turns bound cost car count
IsRootReason s most_tours turns lists bound cost (Pairs count) = ArePairsSpent s most_tours turns lists bound cost count

-- ---- the answer

-- no prices and worths at the root have a greater bound
abbrev pub IsGreatestAtRoot : Snapshot → (bound : ℤ) → Type 0
IsGreatestAtRoot s bound = (leaf : Leaf) → IsRootLeaf s leaf → bound_of_leaf leaf ≤ℤ bound

-- What turns at the root answer that start with a feasible plan and with these prices and worths.
pub record IsRootAnswer (s : Snapshot) (plan : List (List Stop)) (first : PriceSheet) (rounds most_tours : ℕ) (a : RootAnswer) : Type 0 where
  pub root_turns : AreRootTurns s most_tours first.prices a.turns
  pub count : length a.turns ≡ rounds
  pub sheet : IsBestSheet s first a.turns a.sheet
  pub bound_is : a.bound ≡ rounded_up (sum_of_sheet a.sheet)
  pub lists : List (List (List Stop))
  pub kept : AreKeptLists s plan a.turns lists
  pub halves : ArePairShares s lists a.shares a.cost
  pub at_most : a.cost ≤ 2 * plan_cost_of s plan
  pub reason : IsRootReason s most_tours a.turns lists a.bound a.cost a.why
  -- laws of these, so that whoever reads this needs no others
  pub mixture : IsMixture s a.shares 2 a.cost
  pub greatest : a.why ≡ Best → IsGreatestAtRoot s a.bound
