-- What a search answers: a plan, its cost, a bound, a tree that proves them, the turns at the root, and why
-- the search ended.
use Rattle.std.specs.Prelude.{◌≡◌, ℕ, ◌+◌, ◌*◌, ◌/◌, ◌^◌, ◌≤◌, ◌<◌, ◌⊎◌, min, max, ℤ, pos, negsuc, neg_ℤ, ◌+ℤ◌, ◌-ℤ◌, ◌*ℤ◌, ◌≤ℤ◌, ◌<ℤ◌, List, [], ◌∷◌, length}
use Rattle.std.specs.Prelude.{map, count_by, slice_index_or, All, Any, Bool, true, false, IsTrue, IfSome, unwrap_or, Option, Some, None}
use Rattle.std.specs.List.{list_any, range_with_len}
use Rattle.std.specs.Int.{int_min}
use Rattle.elevator_model.specs.declared.Stop.{Stop}
use Rattle.call_sets.specs.Counting.{sum_below, sum_where}
use Rattle.price_scale.specs.Scale.{cut}
use Rattle.elevator_model.specs.Snapshot.{Snapshot, car_count, call_count, call_of, group_of, state_of, moment_of, is_possible}
use Rattle.elevator_model.specs.Tours.{start_of}
use Rattle.elevator_model.specs.Plans.{IsFeasiblePlan, plan_cost_of, tour_of, is_boarded_in}
use Rattle.search_model.specs.declared.Leaf.{Leaf}
use Rattle.search_model.specs.declared.Twig.{Twig}
use Rattle.search_model.specs.declared.Twig.TheVariants.{Split, Leaf as Tip}
use Rattle.search_model.specs.declared.TurnOf.{TurnOf}
use Rattle.search_model.specs.declared.Turn.{Turn}
use Rattle.search_model.specs.declared.StopReason.{StopReason}
use Rattle.search_model.specs.declared.StopReason.TheVariants.{Solved, Rounds, Moves, Told}
use Rattle.search_model.specs.Orders.{AtLeast, IsPartialTour}
use Rattle.search_model.specs.Sums.{int_sum_by, least_where, rounded_up}
use Rattle.search_model.specs.Nodes.{Node, root_of, set_of, allows, IsTourIn}
use Rattle.search_model.specs.Prices.{scaled, price_at, value_of, IsWorth}
use Rattle.search_model.specs.Bounds.{cost_if_alone, cost_if_straight}
use Rattle.search_model.specs.Certificates.{TreePlace, Placed, placed_twigs, Proves, price_in, worth_in, sum_of_leaf}

-- ---- bounds

abbrev pub bound_of_leaf : Leaf → ℤ
bound_of_leaf leaf = rounded_up (sum_of_leaf leaf)

abbrev pub lesser_bound : ℤ → Twig → ℤ
lesser_bound z (Split j part) = z
lesser_bound z (Tip leaf) = int_min (bound_of_leaf leaf) z

-- the least of the cost and of the bounds of the leaves
abbrev pub least_bound : (cost : ℕ) → List Twig → ℤ
least_bound cost [] = pos cost
least_bound cost (twig ∷ twigs) = lesser_bound (least_bound cost twigs) twig

-- The least cost of a call, over its possible cars, if it boarded at the moment from which the car's tour is
-- timed and rode straight to its destination.
abbrev pub least_lone_cost : Snapshot → ℕ → ℕ
least_lone_cost s j =
    unwrap_or (least_where (car_count s) (λ c. is_possible s c (call_of s j)) (λ c. cost_if_alone s j (moment_of (state_of s c)))) 0

-- the cost of a group aboard if the car went straight to its destination
abbrev pub straight_cost : Snapshot → ℕ → ℕ
straight_cost s k = cost_if_straight s (start_of s (group_of s k).car) (call_count s + k)

-- Every bound that a search answers is at least this.
abbrev pub floor_of_bound : Snapshot → ℕ
floor_of_bound s = sum_below (call_count s) (least_lone_cost s) + sum_below (length s.aboard) (straight_cost s)

-- ---- turns at the root

-- of the calls, in their order
abbrev pub for_calls : Snapshot → (ℕ → ℤ) → List ℤ
for_calls s f = map f (range_with_len 0 (call_count s))

-- the prices that the search starts with
abbrev pub start_prices : Snapshot → List ℤ
start_prices s = for_calls s (λ j. scaled (least_lone_cost s j))

abbrev pub or_zero : ℤ → ℕ
or_zero (pos n) = n
or_zero (negsuc n) = 0

-- the greatest of 0 and the prices
abbrev pub greatest_price : List ℤ → ℕ
greatest_price [] = 0
greatest_price (x ∷ xs) = max (or_zero x) (greatest_price xs)

abbrev pub boards_in : Option (List Stop) → ℕ → Bool
boards_in None j = false
boards_in (Some tour) j = is_boarded_in tour j

-- how many of the turn's tours board the call
abbrev pub boards_of_turn : Turn → ℕ → ℕ
boards_of_turn turn j = count_by (λ (t : TurnOf). boards_in t.tour j) turn.cars

-- The prices after turn i, counted from 1: a price falls where two tours or more board its call, and rises
-- where none does. `start` has the prices of the first turn.
abbrev pub prices_after : Snapshot → (start : List ℤ) → ℕ → Turn → List ℤ
prices_after s start i turn =
    for_calls s (λ j. cut (price_at turn.prices j +ℤ (pos (greatest_price start / i) *ℤ (pos 1 -ℤ pos (boards_of_turn turn j)))))

-- the car has at least n partial tours that board only calls allowed to it in the node
abbrev pub HasPartialTours : Snapshot → Node → ℕ → (n : ℕ) → Type 0
HasPartialTours s node c n = AtLeast (IsPartialTour s c (allows node c)) n

-- the worth is the least value of the car's tours in the root, and the tour has it
pub record IsExact (s : Snapshot) (c : ℕ) (price : ℕ → ℤ) (t : TurnOf) : Type 0 where
  pub worth : IsWorth s (root_of s) c price t.priced.worth
  pub tour : List Stop
  pub given : t.tour ≡ Some tour
  pub within : IsTourIn s (root_of s) c tour
  pub has_it : value_of s c price tour ≡ t.priced.worth

-- the pricing tried as many partial tours as it may, so the worth may be less
pub record IsSpent (s : Snapshot) (most_tours c : ℕ) (price : ℕ → ℤ) (t : TurnOf) : Type 0 where
  pub worth : IsWorth s (root_of s) c price t.priced.worth
  pub within : IfSome t.tour (λ (tour : List Stop). IsTourIn s (root_of s) c tour)
  pub many : HasPartialTours s (root_of s) c most_tours

abbrev pub IsPricing : Snapshot → (most_tours c : ℕ) → (price : ℕ → ℤ) → TurnOf → (spent : Bool) → Type 0
IsPricing s most_tours c price t true = IsSpent s most_tours c price t
IsPricing s most_tours c price t false = IsExact s c price t

abbrev pub no_turn : TurnOf
no_turn = record { priced = record { worth = pos 0; visits = 0; spent = false }; tour = None }

abbrev pub turn_of_car : Turn → ℕ → TurnOf
turn_of_car turn c = slice_index_or turn.cars c no_turn

-- each car is priced at the root at these prices
pub record IsRootTurn (s : Snapshot) (most_tours : ℕ) (given : List ℤ) (turn : Turn) : Type 0 where
  pub prices : turn.prices ≡ given
  pub calls : length turn.prices ≡ call_count s
  pub cars : length turn.cars ≡ car_count s
  pub pricings : (c : ℕ) → c < car_count s → IsPricing s most_tours c (price_at turn.prices) (turn_of_car turn c) (turn_of_car turn c).priced.spent

-- the turns that follow turn i
abbrev pub FollowTurn : Snapshot → (most_tours : ℕ) → (start : List ℤ) → ℕ → Turn → List Turn → Type 0
FollowTurn s most_tours start i turn [] = Unit {0}
FollowTurn s most_tours start i turn (next ∷ turns) = IsRootTurn s most_tours (prices_after s start i turn) next
    × FollowTurn s most_tours start (i + 1) next turns

-- Turns at the root from given prices.
abbrev pub AreRootTurns : Snapshot → (most_tours : ℕ) → (start : List ℤ) → List Turn → Type 0
AreRootTurns s most_tours start [] = Unit {0}
AreRootTurns s most_tours start (turn ∷ turns) = IsRootTurn s most_tours start turn × FollowTurn s most_tours start 1 turn turns

abbrev pub sum_of_turn : Turn → ℤ
sum_of_turn turn = int_sum_by (λ (x : ℤ). x) turn.prices +ℤ int_sum_by (λ (t : TurnOf). t.priced.worth) turn.cars

-- the tour is that of the car in some turn
abbrev pub IsTourOfTurns : List Turn → ℕ → List Stop → Type 0
IsTourOfTurns turns c tour = Any (λ (turn : Turn). (turn_of_car turn c).tour ≡ Some tour) turns

-- ---- priced trees

-- some tour of the car in the node has at most this value
pub record ReachesLeast (s : Snapshot) (node : Node) (c : ℕ) (price : ℕ → ℤ) (worth : ℤ) : Type 0 where
  pub tour : List Stop
  pub within : IsTourIn s node c tour
  pub least : value_of s c price tour ≤ℤ worth

-- The worths of a leaf are those of the node in which it was priced, that of the split just above it, unless
-- the car has too many partial tours there.
abbrev pub IsPriced : Snapshot → (most_tours : ℕ) → TreePlace → Twig → Type 0
IsPriced s most_tours place (Split j part) = Unit {0}
IsPriced s most_tours place (Tip leaf) =
    (c : ℕ) → c < car_count s → ReachesLeast s place.above c (price_in leaf) (worth_in leaf c) ⊎ HasPartialTours s place.above c most_tours

abbrev pub IsPricedTree : Snapshot → (most_tours : ℕ) → List Twig → Type 0
IsPricedTree s most_tours tree = All (λ (p : Placed). IsPriced s most_tours p.place p.twig) (placed_twigs s tree)

-- ---- reasons

-- every call has one car left, and some car has at least this many partial tours
pub record IsAtEnd (s : Snapshot) (node : Node) (count : ℕ) : Type 0 where
  pub single : (j : ℕ) → j < call_count s → (c : ℕ) × (set_of node j ≡ 2 ^ c)
  pub car : ℕ
  pub is_car : car < car_count s
  pub many : HasPartialTours s node car count

abbrev pub EndsThere : Snapshot → (cost count : ℕ) → TreePlace → Twig → Type 0
EndsThere s cost count place (Split j part) = Unit {0}
EndsThere s cost count place (Tip leaf) = bound_of_leaf leaf <ℤ pos cost → IsAtEnd s place.node count

-- a leaf whose bound is below the cost, where the car has at least this many partial tours
abbrev pub IsEndOf : Snapshot → (cost car count : ℕ) → TreePlace → Twig → Type 0
IsEndOf s cost car count place (Split j part) = ⊥
IsEndOf s cost car count place (Tip leaf) = (bound_of_leaf leaf <ℤ pos cost) × HasPartialTours s place.node car count

-- the rounds reached their limit
pub record IsOutOfRounds (s : Snapshot) (rounds most_tours cost bound done : ℕ) (tree : List Twig) : Type 0 where
  pub below : bound < cost
  pub limit : done ≡ rounds
  pub priced : IsPricedTree s most_tours tree
  -- no node is priced in more than 20 rounds
  pub twigs : done ≤ 20 * length tree

-- nothing is left that a round may take
pub record IsOutOfMoves (s : Snapshot) (most_tours cost bound car count : ℕ) (tree : List Twig) : Type 0 where
  pub below : bound < cost
  pub limit : count ≡ most_tours
  pub priced : IsPricedTree s most_tours tree
  pub ends : All (λ (p : Placed). EndsThere s cost count p.place p.twig) (placed_twigs s tree)
  pub is_car : car < car_count s
  pub at_car : Any (λ (p : Placed). IsEndOf s cost car count p.place p.twig) (placed_twigs s tree)

-- Why a search ended by itself.
abbrev pub IsReason : Snapshot → (rounds most_tours cost bound : ℕ) → List Twig → StopReason → Type 0
IsReason s rounds most_tours cost bound tree Solved = cost ≡ bound
IsReason s rounds most_tours cost bound tree (Rounds done) = IsOutOfRounds s rounds most_tours cost bound done tree
IsReason s rounds most_tours cost bound tree (Moves car count) = IsOutOfMoves s most_tours cost bound car count tree
IsReason s rounds most_tours cost bound tree Told = ⊥

-- ---- the answer

abbrev pub is_split : Twig → Bool
is_split (Split j part) = true
is_split (Tip leaf) = false

-- some call has two possible cars
abbrev pub HasChoice : Snapshot → Type 0
HasChoice s =
    (j : ℕ) × (j < call_count s) × (2 ≤ sum_where (car_count s) (λ c. is_possible s c (call_of s j)) (λ _. 1))

-- What a search answers that starts with given prices and with a bound `least` of its own, and that ended for a reason.
pub record IsEnding (Reason : Type 0) (start : List ℤ) (least : ℤ) (s : Snapshot) (rounds most_tours : ℕ) (plan : List (List Stop)) (cost bound : ℕ)
    (tree : List Twig) (turns : List Turn) : Type 0 where
  pub proves : Proves s plan cost bound tree
  pub best_bound : pos bound ≡ least_bound cost tree
  pub at_least : least ≤ℤ pos bound
  -- a round prices at most four nodes, and only priced nodes are split
  pub twigs : length tree ≤ 8 * rounds + 1
  pub root_turns : AreRootTurns s most_tours start turns
  pub few_turns : length turns ≤ 20
  pub turn_bounds : All (λ (turn : Turn). rounded_up (sum_of_turn turn) ≤ℤ pos bound) turns
  pub many_turns : HasChoice s → IsTrue (list_any is_split tree) ⊎ (bound < cost) → length turns ≡ min rounds 20
  -- no plan made of the tours of the turns is cheaper
  pub tours : 34 ^ car_count s ≤ most_tours → (other : List (List Stop)) → IsFeasiblePlan s other
      → ((c : ℕ) → c < car_count s → IsTourOfTurns turns c (tour_of other c)) → cost ≤ plan_cost_of s other
  pub reason : Reason

-- What a search answers that ended by itself.
abbrev pub IsFound : (start : List ℤ) (least : ℤ) → Snapshot → (rounds most_tours : ℕ) → List (List Stop) → (cost bound : ℕ) → List Twig → List Turn
    → StopReason → Type 0
IsFound start least s rounds most_tours plan cost bound tree turns why =
    IsEnding (IsReason s rounds most_tours cost bound tree why) start least s rounds most_tours plan cost bound tree turns

-- What a search answers that was told to stop: what holds of one that may do some number of rounds, at most the limit, but
-- for a reason.
pub record IsToldAnswer (start : List ℤ) (least : ℤ) (s : Snapshot) (rounds most_tours : ℕ) (plan : List (List Stop)) (cost bound : ℕ) (tree : List Twig)
    (turns : List Turn) : Type 0 where
  pub done : ℕ
  pub fewer : done ≤ rounds
  pub ending : IsEnding (Unit {0}) start least s done most_tours plan cost bound tree turns

-- What a search answers.
abbrev pub IsSearchAnswer : (start : List ℤ) (least : ℤ) → Snapshot → (rounds most_tours : ℕ) → List (List Stop) → (cost bound : ℕ) → List Twig → List Turn
    → StopReason → Type 0
IsSearchAnswer start least s rounds most_tours plan cost bound tree turns Told = IsToldAnswer start least s rounds most_tours plan cost bound tree turns
IsSearchAnswer start least s rounds most_tours plan cost bound tree turns Solved = IsFound start least s rounds most_tours plan cost bound tree turns Solved
IsSearchAnswer start least s rounds most_tours plan cost bound tree turns (Rounds done) =
    IsFound start least s rounds most_tours plan cost bound tree turns (Rounds done)
IsSearchAnswer start least s rounds most_tours plan cost bound tree turns (Moves car count) =
    IsFound start least s rounds most_tours plan cost bound tree turns (Moves car count)

-- What a snapshot's solution answers: it starts with the least lone costs.
abbrev pub IsSolveAnswer : Snapshot → (rounds most_tours : ℕ) → List (List Stop) → (cost bound : ℕ) → List Twig → List Turn → StopReason → Type 0
IsSolveAnswer s rounds most_tours plan cost bound tree turns why =
    IsFound (start_prices s) (pos (floor_of_bound s)) s rounds most_tours plan cost bound tree turns why

-- And one that may be told to stop.
abbrev pub IsSnapshotAnswer : Snapshot → (rounds most_tours : ℕ) → List (List Stop) → (cost bound : ℕ) → List Twig → List Turn → StopReason → Type 0
IsSnapshotAnswer s rounds most_tours plan cost bound tree turns why =
    IsSearchAnswer (start_prices s) (pos (floor_of_bound s)) s rounds most_tours plan cost bound tree turns why
