-- What a search's tree proves of its answer.
use Rattle.std.proofs.Common.{◌≡◌, ℕ, zero, suc, ◌+◌, ◌*◌, ◌^◌, ◌<◌, ◌≤◌, Bool, true, false, not, ◌&&◌, cond, List, [], ◌∷◌, length, map, set, refl, sym, ap}
use Rattle.std.proofs.Common.{◌∙◌, subst, inl, inr, arith}
use Rattle.std.specs.Prelude.{min, ℤ, pos, negsuc, ◌+ℤ◌, ◌-ℤ◌, ◌≤ℤ◌, ◌<ℤ◌, int_lt, ◌⊎◌, All, Any, IsTrue, IfSome, Option, Some, None}
use Rattle.std.specs.List.{list_any}
use Rattle.std.specs.Int.{int_min}
use Rattle.std.proofs.lemmas.Int.{ints, int_min_is}
use Rattle.std.proofs.lemmas.Bool.{cases_lt, cond-false, both_ways, and_parts}
use Rattle.std.proofs.lemmas.List.{length-map, get_or-map}
use Rattle.std.proofs.lemmas.List.Elements.{All-nil, All-cons, All-head, All-tail}
use Rattle.std.proofs.lemmas.List.Sums.{sum_by-cons}
use Rattle.std.proofs.Math.Nat.{pow-zero, pow-suc, one-le-mul, mul-le-mul_left, mul-le-mul_right}
use Rattle.elevator_model.specs.declared.Stop.{Stop}
use Rattle.elevator_model.specs.declared.Call.{Call}
use Rattle.call_sets.specs.Counting.{has, any_below, sum_where}
use Rattle.call_sets.proofs.BelowTests.{any_below-true}
use Rattle.call_sets.proofs.Bits.{has_none_above}
use Rattle.call_sets.proofs.Sums.{sum_below-same, sum_below-add, sum_below-each, sum_where-step}
use Rattle.search_model.specs.declared.Twig.{Twig}
use Rattle.search_model.specs.declared.Twig.TheVariants.{Split, Leaf as Tip}
use Rattle.search_model.specs.declared.TurnOf.{TurnOf}
use Rattle.search_model.specs.declared.Turn.{Turn}
use Rattle.search_model.specs.declared.StopReason.{StopReason}
use Rattle.search_model.specs.declared.StopReason.TheVariants.{Solved, Rounds, Moves, Told}
use Rattle.elevator_model.specs.Snapshot.{Snapshot, IsAccepted, car_count, call_count, is_possible}
use Rattle.elevator_model.specs.Plans.{IsFeasiblePlan, plan_cost_of, tour_of}
use Rattle.search_model.specs.Sums.{int_sum_by, rounded_up}
use Rattle.search_model.specs.Nodes.{Node, root_of, set_of, set_where, is_part, rest_of}
use Rattle.search_model.specs.Prices.{price_at, IsWorth}
use Rattle.search_model.specs.Certificates.{TreePlace, Placed, places_after, placed_from, is_filled, IsSound, Proves, root_place, worth_in, sum_needed}
use Rattle.search_model.specs.Certificates.{IsSoundLeaf}
use Rattle.search_model.specs.Solving.{HasPartialTours, EndsThere, IsAtEnd, IsEndOf, IsOutOfRounds, IsOutOfMoves, least_bound, lesser_bound, bound_of_leaf}
use Rattle.search_model.specs.Solving.{IsEnding, IsFound, IsReason, HasChoice, AreRootTurns, FollowTurn, IsRootTurn, IsPricing, IsTourOfTurns, is_split}
use Rattle.search_model.specs.Solving.{no_turn}
use Rattle.search_model.specs.Solving.{turn_of_car, sum_of_turn, prices_after}
use Rattle.search_model.specs.Verdicts.{rounds_enough, tours_enough}
use Rattle.call_state.proofs.PossibleLemmas.{most_cars-le}
use Rattle.search_model.proofs.RoundLemmas.{rounded_up-least}
use Rattle.search_model.proofs.SetLemmas.{set_where-below, has-rest_of}
use Rattle.search_model.proofs.NodeLemmas.{part-from}
use Rattle.search_model.proofs.TreeLemmas.{part-index}
use Rattle.search_model.proofs.SnapshotNodes.{root_is_node}
use Rattle.search_model.proofs.FeasibleLemmas.{length-root_of, plan_in_root}
use Rattle.search_model.proofs.LeafLemmas.{leaf-bounds}
use Rattle.search_tree.specs.declared.branches.SplitAt.{SplitAt}
use Rattle.search_tree.specs.declared.branches.Branch.{Branch}
use Rattle.search_tree.specs.Sheets.{PriceSheet, worth_of_car, sum_of_sheet, turn_worth, sheet_of_turn, leaf_of}
use Rattle.search_tree.specs.Branches.{AreSingle, twig_of, twig_at, at_place}
use Rattle.search_tree.specs.Standing.{Holding, AllStand, AllInTree, IsSheetIn, IsSpentCar, IsKindIn, IsBranchAt, IfLeaf, IsPricedAt, IsAtLeast, bound_of_sheet}
use Rattle.search_tree.specs.Standing.{pricings_of}
use Rattle.search_tree.proofs.SumLemmas.{turn_sum}
use Rattle.search_tree.proofs.ChoiceLemmas.{single-in_node}
use Rattle.search_tree.proofs.StandingLemmas.{stand-more, stand-both, stand-placed, stand-at}
use Rattle.search_tree.proofs.LeafFacts.{sum_of_leaf-sheet, price_in-sheet, worth_in-sheet, whole_lists-sheet}
use Rattle.search_tree.proofs.EndLaws.{IsAbove, tree-proves, tree-priced}

-- ---- rounded sums

rounded_up-more : (x y : ℤ) → x ≤ℤ y → rounded_up x ≤ℤ rounded_up y
rounded_up-more x y le =
    let low = (rounded_up-least x).least (rounded_up y) in
    let high = (rounded_up-least y).enough in
    low (omega (arith, ints, le, high))

rounded_up-natural : (x : ℤ) → pos 0 ≤ℤ x → pos 0 ≤ℤ rounded_up x
rounded_up-natural x le = rounded_up-more (pos 0) x le

-- a sum is at least what a bound needs that it rounds up to
sum-enough : (bound : ℕ) (sum : ℤ) → rounded_up sum ≡ pos bound → sum_needed bound ≤ℤ sum
sum-enough bound sum is = by_test (int_lt sum (sum_needed bound)) refl
  where
    by_test : (b : Bool) → int_lt sum (sum_needed bound) ≡ b → sum_needed bound ≤ℤ sum
    by_test true e =
        let most = (rounded_up-least sum).least (pos bound -ℤ pos 1) (omega (arith, ints, e)) in
        absurd (omega (arith, ints, is, most))
    by_test false e = omega (arith, ints, e)

-- ---- the root

root-sound : (s : Snapshot) (bound : ℕ) (sheet : PriceSheet) → IsSheetIn s (root_of s) sheet → rounded_up (sum_of_sheet sheet) ≡ pos bound
    → IsSoundLeaf s bound (root_of s) (leaf_of sheet)
root-sound s bound sheet is rounds =
    record {
      whole = whole_lists-sheet 0 s sheet is.calls is.cars;
      enough = subst (λ (z : ℤ). sum_needed bound ≤ℤ z) (sym (sum_of_leaf-sheet 0 sheet)) (sum-enough bound (sum_of_sheet sheet) rounds);
      worths = λ c lt. subst (λ (p : ℕ → ℤ). IsWorth s (root_of s) c p (worth_in (leaf_of sheet) c)) (sym (price_in-sheet 0 sheet))
          (subst (IsWorth s (root_of s) c (price_at sheet.prices)) (sym (worth_in-sheet 0 sheet c)) (is.worths c lt));
    }

-- Weak duality: no feasible plan costs less than the rounded sum of prices and worths of the root.
pub root-bounds : (s : Snapshot) (sheet : PriceSheet) (plan : List (List Stop)) → IsSheetIn s (root_of s) sheet → IsFeasiblePlan s plan
    → bound_of_sheet sheet ≤ℤ pos (plan_cost_of s plan)
root-bounds s sheet plan is feasible = by_sign (rounded_up (sum_of_sheet sheet)) refl
  where
    by_sign : (z : ℤ) → rounded_up (sum_of_sheet sheet) ≡ z → z ≤ℤ pos (plan_cost_of s plan)
    by_sign (pos n) e =
        let most = leaf-bounds s n (root_of s) (leaf_of sheet) plan (root-sound s n sheet is e) feasible (length-root_of s) (plan_in_root s plan feasible) in
        omega (arith, ints, most)
    by_sign (negsuc n) e = omega (arith, ints)

-- ---- turns

pricing-worth : (s : Snapshot) (most_tours c : ℕ) (price : ℕ → ℤ) (t : TurnOf) (spent : Bool) → IsPricing s most_tours c price t spent
    → IsWorth s (root_of s) c price t.priced.worth
pricing-worth s most_tours c price t true h = h.worth
pricing-worth s most_tours c price t false h = h.worth

abbrev sheet_of : Turn → PriceSheet
sheet_of turn = sheet_of_turn turn.prices turn.cars

turn-worth : (turn : Turn) (c : ℕ) → c < length turn.cars → worth_of_car (sheet_of turn) c ≡ (turn_of_car turn c).priced.worth
turn-worth turn c lt = get_or-map turn_worth turn.cars c no_turn (pos 0) lt

turn-sheet : (s : Snapshot) (most_tours : ℕ) (given : List ℤ) (turn : Turn) → IsRootTurn s most_tours given turn → IsSheetIn s (root_of s) (sheet_of turn)
turn-sheet s most_tours given turn is =
    record {
      calls = is.calls;
      cars = length-map turn.cars turn_worth ∙ is.cars;
      worths = λ c lt. subst (IsWorth s (root_of s) c (price_at turn.prices)) (sym (turn-worth turn c (subst (λ (n : ℕ). c < n) (sym is.cars) lt)))
          (pricing-worth s most_tours c (price_at turn.prices) (turn_of_car turn c) (turn_of_car turn c).priced.spent (is.pricings c lt));
    }

turn-bound : (turn : Turn) → rounded_up (sum_of_turn turn) ≡ bound_of_sheet (sheet_of turn)
turn-bound turn = ap (λ (z : ℤ). rounded_up (int_sum_by (λ (x : ℤ). x) turn.prices +ℤ z)) (sym (turn_sum turn.cars))

-- no feasible plan costs less than a turn's rounded sum
turn-costs : (s : Snapshot) (most_tours : ℕ) (given : List ℤ) (turn : Turn) (plan : List (List Stop)) → IsRootTurn s most_tours given turn
    → IsFeasiblePlan s plan → rounded_up (sum_of_turn turn) ≤ℤ pos (plan_cost_of s plan)
turn-costs s most_tours given turn plan is feasible =
    subst (λ (z : ℤ). z ≤ℤ pos (plan_cost_of s plan)) (sym (turn-bound turn))
    (root-bounds s (sheet_of turn) plan (turn-sheet s most_tours given turn is) feasible)

-- ---- the least bound

-- what is at most the cost and the bound of each leaf is at most the least bound
pub least-of-leaves : (z : ℤ) (cost : ℕ) → z ≤ℤ pos cost → (places : List TreePlace) (tree : List Branch) → AllStand (IsAbove z) places tree
    → z ≤ℤ least_bound cost (map twig_of tree)
least-of-leaves z cost le [] [] h = le
least-of-leaves z cost le [] (b ∷ tree) h = absurd h
least-of-leaves z cost le (place ∷ places) [] h = absurd h
least-of-leaves z cost le (place ∷ places) (b ∷ tree) h = by_kind b.split h.0 (least-of-leaves z cost le (places_after place (twig_of b) places) tree h.1)
  where
    rest : ℤ
    rest = least_bound cost (map twig_of tree)

    by_kind : (x : Option SplitAt) → IfLeaf x (z ≤ℤ bound_of_sheet b.sheet) → z ≤ℤ rest → z ≤ℤ lesser_bound rest (twig_at x b.sheet)
    by_kind None here later =
        let same : bound_of_leaf (leaf_of b.sheet) ≡ bound_of_sheet b.sheet = ap rounded_up (sum_of_leaf-sheet 0 b.sheet) in
        let is = int_min_is (bound_of_leaf (leaf_of b.sheet)) rest in
        omega (arith, ints, here, later, same, is)
    by_kind (Some at) here later = later

above-rounded : (sum : ℤ) (place : TreePlace) (b : Branch) → IsAtLeast sum place b → IsAbove (rounded_up sum) place b
above-rounded sum place b h = by_kind b.split h
  where
    by_kind : (x : Option SplitAt) → IfLeaf x (sum ≤ℤ sum_of_sheet b.sheet) → IfLeaf x (rounded_up sum ≤ℤ bound_of_sheet b.sheet)
    by_kind None le = rounded_up-more sum (sum_of_sheet b.sheet) le
    by_kind (Some at) le = tt

-- a sum that no leaf's is below, and that is not above the cost
pub rounded-of-leaves : (s : Snapshot) (sum : ℤ) (cost : ℕ) (tree : List Branch) → rounded_up sum ≤ℤ pos cost → AllInTree (IsAtLeast sum) s tree
    → rounded_up sum ≤ℤ least_bound cost (map twig_of tree)
rounded-of-leaves s sum cost tree le h =
    least-of-leaves (rounded_up sum) cost le (root_place s ∷ []) tree
    (stand-more (IsAtLeast sum) (IsAbove (rounded_up sum)) (above-rounded sum) (root_place s ∷ []) tree h)

-- the least bound is at least the rounded sum that the search starts with
start-least : (s : Snapshot) (start : PriceSheet) (tree : List Branch) (plan : List (List Stop)) (cost : ℕ) → IsSheetIn s (root_of s) start
    → AllInTree (IsAtLeast (sum_of_sheet start)) s tree → IsFeasiblePlan s plan → plan_cost_of s plan ≡ cost
    → rounded_up (sum_of_sheet start) ≤ℤ least_bound cost (map twig_of tree)
start-least s start tree plan cost sheet leaves feasible costs =
    rounded-of-leaves s (sum_of_sheet start) cost tree (subst (λ (n : ℕ). bound_of_sheet start ≤ℤ pos n) costs (root-bounds s start plan sheet feasible)) leaves

-- ---- all turns

-- what holds of each turn at the root and of what is known of it
follow-all : (s : Snapshot) (most_tours : ℕ) (Q P : Turn → Type 0) → ((given : List ℤ) (turn : Turn) → IsRootTurn s most_tours given turn → Q turn → P turn)
    → (start : List ℤ) (i : ℕ) (turn : Turn) (turns : List Turn) → FollowTurn s most_tours start i turn turns → All Q turns → All P turns
follow-all s most_tours Q P f start i turn [] h q = All-nil P
follow-all s most_tours Q P f start i turn (next ∷ turns) h q =
    All-cons P next turns (f (prices_after s start i turn) next h.0 (All-head Q next turns q))
    (follow-all s most_tours Q P f start (i + 1) next turns h.1 (All-tail Q next turns q))

turns-all : (s : Snapshot) (most_tours : ℕ) (Q P : Turn → Type 0) → ((given : List ℤ) (turn : Turn) → IsRootTurn s most_tours given turn → Q turn → P turn)
    → (start : List ℤ) (turns : List Turn) → AreRootTurns s most_tours start turns → All Q turns → All P turns
turns-all s most_tours Q P f start [] h q = All-nil P
turns-all s most_tours Q P f start (turn ∷ turns) h q =
    All-cons P turn turns (f start turn h.0 (All-head Q turn turns q)) (follow-all s most_tours Q P f start 1 turn turns h.1 (All-tail Q turn turns q))

-- ---- what was found

-- The tree's least bound is not negative where the sum that the search starts with is not.
pub bound_exists : (s : Snapshot) (start : PriceSheet) (tree : List Branch) (plan : List (List Stop)) (cost : ℕ) → IsSheetIn s (root_of s) start
    → pos 0 ≤ℤ sum_of_sheet start → AllInTree (IsAtLeast (sum_of_sheet start)) s tree → IsFeasiblePlan s plan → plan_cost_of s plan ≡ cost
    → pos 0 ≤ℤ least_bound cost (map twig_of tree)
bound_exists s start tree plan cost sheet natural leaves feasible costs =
    let low = rounded_up-natural (sum_of_sheet start) natural in
    let least = start-least s start tree plan cost sheet leaves feasible costs in
    omega (arith, ints, low, least)

-- What stands of the tree and of the turns at the root once a search has ended that started with these prices and worths.
pub record IsTreeAtEnd (s : Snapshot) (most_tours : ℕ) (start : PriceSheet) (turns : List Turn) (tree : List Branch) : Type 0 where
  pub sheet : IsSheetIn s (root_of s) start
  pub root_turns : AreRootTurns s most_tours start.prices turns
  pub few_turns : length turns ≤ 20
  pub branches : AllInTree (IsBranchAt s most_tours) s tree
  -- no leaf's sum is below that of the start or of a turn
  pub above_start : AllInTree (IsAtLeast (sum_of_sheet start)) s tree
  pub above_turns : All (λ (turn : Turn). AllInTree (IsAtLeast (sum_of_turn turn)) s tree) turns

-- where there was something to search there were turns, as many as the rounds allow and 20 at most
abbrev pub HasManyTurns : Snapshot → (rounds cost bound : ℕ) → List Twig → List Turn → Type 0
HasManyTurns s rounds cost bound tree turns = HasChoice s → IsTrue (list_any is_split tree) ⊎ (bound < cost) → length turns ≡ min rounds 20

-- with a limit that is enough no plan made of the tours of the turns is cheaper
abbrev pub IsBestOfTurns : Snapshot → (most_tours cost : ℕ) → List Turn → Type 0
IsBestOfTurns s most_tours cost turns =
    34 ^ car_count s ≤ most_tours → (other : List (List Stop)) → IsFeasiblePlan s other → ((c : ℕ) → c < car_count s → IsTourOfTurns turns c (tour_of other c))
    → cost ≤ plan_cost_of s other

-- Its tree proves plan, cost and bound, and the bound is at least that of the start and of each turn.
pub found : (s : Snapshot) (rounds most_tours : ℕ) (start : PriceSheet) (turns : List Turn) (tree : List Branch) (plan : List (List Stop)) (cost bound : ℕ)
    (Reason : Type 0) → IsTreeAtEnd s most_tours start turns tree → length tree ≤ 8 * rounds + 1 → IsFeasiblePlan s plan → plan_cost_of s plan ≡ cost
    → pos bound ≡ least_bound cost (map twig_of tree) → HasManyTurns s rounds cost bound (map twig_of tree) turns → IsBestOfTurns s most_tours cost turns
    → Reason
    → IsEnding Reason start.prices (bound_of_sheet start) s rounds most_tours plan cost bound (map twig_of tree) turns
found s rounds most_tours start turns tree plan cost bound Reason stands twigs feasible costs bound_is many tours is =
    record {
      proves = tree-proves s most_tours plan cost bound tree feasible costs bound_is stands.branches;
      best_bound = bound_is;
      at_least = subst (λ (z : ℤ). bound_of_sheet start ≤ℤ z) (sym bound_is)
          (start-least s start tree plan cost stands.sheet stands.above_start feasible costs);
      twigs = subst (λ (n : ℕ). n ≤ 8 * rounds + 1) (sym (length-map tree twig_of)) twigs;
      root_turns = stands.root_turns;
      few_turns = stands.few_turns;
      turn_bounds = turns-all s most_tours (λ (turn : Turn). AllInTree (IsAtLeast (sum_of_turn turn)) s tree)
          (λ (turn : Turn). rounded_up (sum_of_turn turn) ≤ℤ pos bound) turn_bound start.prices turns stands.root_turns stands.above_turns;
      many_turns = many;
      tours = tours;
      reason = is;
    }
  where
    turn_bound : (given : List ℤ) (turn : Turn) → IsRootTurn s most_tours given turn → AllInTree (IsAtLeast (sum_of_turn turn)) s tree
        → rounded_up (sum_of_turn turn) ≤ℤ pos bound
    turn_bound given turn is leaves =
        let below_cost = subst (λ (n : ℕ). rounded_up (sum_of_turn turn) ≤ℤ pos n) costs (turn-costs s most_tours given turn plan is feasible) in
        subst (λ (z : ℤ). rounded_up (sum_of_turn turn) ≤ℤ z) (sym bound_is) (rounded-of-leaves s (sum_of_turn turn) cost tree below_cost leaves)

-- ---- out of rounds

-- no node had a part in more than 20 pricings
pub pricings-few : (s : Snapshot) (most_tours : ℕ) (places : List TreePlace) (tree : List Branch) → AllStand (IsBranchAt s most_tours) places tree
    → pricings_of tree ≤ 20 * length tree
pricings-few s most_tours [] [] h = omega arith
pricings-few s most_tours [] (b ∷ tree) h = absurd h
pricings-few s most_tours (place ∷ places) [] h = absurd h
pricings-few s most_tours (place ∷ places) (b ∷ tree) h =
    let few = h.0.few in
    let rest = pricings-few s most_tours (places_after place (twig_of b) places) tree h.1 in
    omega (arith, few, rest, sum_by-cons (λ (a : Branch). a.rounds) b tree)

-- A search that did as many rounds as it may.
pub out_of_rounds : (s : Snapshot) (rounds most_tours cost bound done : ℕ) (tree : List Branch) → AllInTree (IsPricedAt s most_tours) s tree
    → AllInTree (IsBranchAt s most_tours) s tree → done ≤ pricings_of tree → done ≡ rounds → bound < cost
    → IsOutOfRounds s rounds most_tours cost bound done (map twig_of tree)
out_of_rounds s rounds most_tours cost bound done tree priced branches part limit below =
    record {
      below = below;
      limit = limit;
      priced = tree-priced s most_tours tree priced;
      twigs = (let few = pricings-few s most_tours (root_place s ∷ []) tree branches in let same = length-map tree twig_of in omega (arith, part, few, same));
    }

-- ---- the limit of partial tours was reached

-- each call has one car left, and the last pricing of some car reached the limit
pub record IsSpentEnd (s : Snapshot) (b : Branch) : Type 0 where
  pub single : AreSingle (call_count s) b.node
  pub car : ℕ
  pub spent : b.spent ≡ Some car

-- no round may take the leaf any more though its bound is below the cost
abbrev pub IsStuck : Snapshot → (cost : ℕ) → Branch → Type 0
IsStuck s cost b = bound_of_sheet b.sheet <ℤ pos cost → IsSpentEnd s b

abbrev pub IsStuckAt : Snapshot → (cost : ℕ) → Holding
IsStuckAt s cost place b = IfLeaf b.split (IsStuck s cost b)

-- the car that a pricing of the leaf was spent on has too many partial tours at its place
spent-there : (s : Snapshot) (most_tours : ℕ) (place : TreePlace) (b : Branch) (car : ℕ) → IsBranchAt s most_tours place b → b.split ≡ None
    → b.spent ≡ Some car → IsSpentCar s most_tours place.node car
spent-there s most_tours place b car is leaf e =
    let own = subst (IsKindIn s most_tours b.node b) leaf is.kind in
    subst (λ (n : Node). IsSpentCar s most_tours n car) is.node (subst (λ (x : Option ℕ). IfSome x (IsSpentCar s most_tours b.node)) e own.spent)

stuck-ends : (s : Snapshot) (most_tours cost : ℕ) (place : TreePlace) (b : Branch) → IsBranchAt s most_tours place b → IsStuckAt s cost place b
    → EndsThere s cost most_tours place (twig_of b)
stuck-ends s most_tours cost place b is stuck = by_kind b.split refl stuck
  where
    at_end : b.split ≡ None → IsSpentEnd s b → IsAtEnd s place.node most_tours
    at_end leaf stands =
        let spent = spent-there s most_tours place b stands.car is leaf stands.spent in
        record {
          single = subst (λ (n : Node). (j : ℕ) → j < call_count s → (c : ℕ) × (set_of n j ≡ 2 ^ c)) is.node (single-in_node s b.node is.is_node stands.single);
          car = stands.car;
          is_car = spent.0;
          many = spent.1;
        }

    by_kind : (x : Option SplitAt) → b.split ≡ x → IfLeaf x (IsStuck s cost b) → EndsThere s cost most_tours place (twig_at x b.sheet)
    by_kind None e stands = λ below. at_end e (stands (subst (λ (z : ℤ). z <ℤ pos cost) (ap rounded_up (sum_of_leaf-sheet 0 b.sheet)) below))
    by_kind (Some at) e stands = tt

-- a node of the tree, as a twig at its place
stand-some : (P : Holding) (Q : TreePlace → Twig → Type 0) (k : ℕ) (places : List TreePlace) (tree : List Branch) → k < length tree
    → ((place : TreePlace) → P place (at_place tree k) → Q place (twig_of (at_place tree k))) → AllStand P places tree
    → Any (λ (p : Placed). Q p.place p.twig) (placed_from places (map twig_of tree))
stand-some P Q k [] [] lt f h = absurd (omega (arith, lt))
stand-some P Q k [] (b ∷ tree) lt f h = absurd h
stand-some P Q k (place ∷ places) [] lt f h = absurd h
stand-some P Q zero (place ∷ places) (b ∷ tree) lt f h = (0, record { place = place; twig = twig_of b }, omega arith, refl, f place h.0)
stand-some P Q (suc k) (place ∷ places) (b ∷ tree) lt f h =
    let a = stand-some P Q k (places_after place (twig_of b) places) tree (omega (arith, lt)) f h.1 in
    let in' = a.2 in
    (suc a.0, a.1, omega (arith, in'), a.3, a.4)

is-end : (s : Snapshot) (most_tours cost car : ℕ) (place : TreePlace) (b : Branch) → b.split ≡ None → bound_of_sheet b.sheet <ℤ pos cost → b.spent ≡ Some car
    → IsBranchAt s most_tours place b → IsEndOf s cost car most_tours place (twig_of b)
is-end s most_tours cost car place b leaf below spent is =
    subst (λ (x : Option SplitAt). IsEndOf s cost car most_tours place (twig_at x b.sheet)) (sym leaf)
    (subst (λ (z : ℤ). z <ℤ pos cost) (sym (ap rounded_up (sum_of_leaf-sheet 0 b.sheet))) below, (spent-there s most_tours place b car is leaf spent).1)

-- A search in whose tree no leaf is left that a round may take.
pub out_of_moves : (s : Snapshot) (most_tours cost bound car : ℕ) (tree : List Branch) (k : ℕ) → AllInTree (IsStuckAt s cost) s tree
    → AllInTree (IsPricedAt s most_tours) s tree → AllInTree (IsBranchAt s most_tours) s tree → bound < cost → k < length tree → (at_place tree k).split ≡ None
    → bound_of_sheet (at_place tree k).sheet <ℤ pos cost → (at_place tree k).spent ≡ Some car
    → IsOutOfMoves s most_tours cost bound car most_tours (map twig_of tree)
out_of_moves s most_tours cost bound car tree k stuck priced branches below lt leaf under spent =
    let Both : Holding = λ (place : TreePlace) (b : Branch). IsBranchAt s most_tours place b × IsStuckAt s cost place b in
    let both = stand-both (IsBranchAt s most_tours) (IsStuckAt s cost) Both (λ place b p q. (p, q)) (root_place s ∷ []) tree branches stuck in
    let own = stand-at (IsBranchAt s most_tours) k (root_place s ∷ []) tree lt branches in
    record {
      below = below;
      limit = refl;
      priced = tree-priced s most_tours tree priced;
      ends = stand-placed Both (EndsThere s cost most_tours) (λ place b p. stuck-ends s most_tours cost place b p.0 p.1) (root_place s ∷ []) tree both;
      is_car = (spent-there s most_tours own.0 (at_place tree k) car own.1 leaf spent).0;
      at_car = stand-some (IsBranchAt s most_tours) (IsEndOf s cost car most_tours) k (root_place s ∷ []) tree lt
          (λ place is. is-end s most_tours cost car place (at_place tree k) leaf under spent is) branches;
    }

-- a leaf of the tree whose bound is below the cost
pub record IsBelowAt (cost : ℕ) (tree : List Branch) (k : ℕ) : Type 0 where
  pub in_tree : k < length tree
  pub leaf : (at_place tree k).split ≡ None
  pub below : bound_of_sheet (at_place tree k).sheet <ℤ pos cost

below-later : (cost : ℕ) (b : Branch) (tree : List Branch) → ((k : ℕ) × IsBelowAt cost tree k) → (k : ℕ) × IsBelowAt cost (b ∷ tree) k
below-later cost b tree found =
    let lt = found.1.in_tree in
    (suc found.0, record { in_tree = omega (arith, lt); leaf = found.1.leaf; below = found.1.below })

least-below : (cost : ℕ) (tree : List Branch) → least_bound cost (map twig_of tree) <ℤ pos cost → (k : ℕ) × IsBelowAt cost tree k
least-below cost [] lt = absurd (omega (arith, ints, lt))
least-below cost (b ∷ tree) lt = by_kind b.split refl lt (least-below cost tree)
  where
    rest : ℤ
    rest = least_bound cost (map twig_of tree)

    by_test : b.split ≡ None → int_min (bound_of_leaf (leaf_of b.sheet)) rest <ℤ pos cost → (rest <ℤ pos cost → (k : ℕ) × IsBelowAt cost tree k) → (t : Bool)
        → int_lt rest (pos cost) ≡ t → (k : ℕ) × IsBelowAt cost (b ∷ tree) k
    by_test e under later true low = below-later cost b tree (later (omega (arith, ints, low)))
    by_test e under later false high =
        let same : bound_of_leaf (leaf_of b.sheet) ≡ bound_of_sheet b.sheet = ap rounded_up (sum_of_leaf-sheet 0 b.sheet) in
        let is = int_min_is (bound_of_leaf (leaf_of b.sheet)) rest in
        (0, record { in_tree = omega arith; leaf = e; below = omega (arith, ints, under, high, same, is) })

    by_kind : (x : Option SplitAt) → b.split ≡ x → lesser_bound rest (twig_at x b.sheet) <ℤ pos cost → (rest <ℤ pos cost → (k : ℕ) × IsBelowAt cost tree k)
        → (k : ℕ) × IsBelowAt cost (b ∷ tree) k
    by_kind None e under later = by_test e under later (int_lt rest (pos cost)) refl
    by_kind (Some at) e under later = below-later cost b tree (later under)

-- Where the least bound is below the cost, some leaf's bound is.
pub some_below : (cost bound : ℕ) (tree : List Branch) → pos bound ≡ least_bound cost (map twig_of tree) → bound < cost → (k : ℕ) × IsBelowAt cost tree k
some_below cost bound tree is lt = least-below cost tree (subst (λ (z : ℤ). z <ℤ pos cost) is (omega (arith, ints, lt)))

-- ---- how many twigs a tree can have

-- how many cars below n are in the set
abbrev size : (n cars : ℕ) → ℕ
size n cars = sum_where n (has cars) (λ _. 1)

-- in how many ways a node's calls can each be given one of their cars
abbrev weight : (n : ℕ) → Node → ℕ
weight n [] = 1
weight n (x ∷ node) = size n x * weight n node

factor-left : (a b : ℕ) → 1 ≤ a * b → 1 ≤ a
factor-left zero b h = absurd (omega (arith, h))
factor-left (suc a) b h = omega arith

factor-right : (a b : ℕ) → 1 ≤ a * b → 1 ≤ b
factor-right a zero h = absurd (omega (arith, h))
factor-right a (suc b) h = omega arith

-- a set's cars are divided, and with them the ways
weight-split : (n : ℕ) (node : Node) (j first second : ℕ) → j < length node → size n first + size n second ≡ size n (set_of node j)
    → weight n (set node j first) + weight n (set node j second) ≡ weight n node
weight-split n [] j first second lt e = absurd (omega (arith, lt))
weight-split n (x ∷ node) zero first second lt e =
    let all = ap (λ (k : ℕ). k * weight n node) e in
    omega (arith, all)
weight-split n (x ∷ node) (suc j) first second lt e =
    let rest = ap (λ (k : ℕ). size n x * k) (weight-split n node j first second (omega (arith, lt)) e) in
    omega (arith, rest)

weight-some : (n : ℕ) (node : Node) (j part : ℕ) → j < length node → 1 ≤ size n part → 1 ≤ weight n node → 1 ≤ weight n (set node j part)
weight-some n [] j part lt some h = absurd (omega (arith, lt))
weight-some n (x ∷ node) zero part lt some h = one-le-mul some (factor-right (size n x) (weight n node) h)
weight-some n (x ∷ node) (suc j) part lt some h =
    one-le-mul (factor-left (size n x) (weight n node) h) (weight-some n node j part (omega (arith, lt)) some (factor-right (size n x) (weight n node) h))

weight-full : (n : ℕ) (node : Node) → ((j : ℕ) → j < length node → 1 ≤ size n (set_of node j)) → 1 ≤ weight n node
weight-full n [] h = omega arith
weight-full n (x ∷ node) h = one-le-mul (h 0 (omega arith)) (weight-full n node (λ j lt. h (suc j) (omega (arith, lt))))

size-some : (n cars c : ℕ) → c < n → has cars c ≡ true → 1 ≤ size n cars
size-some n cars c lt h =
    let more = sum_where-step n c (has cars) (has cars) (λ _. 1) lt h (λ i k. k) in
    omega (arith, more)

counted : (whole part rest : Bool) → (part ≡ true → whole ≡ true) → rest ≡ (whole && not part) → cond part 1 0 + cond rest 1 0 ≡ cond whole 1 0
counted whole part rest h e = subst (λ (r : Bool). cond part 1 0 + cond r 1 0 ≡ cond whole 1 0) (sym e) (plain whole part h)
  where
    plain : (whole part : Bool) → (part ≡ true → whole ≡ true) → cond part 1 0 + cond (whole && not part) 1 0 ≡ cond whole 1 0
    plain true true h = refl
    plain true false h = refl
    plain false true h = absurd (both_ways false refl (h refl))
    plain false false h = refl

-- the sizes of a part and of the rest
record Divides (n cars part : ℕ) : Type 0 where
  pub sum : size n part + size n (rest_of cars part) ≡ size n cars
  pub first : 1 ≤ size n part
  pub second : 1 ≤ size n (rest_of cars part)

part-divides : (n cars part : ℕ) → n ≡ 16 → is_part cars part ≡ true → Divides n cars part
part-divides n cars part is16 is =
    let both = and_parts (any_below 16 (has part) && any_below 16 (λ c. has cars c && not (has part c)))
    (not (any_below 16 (λ c. has part c && not (has cars c)))) is in
    let two = and_parts (any_below 16 (has part)) (any_below 16 (λ c. has cars c && not (has part c))) both.0 in
    let one = any_below-true 16 (has part) two.0 in
    let other = any_below-true 16 (λ c. has cars c && not (has part c)) two.1 in
    let low = one.1 in
    let low' = other.1 in
    record {
      sum = sym (sum_below-add n (λ k. cond (has part k) 1 0) (λ k. cond (has (rest_of cars part) k) 1 0))
          ∙ sum_below-same n (λ k. cond (has part k) 1 0 + cond (has (rest_of cars part) k) 1 0) (λ k. cond (has cars k) 1 0)
          (λ k lt. counted (has cars k) (has part k) (has (rest_of cars part) k) ((part-from cars part is).within k (omega (arith, lt, is16)))
          (has-rest_of cars part k (omega (arith, lt, is16))));
      first = size-some n part one.0 (omega (arith, low, is16)) one.2;
      second = size-some n (rest_of cars part) other.0 (omega (arith, low', is16)) (has-rest_of cars part other.0 other.1 ∙ other.2);
    }

-- each place's calls can be given cars
abbrev AreFull : (n : ℕ) → List TreePlace → Type 0
AreFull n [] = Unit {0}
AreFull n (place ∷ places) = (1 ≤ weight n place.node) × AreFull n places

abbrev weights : (n : ℕ) → List TreePlace → ℕ
weights n [] = 0
weights n (place ∷ places) = weight n place.node + weights n places

-- each way is left in one leaf, and a leaf has one at least
twigs-weigh : (s : Snapshot) (bound n : ℕ) → n ≡ 16 → (places : List TreePlace) (twigs : List Twig) → is_filled places twigs ≡ true → AreFull n places
    → All (λ (p : Placed). IsSound s bound p.place p.twig) (placed_from places twigs) → length twigs + length places ≤ 2 * weights n places
twigs-weigh s bound n is16 [] [] filled full sound = omega arith
twigs-weigh s bound n is16 (place ∷ places) [] filled full sound = absurd (both_ways false refl filled)
twigs-weigh s bound n is16 [] (twig ∷ twigs) filled full sound = absurd (both_ways false refl filled)
twigs-weigh s bound n is16 (place ∷ places) (Split j part ∷ twigs) filled full sound =
    let P : Placed → Type 0 = λ (p : Placed). IsSound s bound p.place p.twig in
    let here : Placed = record { place = place; twig = Split j part } in
    let is : is_part (set_of place.node j) part ≡ true = All-head P here (placed_from (places_after place (Split j part) places) twigs) sound in
    let lt = part-index place.node j part is in
    let sizes = part-divides n (set_of place.node j) part is16 is in
    let first = weight-some n place.node j part lt sizes.first full.0 in
    let second = weight-some n place.node j (rest_of (set_of place.node j) part) lt sizes.second full.0 in
    let all = weight-split n place.node j part (rest_of (set_of place.node j) part) lt sizes.sum in
    let rest = twigs-weigh s bound n is16 (places_after place (Split j part) places) twigs filled (first, (second, full.1))
    (All-tail P here (placed_from (places_after place (Split j part) places) twigs) sound) in
    omega (arith, rest, all)
twigs-weigh s bound n is16 (place ∷ places) (Tip leaf ∷ twigs) filled full sound =
    let P : Placed → Type 0 = λ (p : Placed). IsSound s bound p.place p.twig in
    let here : Placed = record { place = place; twig = Tip leaf } in
    let rest = twigs-weigh s bound n is16 places twigs filled full.1 (All-tail P here (placed_from places twigs) sound) in
    let one = full.0 in
    omega (arith, rest, one)

size-le : (n cars : ℕ) → size n cars ≤ n
size-le n cars =
    let each = sum_below-each n (λ k. cond (has cars k) 1 0) 1 (λ k lt. at_most (has cars k)) in
    omega (arith, each)
  where
    at_most : (b : Bool) → cond b 1 0 ≤ 1
    at_most true = omega arith
    at_most false = omega arith

-- a set of numbers below m
size-most : (n m cars : ℕ) → cars < 2 ^ m → size n cars ≤ m
size-most zero m cars lt = omega arith
size-most (suc n) m cars lt = elim (cases_lt n m) [
  | inl low ↦ (let le = size-le (suc n) cars in omega (arith, low, le))
  | inr past ↦ (let rest = size-most n m cars lt in let none = cond-false {A = ℕ} (has cars n) 1 0 (has_none_above m cars n lt past) in
      omega (arith, rest, none))
]

weight-most : (n m : ℕ) (f : Call → ℕ) → ((call : Call) → f call < 2 ^ m) → (calls : List Call) → weight n (map f calls) ≤ m ^ length calls
weight-most n m f h [] = omega (arith, pow-zero m)
weight-most n m f h (call ∷ calls) =
    let here = size-most n m (f call) (h call) in
    let rest = weight-most n m f h calls in
    let first = mul-le-mul_right (weight n (map f calls)) here in
    let then = mul-le-mul_left m rest in
    let grown : m ^ suc (length calls) ≡ m ^ length calls * m = pow-suc m (length calls) in
    omega (arith, first, then, grown)

root-full : (s : Snapshot) (n : ℕ) → n ≡ 16 → IsAccepted s → 1 ≤ weight n (root_of s)
root-full s n is16 accepted =
    weight-full n (root_of s) (λ j lt. each j (subst (λ (k : ℕ). j < k) (length-root_of s) lt))
  where
    each : (j : ℕ) → j < call_count s → 1 ≤ size n (set_of (root_of s) j)
    each j lt =
        let some = any_below-true (car_count s) (has (set_of (root_of s) j)) ((root_is_node s accepted).some j lt) in
        let high = accepted.building.cars_high in
        let below = some.1 in
        size-some n (set_of (root_of s) j) some.0 (omega (arith, high, most_cars-le s.building.version, below, is16)) some.2

-- A whole tree whose splits divide sets has fewer twigs than twice the ways to give each call a car.
pub twigs-few : (s : Snapshot) (plan : List (List Stop)) (cost bound : ℕ) (tree : List Twig) → IsAccepted s → Proves s plan cost bound tree
    → length tree + 1 ≤ 2 * car_count s ^ call_count s
twigs-few s plan cost bound tree accepted proves = by_bound 16 refl
  where
    by_bound : (n : ℕ) → n ≡ 16 → length tree + 1 ≤ 2 * car_count s ^ call_count s
    by_bound n is16 =
        let all = twigs-weigh s bound n is16 (root_place s ∷ []) tree proves.whole (root-full s n is16 accepted, tt) proves.sound in
        let most = weight-most n (car_count s) (λ (call : Call). set_where (car_count s) (λ c. is_possible s c call))
        (λ call. set_where-below (car_count s) (λ c. is_possible s c call)) s.calls in
        omega (arith, all, most)

-- ---- sufficient limits

-- no car has as many partial tours in a node as the sufficient limit
abbrev pub HasFewTours : Snapshot → Type 0
HasFewTours s = (node : Node) (c n : ℕ) → c < car_count s → HasPartialTours s node c n → n < tours_enough s

-- With sufficient limits a search ends solved: its cost is its bound.
pub enough_is_solved : (start : List ℤ) (least : ℤ) (s : Snapshot) (rounds most_tours : ℕ) (plan : List (List Stop)) (cost bound : ℕ) (tree : List Twig)
    (turns : List Turn) (why : StopReason) → IsAccepted s → HasFewTours s → rounds_enough s ≤ rounds → tours_enough s ≤ most_tours
    → IsFound start least s rounds most_tours plan cost bound tree turns why → (cost ≡ bound) × (why ≡ Solved)
enough_is_solved start least s rounds most_tours plan cost bound tree turns why accepted few_tours many_rounds many_moves is =
    by_reason why is.reason
  where
    at_end : (count car : ℕ) (p : Placed) → tours_enough s ≤ count → car < car_count s → IsEndOf s cost car count p.place p.twig → ⊥
    at_end count car p many lt h = by_twig p.twig h
      where
        by_twig : (twig : Twig) → IsEndOf s cost car count p.place twig → ⊥
        by_twig (Split j part) h = h
        by_twig (Tip leaf) h = let fewer = few_tours p.place.node car count lt h.1 in omega (arith, many, fewer)

    by_reason : (reason : StopReason) → IsReason s rounds most_tours cost bound tree reason → (cost ≡ bound) × (reason ≡ Solved)
    by_reason Solved h = (h, refl)
    by_reason (Rounds done) h =
        let few = twigs-few s plan cost bound tree accepted is.proves in
        let most = h.twigs in
        let limit = h.limit in
        absurd (omega (arith, few, most, limit, many_rounds))
    by_reason (Moves car count) h =
        let limit = h.limit in
        absurd (at_end count car h.at_car.1 (omega (arith, limit, many_moves)) h.is_car h.at_car.4)
    by_reason Told h = absurd h
