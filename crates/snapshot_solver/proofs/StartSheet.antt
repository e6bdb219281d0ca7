-- The leaf with which a search starts has right worths in the root, where its kept lists are empty, and its sum is
-- what no plan costs less than.
use Rattle.std.proofs.Common.{◌≡◌, ℕ, zero, suc, ◌+◌, ◌<◌, Bool, false, List, [], length, get_or, refl, sym, ap, ◌∙◌, subst, zero-add, arith}
use Rattle.std.specs.Prelude.{ℤ, pos, int_lt}
use Rattle.std.proofs.lemmas.Int.{ints}
use Rattle.std.proofs.lemmas.Bool.{and_right, cond-false}
use Rattle.std.proofs.lemmas.List.FromFn.{get_or-map-range_with_len, length-map-range_with_len}
use Rattle.elevator_model.specs.declared.Move.{Move}
use Rattle.elevator_model.specs.Snapshot.{Snapshot, IsAccepted, car_count, call_count, group_of}
use Rattle.elevator_model.specs.Partial.{Course, course_start, moves_of}
use Rattle.search_model.specs.declared.Leaf.{Leaf}
use Rattle.search_model.specs.Bounds.{completion_bound}
use Rattle.search_model.specs.Certificates.{price_in, worth_in}
use Rattle.search_model.specs.Extending.{can_be_extended}
use Rattle.search_model.specs.Kept.{is_kept, kept_list}
use Rattle.search_model.specs.Nodes.{allows, requires_of, root_of}
use Rattle.search_model.specs.Orders.{lists_from, move_limit}
use Rattle.search_model.specs.Prices.{IsWorth, price_at, scaled}
use Rattle.search_model.specs.Solving.{floor_of_bound, least_lone_cost, start_prices, straight_cost}
use Rattle.search_model.specs.Verdicts.{kept_at}
use Rattle.search_model.proofs.SumLemmas.{int_sum-same, scaled-sum}
use Rattle.assign_branch.specs.Pricings.{IsWorthSize}
use Rattle.pricing_bound.specs.LowerLemmas.{bound_is_lower}
use Rattle.search_tree.specs.Sheets.{AreWorthSizes, IsSizedLeaf, PriceSheet, leaf_with, sum_of_sheet}
use Rattle.search_tree.specs.Standing.{IsSheetIn}
use Rattle.search_tree.proofs.LeafFacts.{sum_of_leaf-sheet, price_in-sheet, worth_in-sheet, claim_in-sheet, whole_lists-sheet}
use Rattle.snapshot_solver.specs.Starts.{IsStartLeaf, start_sheet, start_worth, start_worths, aboard_cost}
use Rattle.snapshot_solver.proofs.SumLemmas.{int_sum_by-below, sum-by_owner}
use Rattle.snapshot_solver.proofs.StartBound.{bound-start, aboard_cost-size}

worth-at : (s : Snapshot) (c : ℕ) → c < car_count s → get_or (start_worths s) c (pos 0) ≡ start_worth s c
worth-at s c car = get_or-map-range_with_len (start_worth s) 0 (car_count s) c c (pos 0) car (zero-add c)

-- ---- worths

root-worth : (s : Snapshot) (c : ℕ) → IsAccepted s → c < car_count s → IsWorth s (root_of s) c (price_at (start_prices s)) (start_worth s c)
root-worth s c accepted car = λ tour within.
    bound_is_lower s c (price_at (start_prices s)) (allows (root_of s) c) (requires_of (root_of s) c) [] (course_start s c) tour accepted car refl
    (moves_of s tour, refl) within

-- ---- kept lists

none_from : (s : Snapshot) (c : ℕ) (allowed : ℕ → Bool) (keep : Course → Bool) (n : ℕ) (moves : List Move) (x : Course) → keep x ≡ false
    → lists_from s c allowed keep n moves x ≡ []
none_from s c allowed keep zero moves x e = refl
none_from s c allowed keep (suc n) moves x e = cond-false (keep x) _ [] e

not_below : (z : ℤ) → int_lt z z ≡ false
not_below z = grind (arith, ints)

-- no partial tour is kept for the bound of the empty one
none_kept : (s : Snapshot) (c : ℕ) (price : ℕ → ℤ) (allowed required : ℕ → Bool)
    → kept_list s c price allowed required (completion_bound s c price allowed required (course_start s c)) ≡ []
none_kept s c price allowed required =
    let worth = completion_bound s c price allowed required (course_start s c) in
    none_from s c allowed (is_kept s c price allowed required worth) (move_limit s c + 1) [] (course_start s c)
    (and_right (can_be_extended s c allowed required (course_start s c)) (int_lt worth worth) (not_below worth))

-- ---- all

start-in_root : (s : Snapshot) → IsAccepted s → IsSheetIn s (root_of s) (start_sheet s)
start-in_root s accepted =
    record {
      calls = length-map-range_with_len (λ j. scaled (least_lone_cost s j)) 0 (call_count s);
      cars = length-map-range_with_len (start_worth s) 0 (car_count s);
      worths = λ c car. subst (IsWorth s (root_of s) c (price_at (start_prices s))) (sym (worth-at s c car)) (root-worth s c accepted car);
    }

start-sum : (s : Snapshot) → IsAccepted s → sum_of_sheet (start_sheet s) ≡ scaled (floor_of_bound s)
start-sum s accepted =
    let prices = int_sum_by-below (λ (z : ℤ). z) (λ j. scaled (least_lone_cost s j)) (call_count s) in
    let worths = int_sum_by-below (λ (worth : ℤ). worth) (start_worth s) (car_count s) in
    let aboard = int_sum-same (car_count s) (start_worth s) (λ c. scaled (aboard_cost s c)) (λ c car. bound-start s c car) in
    let calls = scaled-sum (call_count s) (least_lone_cost s) in
    let cars = scaled-sum (car_count s) (aboard_cost s) in
    let groups = sum-by_owner (car_count s) (length s.aboard) (λ k. (group_of s k).car) (straight_cost s) (λ k lt. (accepted.groups k lt).car) in
    omega (arith, ints, prices, worths, aboard, calls, cars, groups)

-- ---- as the code has it

pub sheet-in_root : (s : Snapshot) (sheet : PriceSheet) → IsAccepted s → sheet.prices ≡ start_prices s → sheet.worths ≡ start_worths s
    → IsSheetIn s (root_of s) sheet
sheet-in_root s sheet accepted prices worths =
    subst (λ (xs : List ℤ). IsSheetIn s (root_of s) (record { prices = xs; worths = sheet.worths })) (sym prices)
    (subst (λ (ws : List ℤ). IsSheetIn s (root_of s) (record { prices = start_prices s; worths = ws })) (sym worths) (start-in_root s accepted))

pub sheet-sum : (s : Snapshot) (sheet : PriceSheet) → IsAccepted s → sheet.prices ≡ start_prices s → sheet.worths ≡ start_worths s
    → sum_of_sheet sheet ≡ scaled (floor_of_bound s)
sheet-sum s sheet accepted prices worths =
    ap (λ (xs : List ℤ). sum_of_sheet (record { prices = xs; worths = sheet.worths })) prices
    ∙ ap (λ (ws : List ℤ). sum_of_sheet (record { prices = start_prices s; worths = ws })) worths ∙ start-sum s accepted

pub worths-sized : (s : Snapshot) (worths : List ℤ) → IsAccepted s → worths ≡ start_worths s → AreWorthSizes worths
worths-sized s worths accepted e = subst AreWorthSizes (sym e) all
  where
    all : AreWorthSizes (start_worths s)
    all c lt =
        let cars = length-map-range_with_len (start_worth s) 0 (car_count s) in
        let car : c < car_count s = omega (arith, lt, cars) in
        subst IsWorthSize (sym (worth-at s c car)) (subst IsWorthSize (sym (bound-start s c car)) (aboard_cost-size s c accepted car))

-- ---- as a certificate states it

-- each worth is stated with claim 1
pub starts-leaf : (s : Snapshot) (sheet : PriceSheet) (leaf : Leaf) → sheet.prices ≡ start_prices s → sheet.worths ≡ start_worths s
    → IsSheetIn s (root_of s) sheet → sum_of_sheet sheet ≡ scaled (floor_of_bound s) → leaf ≡ leaf_with 1 sheet → IsSizedLeaf leaf → IsStartLeaf s leaf
starts-leaf s sheet leaf prices worths root sum is sized = subst (IsStartLeaf s) (sym is) (record {
  whole = whole_lists-sheet 1 s sheet root.calls root.cars;
  prices_are = λ j. ap (λ (price : ℕ → ℤ). price j) prices_stated;
  worths_are = worth_stated;
  worths = λ c car. subst (λ (price : ℕ → ℤ). IsWorth s (root_of s) c price (worth_in (leaf_with 1 sheet) c)) (sym (price_in-sheet 1 sheet))
      (subst (IsWorth s (root_of s) c (price_at sheet.prices)) (sym (worth_in-sheet 1 sheet c)) (root.worths c car));
  claims = λ c car. claim_in-sheet 1 sheet c (let cars = root.cars in omega (arith, car, cars));
  kept = λ c car. (let none = ap length (none_here c car) in omega (arith, none));
  sum = sum_of_leaf-sheet 1 sheet ∙ sum;
  sized = subst IsSizedLeaf is sized;
})
  where
    prices_stated : price_in (leaf_with 1 sheet) ≡ price_at (start_prices s)
    prices_stated = price_in-sheet 1 sheet ∙ ap price_at prices

    worth_stated : (c : ℕ) → c < car_count s → worth_in (leaf_with 1 sheet) c ≡ start_worth s c
    worth_stated c car = worth_in-sheet 1 sheet c ∙ ap (λ (ws : List ℤ). get_or ws c (pos 0)) worths ∙ worth-at s c car

    none_here : (c : ℕ) → c < car_count s → kept_at s (root_of s) (leaf_with 1 sheet) c ≡ []
    none_here c car =
        ap (λ (price : ℕ → ℤ). kept_list s c price (allows (root_of s) c) (requires_of (root_of s) c) (worth_in (leaf_with 1 sheet) c)) prices_stated
        ∙ ap (kept_list s c (price_at (start_prices s)) (allows (root_of s) c) (requires_of (root_of s) c)) (worth_stated c car)
        ∙ none_kept s c (price_at (start_prices s)) (allows (root_of s) c) (requires_of (root_of s) c)
