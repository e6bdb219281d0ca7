-- Sums of worths.
use Rattle.std.proofs.Common.{◌≡◌, Bool, true, if◌then◌else◌, int_lt, ℕ, ◌+◌, ◌^◌, ◌<◌, ◌≤◌, List, [], ◌∷◌, ◌++◌, length, map, get_or, take, ℤ, neg_ℤ, ◌+ℤ◌}
use Rattle.std.proofs.Common.{◌≤ℤ◌, to_z, of_z, SFits, pos, negsuc, refl, ap, ◌∙◌, sym, subst, arith, take_all}
use Rattle.std.specs.Int.{w128}
use lib.Signed.{mag}
use Rattle.std.proofs.lemmas.Int.{ints, to_z-of_z}
use Rattle.std.proofs.lemmas.List.{take_more}
use Rattle.search_model.specs.declared.TurnOf.{TurnOf}
use Rattle.search_model.specs.Sums.{int_sum_by}
use Rattle.assign_branch.specs.Pricings.{IsWorthSize}
use Rattle.price_scale.specs.Scale.{IsPriceSum, RoundsUp, price_sum}
use Rattle.search_model.specs.Sums.{rounded_up}
use Rattle.search_model.proofs.RoundLemmas.{price_sum-by, rounded_up-same}
use Rattle.search_tree.specs.Kept.{IsSmall, KeepsSum, of_lists}
use Rattle.search_tree.specs.Sheets.{IsSized, IsWorthSum, better_of, PriceSheet, sum_of_sheet, sum_of_worths, turn_worth}

pub int_sum_by-append : {X : Type 0} (f : X → ℤ) (xs ys : List X) → int_sum_by f (xs ++ ys) ≡ int_sum_by f xs +ℤ int_sum_by f ys
int_sum_by-append f [] ys = omega (arith, ints)
int_sum_by-append f (x ∷ xs) ys = omega (arith, ints, int_sum_by-append f xs ys)

-- one more item, for a loop's step
pub int_sum_by-more : {X : Type 0} (f : X → ℤ) (xs : List X) (i : ℕ) (d : X) → i < length xs
    → int_sum_by f (take (i + 1) xs) ≡ int_sum_by f (take i xs) +ℤ f (get_or xs i d)
int_sum_by-more f xs i d h =
    ap (int_sum_by f) (take_more xs i d h) ∙ omega (arith, ints, int_sum_by-append f (take i xs) (get_or xs i d ∷ []))

-- the worths that pricings answered, added up
pub turn_sum : (cars : List TurnOf) → sum_of_worths (map turn_worth cars) ≡ int_sum_by (λ (t : TurnOf). t.priced.worth) cars
turn_sum [] = refl
turn_sum (t ∷ cars) = ap (λ (z : ℤ). t.priced.worth +ℤ z) (turn_sum cars)

fits_128 : (z : ℤ) → neg_ℤ (pos (10 ^ 30)) ≤ℤ z → z ≤ℤ pos (10 ^ 30) → SFits w128 z
fits_128 (pos n) low high = record { sfits = omega (arith, ints, high) }
fits_128 (negsuc n) low high = record { sfits = omega (arith, ints, low) }

-- a number that is stored in 128 bits and read again
pub stored : (z : ℤ) → neg_ℤ (pos (10 ^ 30)) ≤ℤ z → z ≤ℤ pos (10 ^ 30) → to_z w128 (of_z w128 z) ≡ z
stored z low high = to_z-of_z w128 z (fits_128 z low high)

-- one more worth
stored_more : (n : ℕ) (sum worth : ℤ) → n < 16 → IsWorthSum n sum → IsWorthSize worth
    → to_z w128 (of_z w128 (sum +ℤ to_z w128 (of_z w128 worth))) ≡ sum +ℤ worth
stored_more n sum worth lt range size =
    let low = range.0 in
    let high = range.1 in
    let low' = size.0 in
    let high' = size.1 in
    let one = stored worth (omega (arith, ints, low')) (omega (arith, ints, high')) in
    ap (λ (z : ℤ). to_z w128 (of_z w128 (sum +ℤ z))) one ∙ stored (sum +ℤ worth) (omega (arith, ints, low, low', lt)) (omega (arith, ints, high, high', lt))

more_range : (n : ℕ) (sum worth : ℤ) → IsWorthSum n sum → IsWorthSize worth → IsWorthSum (n + 1) (sum +ℤ worth)
more_range n sum worth range size =
    let low = range.0 in
    let high = range.1 in
    let low' = size.0 in
    let high' = size.1 in
    (omega (arith, ints, low, low'), omega (arith, ints, high, high'))

-- the sum of the first k worths, where f is the worth of an item
pub record SumsTo {X : Type 0} (f : X → ℤ) (xs : List X) (k : ℕ) (sum : ℤ) : Type 0 where
  pub sum_is : sum ≡ int_sum_by f (take k xs)
  pub range : IsWorthSum k sum

-- a loop's step, at the item that it reads
pub sums_more : {X : Type 0} (f : X → ℤ) (xs : List X) (k : ℕ) (sum : ℤ) (x d : X) → k < length xs → length xs ≤ 16 → SumsTo f xs k sum → x ≡ get_or xs k d
    → IsWorthSize (f (get_or xs k d)) → SumsTo f xs (k + 1) (to_z w128 (of_z w128 (sum +ℤ to_z w128 (of_z w128 (f x)))))
sums_more {X = X} f xs k sum x d h few so e size =
    let size_of_x : IsWorthSize (f x) = subst (λ (y : X). IsWorthSize (f y)) (sym e) size in
    let is = stored_more k sum (f x) (omega arith) so.range size_of_x in
    record {
      sum_is = is ∙ ap (λ (z : ℤ). z +ℤ f x) so.sum_is ∙ ap (λ (y : X). int_sum_by f (take k xs) +ℤ f y) e ∙ sym (int_sum_by-more f xs k d h);
      range = subst (IsWorthSum (k + 1)) (sym is) (more_range k sum (f x) so.range size_of_x);
    }

pub sums_to_all : {X : Type 0} (f : X → ℤ) (xs : List X) (k : ℕ) (sum : ℤ) → SumsTo f xs k sum → length xs ≤ k → sum ≡ int_sum_by f xs
sums_to_all f xs k sum so h = so.sum_is ∙ ap (int_sum_by f) (take_all k xs h)

pub sums_within : {X : Type 0} (f : X → ℤ) (xs : List X) (k : ℕ) (sum : ℤ) → SumsTo f xs k sum → k ≤ 16 → IsWorthSum 16 sum
sums_within f xs k sum so h =
    let low = so.range.0 in
    let high = so.range.1 in
    (omega (arith, ints, low), omega (arith, ints, high))

-- ---- sheets

-- a sum of prices and one of worths, added up as they are stored
stored_sum : (of_prices of_worths : ℤ) → IsPriceSum of_prices → IsWorthSum 16 of_worths
    → to_z w128 (of_z w128 (to_z w128 (of_z w128 of_prices) +ℤ to_z w128 (of_z w128 of_worths))) ≡ of_prices +ℤ of_worths
stored_sum p w p_range w_range =
    let low = p_range.0 in
    let high = p_range.1 in
    let low' = w_range.0 in
    let high' = w_range.1 in
    let one = stored p (omega (arith, ints, low)) (omega (arith, ints, high)) in
    let two = stored w (omega (arith, ints, low')) (omega (arith, ints, high')) in
    let both = stored (p +ℤ w) (omega (arith, ints, low, low')) (omega (arith, ints, high, high')) in
    ap (λ (z : ℤ). to_z w128 (of_z w128 (z +ℤ to_z w128 (of_z w128 w)))) one ∙ ap (λ (z : ℤ). to_z w128 (of_z w128 (p +ℤ z))) two ∙ both

-- the sum of a sheet
summed : (sheet : PriceSheet) (of_prices of_worths : ℤ) → of_prices ≡ price_sum sheet.prices → of_worths ≡ sum_of_worths sheet.worths
    → of_prices +ℤ of_worths ≡ sum_of_sheet sheet
summed sheet p w p_is w_is = ap (λ (z : ℤ). z +ℤ w) (p_is ∙ price_sum-by sheet.prices) ∙ ap (λ (z : ℤ). int_sum_by (λ (x : ℤ). x) sheet.prices +ℤ z) w_is

-- what is added up again keeps the sum
pub keeps_sum : (prices : List ℤ) (worths : List ℤ) (of_prices of_worths : ℤ) → IsSized (of_lists prices worths) → of_prices ≡ price_sum prices
    → IsPriceSum of_prices → of_worths ≡ sum_of_worths worths → IsWorthSum 16 of_worths
    → KeepsSum prices worths (to_z w128 (of_z w128 (to_z w128 (of_z w128 of_prices) +ℤ to_z w128 (of_z w128 of_worths))))
keeps_sum prices worths p w sized p_is p_range w_is w_range =
    let low = p_range.0 in
    let high = p_range.1 in
    let low' = w_range.0 in
    let high' = w_range.1 in
    let is = stored_sum p w p_range w_range in
    record {
      sized = sized;
      small = subst IsSmall (sym is) (omega (arith, ints, low, low'), omega (arith, ints, high, high'));
      sum_is = is ∙ summed (of_lists prices worths) p w p_is w_is;
    }

-- a sheet with a greater sum is the better one
pub greater_is_better : (sheet other : PriceSheet) (sum of_prices of_worths : ℤ) → IsSmall sum → sum ≡ sum_of_sheet sheet → of_prices ≡ price_sum other.prices
    → IsPriceSum of_prices → of_worths ≡ sum_of_worths other.worths → IsWorthSum 16 of_worths
    → int_lt (to_z w128 (of_z w128 sum)) (to_z w128 (of_z w128 (to_z w128 (of_z w128 of_prices) +ℤ to_z w128 (of_z w128 of_worths)))) ≡ true
    → other ≡ better_of sheet other
greater_is_better sheet other sum p w small sum_is p_is p_range w_is w_range h =
    let own = stored sum small.0 small.1 ∙ sum_is in
    let others = stored_sum p w p_range w_range ∙ summed other p w p_is w_is in
    let greater : int_lt (sum_of_sheet sheet) (sum_of_sheet other) ≡ true = sym (ap (λ (z : ℤ). int_lt z (sum_of_sheet other)) own)
    ∙ sym (ap (int_lt (to_z w128 (of_z w128 sum))) others) ∙ h in
    sym (ap (λ (b : Bool). if b then other else sheet) greater)

-- the kept sum once it is stored
pub keeps_stored : (prices prices' : List ℤ) (worths worths' : List ℤ) (sum : ℤ) → prices ≡ prices' → worths ≡ worths' → KeepsSum prices worths sum
    → KeepsSum prices' worths' (to_z w128 (of_z w128 sum))
keeps_stored prices prices' worths worths' sum e e' kept =
    let small = kept.small in
    let is = stored sum small.0 small.1 in
    let at_prices = subst (λ (ps : List ℤ). KeepsSum ps worths sum) e kept in
    let at_both = subst (λ (ws : List ℤ). KeepsSum prices' ws sum) e' at_prices in
    subst (KeepsSum prices' worths') (sym is) at_both

-- a kept sum, rounded up
pub rounds_sum : (sheet : PriceSheet) (sum units : ℤ) → IsSmall sum → sum ≡ sum_of_sheet sheet → RoundsUp (pos 1000) (to_z w128 (of_z w128 sum)) units
    → mag units < 2 ^ 127 → to_z w128 (of_z w128 units) ≡ rounded_up (sum_of_sheet sheet)
rounds_sum sheet sum units small is rounds fits =
    let low = small.0 in
    let high = small.1 in
    let own = stored sum low high in
    let same = rounded_up-same sum units (subst (λ (z : ℤ). RoundsUp (pos 1000) z units) own rounds) in
    to_z-of_z w128 units (record { sfits = fits }) ∙ same ∙ ap rounded_up is
