-- Prices and worths of a leaf, in the order of the calls and cars.
use Rattle.std.specs.Prelude.{ℕ, ◌+◌, ◌*◌, ◌^◌, ◌<◌, ◌≤◌, ℤ, pos, neg_ℤ, ◌+ℤ◌, ◌≤ℤ◌, int_lt, List, [], ◌∷◌, All, length, map, slice_index_or, if◌then◌else◌}
use Rattle.std.specs.Int.{int_max}
use Rattle.price_scale.specs.Scale.{IsPrice}
use Rattle.search_model.specs.declared.PriceOf.{PriceOf}
use Rattle.search_model.specs.declared.WorthOf.{WorthOf}
use Rattle.search_model.specs.declared.Leaf.{Leaf}
use Rattle.search_model.specs.declared.Twig.{Twig}
use Rattle.search_model.specs.declared.Twig.TheVariants.{Split, Leaf as Tip}
use Rattle.search_model.specs.declared.TurnOf.{TurnOf}
use Rattle.search_model.specs.Sums.{int_sum_by}
use Rattle.assign_branch.specs.Pricings.{IsWorthSize}
use Rattle.search_model.specs.Solving.{no_turn}

-- a price for each call and a worth for each car
pub record PriceSheet : Type 0 where
  pub prices : List ℤ
  pub worths : List ℤ

abbrev pub worth_of_car : PriceSheet → ℕ → ℤ
worth_of_car sheet c = slice_index_or sheet.worths c (pos 0)

abbrev pub sum_of_worths : List ℤ → ℤ
sum_of_worths worths = int_sum_by (λ (worth : ℤ). worth) worths

-- the prices and worths, added up
abbrev pub sum_of_sheet : PriceSheet → ℤ
sum_of_sheet sheet = int_sum_by (λ (x : ℤ). x) sheet.prices +ℤ sum_of_worths sheet.worths

-- ---- sizes

abbrev pub AreWorthSizes : List ℤ → Type 0
AreWorthSizes worths = (c : ℕ) → c < length worths → IsWorthSize (slice_index_or worths c (pos 0))

-- what the worths of n cars can sum to
abbrev pub IsWorthSum : (n : ℕ) → ℤ → Type 0
IsWorthSum n sum = (neg_ℤ (pos (n * 10 ^ 27)) ≤ℤ sum) × (sum ≤ℤ pos (n * 10 ^ 27))

pub record IsSized (sheet : PriceSheet) : Type 0 where
  pub calls : length sheet.prices ≤ 128
  pub cars : length sheet.worths ≤ 16
  pub worths : AreWorthSizes sheet.worths

-- the worths that pricings answered
abbrev pub AreTurnSizes : List TurnOf → Type 0
AreTurnSizes cars = (c : ℕ) → c < length cars → IsWorthSize (slice_index_or cars c no_turn).priced.worth

-- ---- leaves

abbrev pub prices_from : (call : ℕ) → List ℤ → List PriceOf
prices_from call [] = []
prices_from call (price ∷ prices) = record { call = call; price = price } ∷ prices_from (call + 1) prices

abbrev pub worths_from : (claim car : ℕ) → List ℤ → List WorthOf
worths_from claim car [] = []
worths_from claim car (worth ∷ worths) = record { car = car; worth = worth; claim = claim } ∷ worths_from claim (car + 1) worths

-- the leaf of a certificate that states these, with this claim for each worth
abbrev pub leaf_with : (claim : ℕ) → PriceSheet → Leaf
leaf_with claim sheet = record { prices = prices_from 0 sheet.prices; worths = worths_from claim 0 sheet.worths }

-- the leaf of a search: it states no claims, what states them comes after it
abbrev pub leaf_of : PriceSheet → Leaf
leaf_of sheet = leaf_with 0 sheet

-- each price of a leaf lies in its range, and each worth
pub record IsSizedLeaf (leaf : Leaf) : Type 0 where
  pub prices : All (λ (p : PriceOf). IsPrice p.price) leaf.prices
  pub worths : All (λ (w : WorthOf). IsWorthSize w.worth) leaf.worths

-- the same, and a part is a set of cars
abbrev pub IsSizedTwig : Twig → Type 0
IsSizedTwig (Split j part) = part < 2 ^ 16
IsSizedTwig (Tip leaf) = IsSizedLeaf leaf

-- ---- pricings

abbrev pub turn_worth : TurnOf → ℤ
turn_worth turn = turn.priced.worth

-- what the pricings of all cars at these prices state
abbrev pub sheet_of_turn : (prices : List ℤ) → List TurnOf → PriceSheet
sheet_of_turn prices cars = record { prices = prices; worths = map turn_worth cars }

-- each car keeps the greater of its two worths
abbrev pub raised : List ℤ → List TurnOf → List ℤ
raised [] cars = []
raised (worth ∷ worths) [] = worth ∷ worths
raised (worth ∷ worths) (turn ∷ cars) = int_max worth (turn_worth turn) ∷ raised worths cars

-- the sheet with the greater sum
abbrev pub better_of : PriceSheet → PriceSheet → PriceSheet
better_of sheet other = if int_lt (sum_of_sheet sheet) (sum_of_sheet other) then other else sheet

abbrev pub raised_sheet : PriceSheet → List TurnOf → PriceSheet
raised_sheet sheet cars = record { prices = sheet.prices; worths = raised sheet.worths cars }
