-- Which reason is chosen.
use Rattle.std.specs.Prelude.{◌≡◌, ℕ, ◌<◌, ◌≤◌, ℤ, pos, ◌*ℤ◌, ◌≤ℤ◌, length, Bool, true, false, Option, Some, None}
use Rattle.search_model.specs.declared.Turn.{Turn}
use Rattle.search_model.specs.Solving.{turn_of_car}
use Rattle.root_prices.specs.declared.reasons.RootReason.{RootReason}
use Rattle.root_prices.specs.declared.reasons.RootReason.TheVariants.{Best, Gap, Moves, Pairs}
use Rattle.root_prices.specs.RootAnswers.{AreApart}

abbrev pub HasFewCars : Turn → Type 0
HasFewCars turn = length turn.cars ≤ 16

abbrev pub IsNoneSpent : Turn → Type 0
IsNoneSpent turn = (c : ℕ) → c < length turn.cars → (turn_of_car turn c).priced.spent ≡ false

pub record IsSpentCar (c : ℕ) (turn : Turn) : Type 0 where
  pub within : c < length turn.cars
  pub spent : (turn_of_car turn c).priced.spent ≡ true

-- the bound and the cost do not meet, and this car, if any, was spent, and the search for shares or not
pub record IsOpenBy (bound : ℤ) (cost : ℕ) (car given : Option ℕ) : Type 0 where
  pub apart : AreApart bound cost
  pub car_is : car ≡ given

abbrev pub IsChosen : (bound : ℤ) → (cost : ℕ) → (car : Option ℕ) → (spent : Bool) → (limit : ℕ) → RootReason → Type 0
IsChosen bound cost car spent limit Best = pos cost ≤ℤ (pos 2 *ℤ bound)
IsChosen bound cost car spent limit Gap = IsOpenBy bound cost car None × (spent ≡ false)
IsChosen bound cost car spent limit (Moves c count) = IsOpenBy bound cost car (Some c) × (count ≡ limit)
IsChosen bound cost car spent limit (Pairs count) = IsOpenBy bound cost car None × (spent ≡ true) × (count ≡ limit)
