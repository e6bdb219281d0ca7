-- What a sheet keeps beside its prices and worths. No public clause cites this module.
use Rattle.std.specs.Prelude.{◌≡◌, ◌^◌, ℤ, pos, neg_ℤ, ◌≤ℤ◌, List}
use Rattle.search_tree.specs.Sheets.{PriceSheet, IsSized, sum_of_sheet}

abbrev pub of_lists : List ℤ → List ℤ → PriceSheet
of_lists prices worths = record { prices = prices; worths = worths }

-- it may be rounded up to cost units
abbrev pub IsSmall : ℤ → Type 0
IsSmall sum = (neg_ℤ (pos (10 ^ 30)) ≤ℤ sum) × (sum ≤ℤ pos (10 ^ 30))

-- the sizes are as they may be, and the sum is theirs
pub record KeepsSum (prices worths : List ℤ) (sum : ℤ) : Type 0 where
  pub sized : IsSized (of_lists prices worths)
  pub small : IsSmall sum
  pub sum_is : sum ≡ sum_of_sheet (of_lists prices worths)
