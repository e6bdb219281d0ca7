-- What the entries of a leaf state, and the desks at which kept lists are counted.
use Rattle.std.specs.Prelude.{◌≡◌, ℕ, ◌==◌, ℤ, pos, List, length, sum_by, slice_index_or, if◌then◌else◌}
use Rattle.elevator_model.specs.Snapshot.{Snapshot, call_count, car_count}
use Rattle.search_model.specs.declared.PriceOf.{PriceOf}
use Rattle.search_model.specs.declared.WorthOf.{WorthOf}
use Rattle.search_model.specs.Sums.{int_sum_by}
use Rattle.assign_branch.specs.Pricings.{IsWorthSize}
use Rattle.partial_tours.specs.PartialTour.{PartialTour}
use Rattle.pricing_bound.specs.Rates.{Rated}
use Rattle.kept_tours.specs.declared.entries.Stake.{Stake}

-- what entries state of a call and of a car
abbrev pub price_among : List PriceOf → ℕ → ℤ
price_among prices j = int_sum_by (λ (p : PriceOf). if p.call == j then p.price else pos 0) prices

abbrev pub worth_among : List WorthOf → ℕ → ℤ
worth_among worths c = int_sum_by (λ (w : WorthOf). if w.car == c then w.worth else pos 0) worths

abbrev pub claim_among : List WorthOf → ℕ → ℕ
claim_among worths c = sum_by (λ (w : WorthOf). if w.car == c then w.claim else 0) worths

-- the worth is of absolute value at most 10^27
abbrev pub HasWorthSize : WorthOf → Type 0
HasWorthSize w = IsWorthSize w.worth

abbrev pub no_stake : Stake
no_stake = record { worth = pos 0; claim = 0 }

abbrev pub worth_at : List Stake → ℕ → ℤ
worth_at stakes c = (slice_index_or stakes c no_stake).worth

abbrev pub claim_at : List Stake → ℕ → ℕ
claim_at stakes c = (slice_index_or stakes c no_stake).claim

-- A desk of the snapshot, with room for a price for each call and a stake for each car.
pub record IsDesk (s : Snapshot) (prefix : PartialTour) (rates : Rated) (prices : List ℤ) (stakes : List Stake) : Type 0 where
  pub prefix_is : prefix.snapshot ≡ s
  pub rates_are : rates.snapshot ≡ s
  pub calls : length prices ≡ call_count s
  pub cars : length stakes ≡ car_count s
