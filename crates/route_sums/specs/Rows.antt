-- What calls add from each floor, as it grows with the moment at which a car leaves.
use Rattle.std.specs.Prelude.{◌≡◌, ◌≤◌, ◌<◌, ℕ, ◌+◌, ◌-◌, ◌*◌, ◌^◌, ℤ, pos, neg_ℤ, ◌+ℤ◌, ◌-ℤ◌, ◌≤ℤ◌, int_lt, if◌then◌else◌, Bool, true, false, List, length}
use Rattle.std.specs.Prelude.{slice_index_or}
use Rattle.elevator_model.specs.Building.{floor_count}
use Rattle.elevator_model.specs.Snapshot.{Snapshot, spec_of}
use Rattle.elevator_model.specs.Travel.{time_between}
use Rattle.search_model.specs.Prices.{scaled}
use Rattle.route_sums.specs.declared.rates.CallRate.{CallRate}
use Rattle.route_sums.specs.declared.rows.RowTerm.{RowTerm}

-- what the call costs at the rate that boards at the moment m
abbrev pub cost_at : CallRate → (m : ℕ) → ℕ
cost_at rate m = (rate.wait * (m - rate.released) + rate.over * (m - rate.late)) + rate.ride

-- a rate and a term of no meaning
abbrev pub no_rate : CallRate
no_rate = record { origin = 0; is_required = false; released = 0; late = 0; wait = 0; over = 0; ride = 0; price = pos 0; enough = 0; has_row = false }

abbrev pub no_term : RowTerm
no_term = record { constant = pos 0; weight = 0 }

-- what a call may be that has a row
pub record HasRow (required : Bool) (price : ℤ) : Type 0 where
  pub free : required ≡ false
  pub least : neg_ℤ (pos (10 ^ 16)) ≤ℤ price
  pub most : price ≤ℤ pos (10 ^ 16)

-- how great a rate may be
pub record IsRateSize (s : Snapshot) (rate : CallRate) : Type 0 where
  pub origin : rate.origin < floor_count s.building
  pub released : rate.released ≤ 1000000000
  pub wait : rate.wait ≤ 8000
  pub ride : rate.ride ≤ 1600000000000
  pub price : rate.has_row ≡ true → HasRow rate.is_required rate.price

-- the term where the car leaves at a moment
abbrev pub row_at : RowTerm → (leaves : ℕ) → ℤ
row_at term leaves = term.constant +ℤ pos (term.weight * leaves)

-- what call j adds by a row: nothing that is positive
abbrev pub row_part : List RowTerm → (leaves j : ℕ) → ℤ
row_part row leaves j = let term = row_at (slice_index_or row j no_term) leaves in if int_lt term (pos 0) then term else pos 0

-- how great a term may be
pub record IsTermSize (term : RowTerm) : Type 0 where
  pub least : neg_ℤ (pos (3 * 10 ^ 16)) ≤ℤ term.constant
  pub most : term.constant ≤ℤ pos (3 * 10 ^ 16)
  pub weight : term.weight ≤ 8000000

-- the term is no more than what the call adds at the rate where the doors open this much after the car leaves
pub record IsTermOf (rate : CallRate) (way : ℕ) (term : RowTerm) : Type 0 where
  pub low : (leaves : ℕ) → row_at term leaves ≤ℤ (scaled (cost_at rate (leaves + way)) -ℤ rate.price)
  pub size : IsTermSize term

-- call j has a row, and does not begin at floor f
pub record BeginsApart (rates : List CallRate) (f j : ℕ) : Type 0 where
  pub below : j < length rates
  pub has_row : (slice_index_or rates j no_rate).has_row ≡ true
  pub apart : (slice_index_or rates j no_rate).origin ≡ f → ⊥

-- the term of call j from floor f for car c, where the call has a row
abbrev pub IsTermAt : Snapshot → (c : ℕ) → List CallRate → List RowTerm → (f j : ℕ) → Type 0
IsTermAt s c rates terms f j =
    (slice_index_or rates j no_rate).has_row ≡ true
    → IsTermOf (slice_index_or rates j no_rate) (time_between s.building.travel f (slice_index_or rates j no_rate).origin + (spec_of s c).opening)
    (slice_index_or terms (f * length rates + j) no_term)

-- the terms are those of the calls at these rates, floor by floor
pub record AreTerms (s : Snapshot) (c : ℕ) (rates : List CallRate) (terms : List RowTerm) : Type 0 where
  pub size : length terms ≡ floor_count s.building * length rates
  pub each : (f j : ℕ) → f < floor_count s.building → j < length rates → IsTermAt s c rates terms f j
