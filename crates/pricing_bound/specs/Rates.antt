-- What calls cost, laid out, and what they add to a bound.
use Rattle.std.specs.Prelude.{◌≡◌, ◌≤◌, ◌<◌, ℕ, ◌+◌, ◌-◌, ◌*◌, ℤ, pos, ◌-ℤ◌, int_lt, Bool, false, true, ◌||◌, List, length, slice_index, slice_index_or}
use Rattle.std.specs.Prelude.{if◌then◌else◌}
use Rattle.call_sets.specs.Counting.{has}
use Rattle.elevator_model.specs.Costs.{cost_of_rider}
use Rattle.elevator_model.specs.Snapshot.{Snapshot, call_count, call_of}
use Rattle.elevator_model.specs.Travel.{Square, time_between}
use Rattle.price_scale.specs.Scale.{IsPrice}
use Rattle.search_model.specs.Bounds.{cost_if_alone}
use Rattle.search_model.specs.Prices.{scaled, price_at}
use Rattle.pricing_bound.specs.declared.rates.End.{End}
use Rattle.pricing_bound.specs.declared.rates.Rate.{Rate}
use Rattle.pricing_bound.specs.Aims.{Aim}

-- what a contract sees of laid out rates: whose calls they are of, and the prices
pub record Rated : Type 0 where
  pub snapshot : Snapshot
  pub prices : List ℤ

-- the aim of a car at these rates, with a set of allowed and one of required calls
abbrev pub aim_at : Rated → (car allowed required : ℕ) → Aim
aim_at rated car allowed required =
    record { snapshot = rated.snapshot; car = car; price = price_at rated.prices; allowed = has allowed; required = has required }

-- what call j costs without its price, if it boarded at the moment m and rode straight to its destination
abbrev pub term_at : Aim → (m j : ℕ) → ℤ
term_at a m j = scaled (cost_if_alone a.snapshot j m) -ℤ a.price j

-- it adds that to a bound: it is required, or lowers the bound
abbrev pub counts_at : Aim → (m j : ℕ) → Bool
counts_at a m j = a.required j || int_lt (term_at a m j) (pos 0)

-- what it adds
abbrev pub adds_at : Aim → (m j : ℕ) → ℤ
adds_at a m j = if a.required j then term_at a m j else (if int_lt (term_at a m j) (pos 0) then term_at a m j else pos 0)

-- how much more call j costs that boards a ms past the moment m and rides straight to its destination
abbrev pub rise_at : Snapshot → (m j : ℕ) → ℕ
rise_at s m j = cost_if_alone s j (m + 1) - cost_if_alone s j m

-- what the wait until the moment m costs at the rate
abbrev pub wait_at : Rate → (m : ℕ) → ℕ
wait_at rate m = rate.wait * (m - rate.released) + rate.over * (m - rate.late)

-- the rate is that of call j
pub record IsRate (s : Snapshot) (j : ℕ) (rate : Rate) : Type 0 where
  pub cost : (boarded delivered : ℕ) → wait_at rate boarded + rate.travel * (delivered - boarded) ≡ cost_of_rider s j boarded delivered
  pub alone : (m : ℕ) → wait_at rate m + rate.ride ≡ cost_if_alone s j m
  pub wait : rate.wait ≤ 8000
  pub over : rate.over ≤ 8000
  pub travel : rate.travel ≤ 8000
  pub to : rate.to ≡ (call_of s j).destination
  pub ride : rate.ride ≤ 160000000000
  pub ordered : rate.released ≤ rate.late
  pub early : rate.released ≤ 1000000000
  pub price : IsPrice rate.price
  pub below : (k : ℕ) → k < rate.below → int_lt (scaled (wait_at rate k + rate.ride) -ℤ rate.price) (pos 0) ≡ true

-- the rates are those of the calls, in their order
pub record AreRates (s : Snapshot) (rates : List Rate) : Type 0 where
  pub size : length rates ≡ call_count s
  pub each : (j : ℕ) (d : Rate) → j < call_count s → IsRate s j (slice_index_or rates j d)

-- before the end each call that is not early to it costs less than its price alone, as its rate tells
abbrev pub IsEnd : List Rate → End → Type 0
IsEnd rates end = (j : ℕ) (d : Rate) → j < length rates → has end.early j ≡ false → end.until ≤ (slice_index_or rates j d).below

-- each of these is such an end
abbrev pub AreEnds : List Rate → List End → Type 0
AreEnds rates ends = (place : ℕ) (d : End) → place < length ends → IsEnd rates (slice_index_or ends place d)

-- the time is that of a way from floor f to another floor
abbrev pub IsTimeFrom : Square → (f time : ℕ) → Type 0
IsTimeFrom travel f time = (g : ℕ) × (g < travel.floors) × (g ≡ f → ⊥) × (time ≡ time_between travel f g)

-- and there is no shorter one
pub record IsNearest (travel : Square) (f time : ℕ) : Type 0 where
  pub there : IsTimeFrom travel f time
  pub least : (g : ℕ) → g < travel.floors → (g ≡ f → ⊥) → time ≤ time_between travel f g

-- the times are such ones of the floors, in their order
pub record AreNearest (travel : Square) (times : List ℕ) : Type 0 where
  pub size : length times ≡ travel.floors
  pub each : (f : ℕ) → f < travel.floors → IsNearest travel f (slice_index times f)
  pub small : (f : ℕ) → f < travel.floors → slice_index times f ≤ 20000000

-- the prices of the calls are prices
abbrev pub ArePrices : Rated → Type 0
ArePrices rated = (j : ℕ) → IsPrice (price_at rated.prices j)
