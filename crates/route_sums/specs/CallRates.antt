-- What calls cost one car and are worth to it, laid out.
use Rattle.std.specs.Prelude.{◌≡◌, ◌≤◌, ◌<◌, ℕ, ◌*◌, ℤ, pos, Bool, List, true, length, slice_index, slice_index_or}
use Rattle.call_sets.specs.Counting.{has}
use Rattle.elevator_model.specs.Building.{floor_count}
use Rattle.elevator_model.specs.Snapshot.{Snapshot, call_count, call_of}
use Rattle.route_bound.specs.ForcedRoute.{cost_if_boarded, part_if_boarded}
use Rattle.route_sums.specs.Origins.{AreOrigins}
use Rattle.route_sums.specs.Rows.{AreTerms, BeginsApart, HasRow, cost_at}
use Rattle.route_sums.specs.declared.rates.CallRate.{CallRate}
use Rattle.route_sums.specs.declared.rows.RowTerm.{RowTerm}

-- What a contract sees of laid out rates: the calls that go up, those that begin below each floor, the rates, and for each
-- floor the calls that have a row and begin elsewhere, and the row.
pub record RouteRated : Type 0 where
  pub upward : ℕ
  pub below : List ℕ
  pub rates : List CallRate
  pub apart : List ℕ
  pub terms : List RowTerm

-- the rate is that of call j for car c at a price
pub record IsCallRate (s : Snapshot) (c j : ℕ) (price : ℤ) (required : Bool) (rate : CallRate) : Type 0 where
  pub origin : rate.origin ≡ (call_of s j).origin
  pub binds : rate.is_required ≡ required
  pub cost : (m : ℕ) → cost_at rate m ≡ cost_if_boarded s c j m
  pub wait : rate.wait ≤ 8000
  pub over : rate.over ≤ 8000
  pub ride : rate.ride ≤ 1600000000000
  pub worth : rate.price ≡ price
  pub released : rate.released ≤ 1000000000
  pub has_row : rate.has_row ≡ true → HasRow required price
  pub enough : (m : ℕ) → m ≤ 99100000000 → rate.enough ≤ m → part_if_boarded s c (λ _. price) (λ _. required) j m ≡ pos 0

-- the rates are those of the calls, in their order
pub record AreCallRates (s : Snapshot) (c : ℕ) (prices : ℕ → ℤ) (required : ℕ → Bool) (rates : List CallRate) : Type 0 where
  pub size : length rates ≡ call_count s
  pub each : (j : ℕ) (d : CallRate) → j < call_count s → IsCallRate s c j (prices j) (required j) (slice_index_or rates j d)

-- there is room for the rates of the calls of the snapshot, whose origins are laid out
pub record HasRoomFor (s : Snapshot) (laid : RouteRated) : Type 0 where
  pub origins : AreOrigins s laid.upward laid.below
  pub size : length laid.rates ≡ call_count s
  pub floors : length laid.apart ≡ floor_count s.building
  pub places : length laid.terms ≡ floor_count s.building * call_count s

-- the sets of calls by floor have those that have a row and begin elsewhere
pub record AreApart (s : Snapshot) (rates : List CallRate) (apart : List ℕ) : Type 0 where
  pub size : length apart ≡ floor_count s.building
  pub each : (f j : ℕ) → f < floor_count s.building → has (slice_index apart f) j ≡ true → BeginsApart rates f j

-- the calls are laid out for car c at these prices
pub record IsLaidOut (s : Snapshot) (c : ℕ) (prices : ℕ → ℤ) (required : ℕ → Bool) (laid : RouteRated) : Type 0 where
  pub origins : AreOrigins s laid.upward laid.below
  pub rates : AreCallRates s c prices required laid.rates
  pub apart : AreApart s laid.rates laid.apart
  pub terms : AreTerms s c laid.rates laid.terms
