-- The running sums of a bound.
use Rattle.std.specs.Prelude.{◌≡◌, ◌+◌, ◌*◌, ◌-◌, ◌^◌, ◌<◌, ◌≤◌, ◌&&◌, not, nat_lt, ℕ, Bool, true, length, Some, pos, neg_ℤ, ◌≤ℤ◌}
use Rattle.call_sets.specs.Counting.{has, sum_where}
use Rattle.elevator_model.specs.Snapshot.{Snapshot, call_count, spec_of}
use Rattle.elevator_model.specs.Travel.{time_between}
use Rattle.elevator_model.specs.Tours.{Progress, rider_count}
use Rattle.elevator_model.specs.declared.Move.TheVariants.{Leave}
use Rattle.elevator_model.specs.Partial.{Course, move_on}
use Rattle.price_scale.specs.Scale.{IsPriceSum}
use Rattle.search_model.specs.Bounds.{cost_if_alone, cost_if_straight, bound_after}
use Rattle.search_model.specs.Sums.{int_sum_where}
use Rattle.car_layout.specs.Layouts.{persons_to, moments_to}
use Rattle.partial_tours.specs.Courses.{reached}
use Rattle.pricing_bound.specs.declared.straight.Sums.{Sums}
use Rattle.pricing_bound.specs.declared.waiting.Waiting.{Waiting}
use Rattle.pricing_bound.specs.Aims.{Aim, IsBoundSize, completion_bound_for}
use Rattle.pricing_bound.specs.Rates.{counts_at, rise_at, term_at}

-- call j is allowed, has not boarded, and is required or lowers the bound where it boards at the moment m
abbrev pub is_counted_at : Aim → Progress → (m j : ℕ) → Bool
is_counted_at a p m j = nat_lt j (call_count a.snapshot) && a.allowed j && not (p.boarded j) && counts_at a m j

-- the same where the doors are open
abbrev pub is_counted : Aim → Progress → ℕ → Bool
is_counted a p j = is_counted_at a p p.opened j

-- from the moment m to another one what call j costs alone grows evenly
abbrev pub IsEven : Aim → (m until j : ℕ) → Type 0
IsEven a m until j = (k : ℕ) → m ≤ k → k ≤ until → cost_if_alone a.snapshot j k ≡ cost_if_alone a.snapshot j m + rise_at a.snapshot m j * (k - m)

-- calls, what they cost at the moment without their prices, and how that grows
pub record AreEven (a : Aim) (w : Waiting) : Type 0 where
  pub calls : (j : ℕ) → has w.counted j ≡ true → j < call_count a.snapshot
  pub sum : w.sum ≡ int_sum_where (call_count a.snapshot) (has w.counted) (term_at a w.moment)
  pub low : neg_ℤ (pos (256 * 10 ^ 24)) ≤ℤ w.sum
  pub high : w.sum ≤ℤ pos (256 * 10 ^ 24)
  pub slope : w.growth.slope ≡ sum_where (call_count a.snapshot) (has w.counted) (rise_at a.snapshot w.moment)
  pub gentle : w.growth.slope ≤ 2048000
  pub even : (j : ℕ) → has w.counted j ≡ true → IsEven a w.moment w.growth.until j

-- the sums are those of a progress: the completion bound, the prices of the calls that boarded, and the calls that
-- are counted, with what they add where the doors are open
pub record AreSums (a : Aim) (sums : Sums) (p : Progress) : Type 0 where
  pub bound : sums.bound ≡ bound_after a.snapshot a.car a.price a.allowed a.required p
  pub small : IsBoundSize sums.bound
  pub paid : sums.paid ≡ int_sum_where (call_count a.snapshot) p.boarded a.price
  pub paid_small : IsPriceSum sums.paid
  pub counted : (j : ℕ) → has sums.waiting.counted j ≡ is_counted a p j
  pub waiting : AreEven a sums.waiting
  pub opened : sums.waiting.moment ≡ p.opened

-- they are those of where moves lead
abbrev pub StandFor : Aim → Sums → Course → Type 0
StandFor a sums x = AreSums a sums (reached a.snapshot a.car x)

-- The sums are those of a car that departs from where moves lead: the prices of the calls that boarded, and the calls
-- that are counted at a moment before which the doors of no next stop are open; the bound is at most that of each next
-- stop.
pub record AreDeparting (a : Aim) (sums : Sums) (x : Course) : Type 0 where
  pub least : (g : ℕ) (y : Course) → move_on a.snapshot a.car x (Leave g) ≡ Some y → sums.bound ≤ℤ completion_bound_for a y
  pub small : IsBoundSize sums.bound
  pub paid : sums.paid ≡ int_sum_where (call_count a.snapshot) (reached a.snapshot a.car x).boarded a.price
  pub paid_small : IsPriceSum sums.paid
  pub counted : (j : ℕ) → has sums.waiting.counted j ≡ is_counted_at a (reached a.snapshot a.car x) sums.waiting.moment j
  pub waiting : AreEven a sums.waiting
  pub early : (g : ℕ) (y : Course) → move_on a.snapshot a.car x (Leave g) ≡ Some y → sums.waiting.moment ≤ (reached a.snapshot a.car y).opened

-- what those carried cost if the car went straight to each destination: all, the calls of a set, the groups
abbrev pub cost_of_rides : Snapshot → Progress → ℕ
cost_of_rides s p = sum_where (rider_count s) p.carried (cost_if_straight s p)

abbrev pub cost_of_call_rides : Snapshot → Progress → (calls : ℕ) → ℕ
cost_of_call_rides s p calls = sum_where (call_count s) (has calls) (cost_if_straight s p)

abbrev pub cost_of_group_rides : Snapshot → Progress → ℕ
cost_of_group_rides s p = sum_where (length s.aboard) (λ k. p.carried (call_count s + k)) (λ k. cost_if_straight s p (call_count s + k))

-- the doors are open no sooner than those of any car that stands now
abbrev pub IsAfterNow : Snapshot → ℕ → Progress → Type 0
IsAfterNow s c p = s.moment + (spec_of s c).opening ≤ p.opened

-- the ms that the persons aboard who go to floor g would have ridden when the car is there, if it went there straight
abbrev pub ridden_to : Snapshot → ℕ → Progress → ℕ → ℕ
ridden_to s c p g = persons_to s.aboard c g * (p.opened + time_between s.building.travel p.floor g) - moments_to s.aboard c g

-- the progress with the car at a stop at floor g, its doors open at the moment m
abbrev pub standing_at : Progress → (g m : ℕ) → Progress
standing_at p g m = record
    { begun = true; floor = g; opened = m; leaves = m; boarded = p.boarded; carried = p.carried; boarded_at = p.boarded_at; delivered_at = p.delivered_at }
